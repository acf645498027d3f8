-- "The number of layouts changed against the released copy (unequal, or in one record only)" (02, W-210). Assumes nothing.
use Rattle.std.specs.Prelude.{ℕ, ◌+◌, List, not, length}
use Rattle.record.specs.Base.{is_some, filter_b}
use Rattle.record.specs.Schema.{Schema}
use Rattle.layout.specs.Layout.{TypeLayout, types, type_in}
use Rattle.definition.specs.Fields.{changed}

-- those of the first that are not in the second
unfoldable pub gone : List TypeLayout → List TypeLayout → List TypeLayout
gone was is = filter_b (λ (t : TypeLayout). not (is_some (type_in t.name is))) was

-- of one name the later layout counts, on both sides; a type without fields counts too
unfoldable pub count_changed : Schema → Schema → ℕ
count_changed is was = length (changed (types is) (types was)) + length (gone (types was) (types is))
