-- The releases that members and values arrived in: member_release of released.rs and schema.rs, value_release of schema.rs. Assumes nothing.
use Rattle.std.specs.Prelude.{◌≡◌, Option}
use Rattle.record.specs.Base.{Str, or_option}
use Rattle.record.specs.Lists.{opt_of}
use Rattle.record.specs.declared.text.Text.{Text}

-- the answer is its own release, or else its parent's, over every pool
pub record Dated (own parent r : Option Text) : Type 0 where
  pub release : (p : Str) → opt_of p r ≡ or_option (opt_of p own) (opt_of p parent)
