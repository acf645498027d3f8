-- A type by a number: the types of a record in flattening order as the places of their commands. The code's way to the layouts of Layout.
-- Assumes nothing.
use Rattle.std.specs.Prelude.{List, [], ◌∷◌, ◌++◌, cond, ℕ, ◌+◌, ◌-◌, ◌*◌, ◌/◌, ◌%◌, eqb, get_or, drop}
use Rattle.record.specs.Base.{Str}
use Rattle.record.specs.Stretch.{text_of}
use Rattle.record.specs.Operands.{text_at}
use Rattle.record.specs.Schema.{Field}
use Rattle.record.specs.Commands.{width_of, family_at, commands_at}
use Rattle.record.specs.Lists.{listed, anything, a_field, family_of}
use Rattle.record.specs.Steps.{fields_at}
use Rattle.record.specs.Seek.{places_of}
use Rattle.record.specs.declared.seek.Between.TheVariants.{Anything}
use Rattle.record.specs.Shapes.{places, fam_prefix}
use Rattle.record.specs.Reading.{Rec, schema_of}
use Rattle.layout.specs.Layout.{TypeLayout, variant_name}

-- the text that a structure, a family and a variant begin with
unfoldable pub name_at : Str → Str → ℕ → Str
name_at s p at = text_of p (text_at (drop at s) 1)

-- a handle is the place of the type's command; for a variant 65,536 times one more than its family's place goes with it
unfoldable pub family_part : ℕ → ℕ
family_part h = h / 65536

unfoldable pub place_part : ℕ → ℕ
place_part h = h % 65536

unfoldable pub type_name : Str → Str → ℕ → Str
type_name s p h =
    cond (eqb (family_part h) 0) (name_at s p (place_part h))
    (variant_name (name_at s p (family_part h - 1)) (name_at s p (place_part h)))

-- the handles of the commands at these places, in flattening order
unfoldable pub variant_handles : Str → ℕ → List ℕ → List ℕ
variant_handles s family ps = listed s a_field 10 (λ at rest. 65536 * (family + 1) + at) ps

unfoldable pub joined_handles : List (List ℕ) → List ℕ
joined_handles [] = []
joined_handles (l ∷ ls) = l ++ joined_handles ls

-- each family followed by its variants
unfoldable pub family_handles : Str → List ℕ → List ℕ
family_handles s ps = joined_handles (listed s anything 9 (λ at rest. at ∷ variant_handles s at rest) ps)

unfoldable pub handles_of : Str → List ℕ
handles_of s = places_of s Anything 8 0 ++ family_handles s (commands_at s 0)

-- the fields of a type, those in front of a family with them
unfoldable pub handle_fields : Str → Str → ℕ → List Field
handle_fields s p at =
    cond (eqb (get_or s at 0) 9) (fam_prefix (family_of p (family_at (drop at s)) [] []) ++ fields_at s p (at + width_of (get_or s at 0)))
    (fields_at s p (at + width_of (get_or s at 0)))

-- the layout of a handle
unfoldable pub layout_of : Rec → ℕ → TypeLayout
layout_of r h = record {
  name = type_name r.stream r.pool h;
  fields = places (schema_of r) 0 (handle_fields r.stream r.pool (place_part h));
}

-- the families' handles as the code goes along the stream, from a place on; `family` is one more than the place of the family whose variants may
-- follow, or 0
unfoldable pub families_from : Str → ℕ → ℕ → List ℕ
families_from s family at = cond (eqb family 0) [] (variant_handles s (family - 1) (commands_at s at)) ++ family_handles s (commands_at s at)
