-- The name of a type in parts, as the code compares and puts it: a front, up to two colons and a back. The name itself is variant_name of
-- layout.rs, defined in Layout. Assumes nothing.
use Rattle.std.specs.Prelude.{[], ◌∷◌, ◌++◌, Bool, cond, ◌&&◌, ℕ, ◌+◌, ◌-◌, ◌≤◌, eqb, length, take, drop, Option, Some, None}
use Rattle.record.specs.Base.{Str, eqs}
use Rattle.record.specs.Stretch.{text_of}
use Rattle.record.specs.Operands.{text_at}
use Rattle.record.specs.Lists.{opt_of}
use Rattle.record.specs.declared.text.Text.{Text}
use Rattle.layout.specs.Layout.{variant_name}
use Rattle.layout.specs.Handles.{name_at, family_part, place_part}
use Rattle.layout.specs.declared.names.TypeName.{TypeName}

unfoldable pub composed : Str → ℕ → Str → Str
composed f k b = f ++ (take k (58 ∷ 58 ∷ []) ++ b)

-- the parts of a type's name: for a variant the family's name, both colons and its own; else the name and nothing
unfoldable pub front_of : Str → Str → ℕ → Str
front_of s p h = cond (eqb (family_part h) 0) (name_at s p (place_part h)) (name_at s p (family_part h - 1))

unfoldable pub colons_of : ℕ → ℕ
colons_of h = cond (eqb (family_part h) 0) 0 2

unfoldable pub back_of : Str → Str → ℕ → Str
back_of s p h = cond (eqb (family_part h) 0) [] (name_at s p (place_part h))

-- these are its parts, one by one; a name with other parts may read the same
unfoldable pub has_parts : Str → Str → ℕ → Str → ℕ → Str → Bool
has_parts s p h f k b = eqb (colons_of h) k && (eqs (back_of s p h) b && eqs (front_of s p h) f)

-- parts of a name whose length is a number of the machine
pub record Parts (f : Str) (k : ℕ) (b : Str) : Type 0 where
  pub few : k ≤ 2
  pub fits : length f + k + length b ≤ 18446744073709551615

-- a name alone, or a family's with a variant's
abbrev pub name_with : Str → Option Str → Str
name_with f None = f
name_with f (Some d) = variant_name f d

-- a type's name as texts of a pool
abbrev pub name_of : Str → TypeName → Str
name_of p t = name_with (text_of p t.front) (opt_of p t.back)

unfoldable pub name_text_at : Str → ℕ → Text
name_text_at s at = text_at (drop at s) 1

unfoldable pub stretches_of : Str → ℕ → TypeName
stretches_of s h =
    cond (eqb (family_part h) 0) (record { front = name_text_at s (place_part h); back = None })
    (record { front = name_text_at s (family_part h - 1); back = Some (name_text_at s (place_part h)) })
