-- The types of a record in the order of the stream, as the code steps along them, and the first that is vast: the code's way to number 9 of 01,
-- which is defined in Reading. Then a bound of all the sizes in a record, by the numbers in its commands alone. Assumes nothing.
use Rattle.std.specs.Prelude.{◌≡◌, List, [], ◌∷◌, ◌++◌, cond, ℕ, suc, ◌+◌, ◌-◌, ◌*◌, ◌≤◌, length, get_or, drop, eqb, Option, Some, None}
use Rattle.record.specs.Base.{Str, find, or_else}
use Rattle.record.specs.Le.{u32_at}
use Rattle.record.specs.Scalars.{Scalar}
use Rattle.record.specs.Schema.{Schema, Family}
use Rattle.record.specs.Commands.{commands_at, field_at}
use Rattle.record.specs.Lists.{family_of}
use Rattle.record.specs.Steps.{fields_at}
use Rattle.record.specs.Shapes.{enum_size, sized, scalar_size, fam_prefix}
use Rattle.record.specs.Reading.{Rec, Opened, opened, vast, schema_of}
use Rattle.record.specs.declared.command as D
use Rattle.record.specs.declared.vast.TypeStep.{TypeStep}
use Rattle.record.specs.declared.vast.TypeStep.TheVariants.{NoType, Plain, Fronted}

-- the types that the stream opens from a place on
unfoldable pub opened_from : Str → Str → ℕ → List Opened
opened_from s p at = opened s p (commands_at s at)

abbrev pub opened_of : Str → Str → TypeStep → List Opened
opened_of s p NoType = []
opened_of s p (Plain at k) = record { place = at; fields = fields_at s p k.at } ∷ opened_from s p k.at
opened_of s p (Fronted at f k) = record { place = at; fields = fam_prefix (family_of p f [] []) ++ fields_at s p k.at } ∷ opened_from s p k.at

abbrev pub opened_left : Str → TypeStep → ℕ
opened_left s NoType = 0
opened_left s (Plain at k) = suc (length s - k.at)
opened_left s (Fronted at f k) = suc (length s - k.at)

pub record OpenedFrom (s : Str) (at : ℕ) (r : TypeStep) : Type 0 where
  pub list : (p : Str) → opened_from s p at ≡ opened_of s p r
  pub left : opened_left s r ≤ length s - at

-- the two fields in front of a family, and where they end
unfoldable pub disc_size : Schema → Family → ℕ
disc_size s m = sized (Some m.disc_type) (enum_size s.enums) 1

unfoldable pub len_size : Schema → Family → ℕ
len_size s m = scalar_size s m.len_type

unfoldable pub front_end : Schema → Family → ℕ
front_end s m = disc_size s m + len_size s m

abbrev pub vast_at : Option Opened → Option ℕ
vast_at None = None
vast_at (Some t) = Some t.place

-- the first vast type from a place on
unfoldable pub first_vast : Rec → ℕ → Option ℕ
first_vast r at = vast_at (find (vast (schema_of r)) (opened_from r.stream r.pool at))

-- a bound ----------------------------------------------------------------------------------------------------------------

-- the sizes of all words together
unfoldable pub sum_sizes : List Scalar → ℕ
sum_sizes [] = 0
sum_sizes (c ∷ cs) = c.size + sum_sizes cs

-- the size that an enum or a bit field declares
unfoldable pub unit_at : Str → ℕ → ℕ
unit_at s at = cond (eqb (get_or s at 0) 4) (u32_at (drop at s) 4) (cond (eqb (get_or s at 0) 6) (u32_at (drop at s) 4) 0)

-- what a field's numbers add to the bound of its size, where no scalar is larger than v
unfoldable pub numbers_of : ℕ → D.Field.Field → ℕ
numbers_of v f =
    v * or_else f.count 0 + (v * or_else f.rows 0 * or_else f.cols 0 + or_else f.size 0)

-- what a command adds by its numbers: a field alone does
unfoldable pub extra_at : ℕ → Str → ℕ → ℕ
extra_at v s at = cond (eqb (get_or s at 0) 11) (numbers_of v (field_at (drop at s))) 0

unfoldable pub total_of : (ℕ → ℕ) → List ℕ → ℕ
total_of g [] = 0
total_of g (at ∷ ps) = g at + total_of g ps

-- nothing that a field names or points at is larger than this, where no scalar is larger than v
unfoldable pub unit_of : ℕ → Str → ℕ
unit_of v s = 4 + v + total_of (unit_at s) (commands_at s 0)

-- no field ends past this: a field takes 33 bytes of the stream and is within one unit and its numbers, a family 17 and its front within two units
unfoldable pub bound_of : ℕ → Str → ℕ
bound_of v s = unit_of v s * length s + total_of (extra_at v s) (commands_at s 0)
