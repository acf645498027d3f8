-- What the code's look-up of a layout in both records answers, as check_standalone of layout.rs finds them. Assumes nothing.
use Rattle.std.specs.Prelude.{◌≡◌, List, Option, Some, None, ℕ}
use Rattle.record.specs.Base.{Str}
use Rattle.record.specs.Scalars.{Scalar}
use Rattle.record.specs.Reading.{Rec, rec}
use Rattle.layout.specs.Handles.{layout_of}
use Rattle.layout.specs.Table.{Typed}
use Rattle.definition.specs.Verdicts.{Verdict, pass}
use Rattle.compare.specs.Layouts.{types_of}
use Rattle.definition.specs.Standalone.{check_same, check_shipped}

-- the layout now and before, by its handles
abbrev pub check_pair : Rec → Rec → Str → Option (ℕ × ℕ) → Verdict
check_pair r r₀ n None = pass
check_pair r r₀ n (Some (h, h₀)) = check_same n (layout_of r h).fields (layout_of r₀ h₀).fields

abbrev pub PairTyped : Str → Str → Option (ℕ × ℕ) → Type 0
PairTyped s b None = Unit
PairTyped s b (Some (h, h₀)) = Typed s h × Typed b h₀

-- the layout of that name, whatever the scalar words
pub record PairFound (s p b q n : Str) (r : Option (ℕ × ℕ)) : Type 0 where
  pub checked : (w : List Scalar) → check_shipped (types_of (rec s p w)) (types_of (rec b q w)) n ≡ check_pair (rec s p w) (rec b q w) n r
  pub typed : PairTyped s b r
