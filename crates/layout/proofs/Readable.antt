-- A reading under the built-in table of scalar words, and what it says of the record. Assumes nothing.
use Rattle.std.specs.Prelude.{Result, Ok, Err, ⊤}
use Prim.Native.Nat.{ℕ, ◌≤◌}
use mathlib.Core.List.{List}
use mathlib.Core.Path.{◌≡◌, sym, ap, subst, ◌∙◌}
use lib.ListN.{length}
use Rattle.record.specs.Base.{Str}
use Rattle.record.specs.Scalars.{Scalar, scalars_of, built_in, built_in_rows}
use Rattle.record.specs.Reading.{rec, read, refuse, reading, schema_of}
use Rattle.record.specs.Read.{Read, reading_of}
use Rattle.record.specs.declared.refusal.Refusal.{Refusal}
use Rattle.record.specs.declared.refusal.Side.{Side}
use Rattle.record.proofs.ScalarLaws.{built_in-rows}
use Rattle.record.proofs.Accepted.{accepting}

module _ (side : Side) (s p rows : Str) (o : Result ⊤ (Refusal × ℕ)) (e : rows ≡ built_in_rows) (h : Read side (rec s p (scalars_of rows)) o) where
  pub read-built : Read side (rec s p built_in) o
  read-built = subst (λ (w : List Scalar). Read side (rec s p w) o) (ap scalars_of e ∙ built_in-rows) h

  pub reading-refused : (x : Refusal) (at : ℕ) → o ≡ Err (x, at) → reading side (rec s p built_in) ≡ refuse x at
  reading-refused x at k = sym read-built.answer ∙ ap (reading_of (rec s p built_in)) k

  pub reading-read : o ≡ Ok tt → reading side (rec s p built_in) ≡ read (schema_of (rec s p built_in))
  reading-read k = sym read-built.answer ∙ ap (reading_of (rec s p built_in)) k

  pub read_short : o ≡ Ok tt → length s ≤ 32768
  read_short k = (accepting side (rec s p built_in) (schema_of (rec s p built_in)) (reading-read k)).stream-short
