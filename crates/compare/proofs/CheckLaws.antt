-- The check's answer, from what the two readings and the comparison answer. Assumes nothing.
use Prim.Native.Nat.{ℕ}
use mathlib.Core.List.{List}
use mathlib.Core.Path.{◌≡◌, ap, subst, ◌∙◌}
use lib.ListN.{length}
use Rattle.std.specs.Prelude.{Result, ⊤, Ok, Err}
use Rattle.record.specs.Base.{Str}
use Rattle.record.specs.Scalars.{Scalar, scalars_of, built_in, built_in_rows}
use Rattle.record.specs.Reading.{Rec, rec, schema_of}
use Rattle.record.specs.Read.{Read}
use Rattle.record.specs.declared.refusal.Refusal.{Refusal}
use Rattle.record.specs.declared.refusal.Side.TheVariants.{Current, Released}
use Rattle.record.proofs.ScalarLaws.{built_in-rows}
use Rattle.layout.specs.Answer.{refusal_of, Answered}
use Rattle.layout.specs.declared.answer.Answer as A
use Rattle.layout.proofs.Readable.{reading-refused, reading-read, read_short}
use Rattle.definition.specs.Answer.{verdict_of, answered, check}
use Rattle.definition.specs.Compare.{compare}
use Rattle.verdicts.specs.Meaning.{meaning}
use Rattle.compare.specs.Passes.{Legible}
use Rattle.verdicts.specs.declared.verdict.Verdict.{Verdict}

module _ (s p b q rows : Str) (e : rows ≡ built_in_rows) (o : Result ⊤ (Refusal × ℕ)) (h : Read Current (rec s p (scalars_of rows)) o) where
  abbrev cur : Rec
  cur = rec s p built_in

  abbrev rel : Rec
  rel = rec b q built_in

  pub check-current : (out : Str) (x : Refusal) (at : ℕ) (r : A.Answer) → o ≡ Err (x, at) → ((a : Str) → Answered a a (refusal_of Current x at) r)
      → Answered out out (check (length out) cur rel) r
  unfolding check answered
  check-current out x at r k a = rw (reading-refused Current s p rows o e h x at k) (a out)

  module _ (m : o ≡ Ok tt) (w : Result ⊤ (Refusal × ℕ)) (i : Read Released (rec b q (scalars_of rows)) w) where
    pub check-released : (out : Str) (x : Refusal) (at : ℕ) (r : A.Answer) → w ≡ Err (x, at) → ((a : Str) → Answered a a (refusal_of Released x at) r)
        → Answered out out (check (length out) cur rel) r
    unfolding check answered
    check-released out x at r k a = rw (reading-read Current s p rows o e h m, reading-refused Released b q rows w e i x at k) (a out)

    module _ (n : w ≡ Ok tt) where
      pub check-premise : Legible (rec s p (scalars_of rows)) × Legible (rec b q (scalars_of rows))
      check-premise = (record { short = read_short Current s p rows o e h m; exact = h.exact m }, record { short = read_short Released b q rows w e i n; exact = i.exact n })

      pub check-verdict : (out after : Str) (v : Result ⊤ Verdict) (r : A.Answer) → meaning p q v ≡ compare (schema_of (rec s p (scalars_of rows))) (schema_of (rec b q (scalars_of rows)))
          → Answered out after (verdict_of (length out) (meaning p q v)) r → Answered out after (check (length out) cur rel) r
      unfolding check answered
      check-verdict out after v r k a =
          let f : scalars_of rows ≡ built_in = ap scalars_of e ∙ built_in-rows in
          let g : meaning p q v ≡ compare (schema_of cur) (schema_of rel) = k ∙ ap (λ (l : List Scalar). compare (schema_of (rec s p l)) (schema_of (rec b q l))) f in
          rw (reading-read Current s p rows o e h m, reading-read Released b q rows w e i n) (subst (λ x. Answered out after (verdict_of (length out) x) r) g a)
