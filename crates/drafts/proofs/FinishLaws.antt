-- A built result cut out of its buffers. Assumes nothing.
use mathlib.Core.Path.{◌≡◌, refl, sym, ap, ap₂, ◌∙◌}
use mathlib.Core.List.{List}
use mathlib.Core.Bool.{Bool, true, false}
use Prim.Native.Nat.{ℕ, ◌≤◌, ◌<◌}
use native.Mathlib.Omega.{arith}
use lib.ListN.{length, take}
use Rattle.record.specs.Base.{Str}
use Rattle.record.specs.Scalars.{Scalar}
use Rattle.record.specs.Schema.{Schema}
use Rattle.record.specs.Reading.{rec, reading}
use Rattle.record.specs.declared.refusal.Side.TheVariants.{Current}
use Rattle.record.specs.declared.refusal.Refusal.TheVariants as R
use Rattle.record.proofs.WriterLaws.{puts-near}
use Rattle.drafts.specs.Edits.{refused, settled}
use Rattle.drafts.specs.Building.{Built}
use Rattle.drafts.specs.Answering.{edited_as, Says}
use Rattle.drafts.specs.declared.pack.Ends.{Ends}
use Rattle.drafts.specs.declared.saying.DraftAnswer.{DraftAnswer}
use borrow.Author.Tests.{le-ltb, lt-ltb, ltb-true, ltb-false}
use Rattle.drafts.specs.Finishing.{finished}
use Rattle.drafts.proofs.SettleLaws.{too_long, too_wide, built-settled}
use lib.Dec.{ltb}

module _ (w : List Scalar) (b out words : Str) (was : Schema) (k : ℕ) (e : Ends) (r : DraftAnswer) where
  pub finish-long : 32768 < e.stream → Says r (refused 0 R.Long 0 k) → edited_as r b ≡ finished k b was w out words e
  unfolding finished
  finish-long h a = a.is b ∙ rw (lt-ltb 32768 e.stream h)

  pub finish-wide : e.stream ≤ 32768 → 16384 < e.pool → Says r (refused 0 R.Long 0 k) → edited_as r b ≡ finished k b was w out words e
  unfolding finished
  finish-wide g h a = a.is b ∙ rw (le-ltb 32768 e.stream g, lt-ltb 16384 e.pool h)

  pub finish-settled : (x y z : Str) → e.stream ≤ 32768 → e.pool ≤ 16384 → y ≡ take e.stream out → z ≡ take e.pool words → edited_as r x ≡ settled k b was (rec y z w) (reading Current (rec y z w)) → edited_as r x ≡ finished k b was w out words e
  unfolding finished
  finish-settled x y z g h f i a = a ∙ rw (le-ltb 32768 e.stream g, le-ltb 16384 e.pool h) (ap₂ (λ (u v : Str). settled k b was (rec u v w) (reading Current (rec u v w))) f i)

pub built-finished : (s p out words after left : Str) (e : Ends) → Built s p out words after left e → (w : List Scalar) (b x : Str) (was : Schema) (k : ℕ) (r : DraftAnswer) → length out ≡ 32768 → length words ≡ 16384
    → edited_as r x ≡ finished k b was w after left e → edited_as r x ≡ settled k b was (rec s p w) (reading Current (rec s p w))
unfolding finished settled
built-finished s p out words after left e c w b x was k r l m a = go (ltb 32768 e.stream) (ltb 16384 e.pool) refl refl
  where
    long-is : 32768 < e.stream → refused 0 R.Long 0 k b ≡ settled k b was (rec s p w) (reading Current (rec s p w))
    long-is h = let n = puts-near c.stream in ap (settled k b was (rec s p w)) (sym (too_long s p w (omega arith)))

    wide_is : 16384 < e.pool → refused 0 R.Long 0 k b ≡ settled k b was (rec s p w) (reading Current (rec s p w))
    wide_is h = let n = puts-near c.pool in ap (settled k b was (rec s p w)) (sym (too_wide s p w (omega arith)))

    go : (i j : Bool) → ltb 32768 e.stream ≡ i → ltb 16384 e.pool ≡ j → edited_as r x ≡ settled k b was (rec s p w) (reading Current (rec s p w))
    go true j f g = a ∙ (rw f (long-is (ltb-true 32768 e.stream f)))
    go false true f g = a ∙ (rw (f, g) (wide_is (ltb-true 16384 e.pool g)))
    go false false f g =
        built-settled s p out words after left e c w b x (take e.stream after) (take e.pool left) was k r l m (ltb-false 32768 e.stream f) (ltb-false 16384 e.pool g) refl refl (a ∙ rw (f, g))
