-- The cases of an answer. Assumes nothing.
use mathlib.Core.Path.{◌≡◌, refl, ap, ◌∙◌, subst}
use mathlib.Core.List.{[]}
use mathlib.Core.Bool.{Bool, true, false, cond}
use Prim.Native.Nat.{ℕ}
use native.Mathlib.Omega.{arith}
use lib.ListN.{length}
use lib.Dec.{leb}
use borrow.Author.Tests.{le-leb}
use Rattle.std.specs.Prelude.{Result, ⊤, Ok, Err}
use Rattle.record.specs.Base.{Str}
use Rattle.record.specs.Fill.{fronted}
use Rattle.record.proofs.WriterLaws.{front-none}
use Rattle.definition.specs.Verdicts as D
use Rattle.definition.specs.Verdicts.{verdict_number, message_of}
use Rattle.layout.specs.Answer.{text_or, Answered}
use Rattle.definition.specs.Answer.{verdict_of}
use Rattle.verdicts.specs.Template.{Writes, answer_if}
use Rattle.verdicts.specs.Meaning.{meaning, number_found}
use Rattle.verdicts.specs.declared.verdict.Verdict.{Verdict}
use Rattle.verdicts.proofs.VerdictLaws.{number_is}

-- one case for each answer of the writer
module _ (out after : Str) (n k : ℕ) where
  pass-len : (b : Bool) → b ≡ true → Ok n ≡ answer_if b 0 → n ≡ 0
  pass-len true e h = cc
  pass-len false e h = absurd (let z : ◌≡◌ {A = ℕ} 0 1 = cc in omega arith)

  pass-room : (b : Bool) → b ≡ true → Err n ≡ answer_if b 0 → ⊥
  pass-room true e h = let z : ◌≡◌ {A = ℕ} 0 1 = cc in omega arith
  pass-room false e h = let z : ◌≡◌ {A = Bool} true false = cc in let y : ◌≡◌ {A = ℕ} 0 1 = ap (λ (b : Bool). cond b 0 1) z in omega arith

  pass-buffer : (b : Bool) → b ≡ true → after ≡ cond b (fronted out []) out → after ≡ fronted out []
  pass-buffer b e h = rw e at h

  whole_of : (d : D.Verdict) → k ≡ verdict_number d → Writes out (message_of d) after (Ok n) → Answered out after (verdict_of (length out) d) (record { number = k; side = 0; place = 0; len = n })
  unfolding verdict_number message_of verdict_of text_or
  whole_of D.pass e w =
      let t : leb 0 (length out) ≡ true = le-leb 0 (length out) (omega arith) in
      record { number = e; side = refl; place = refl; len = pass-len (leb 0 (length out)) t w.answer; buffer = pass-buffer (leb 0 (length out)) t w.bytes }
  whole_of (D.stop v m) e w = go (leb (length m) (length out)) refl w.answer w.bytes
    where
      go : (b : Bool) → leb (length m) (length out) ≡ b → Ok n ≡ answer_if b (length m) → after ≡ cond b (fronted out m) out
          → Answered out after (verdict_of (length out) (D.stop v m)) (record { number = k; side = 0; place = 0; len = n })
      go true b h i = record { number = rw b e; side = rw b; place = rw b; len = rw b cc; buffer = rw b i }
      go false b h i = absurd (let z : ◌≡◌ {A = ℕ} 0 1 = cc in omega arith)

  none_of : (d : D.Verdict) → Writes out (message_of d) after (Err n) → Answered out after (verdict_of (length out) d) (record { number = 10; side = 0; place = 0; len = n })
  unfolding message_of verdict_of text_or
  none_of D.pass w = absurd (pass-room (leb 0 (length out)) (le-leb 0 (length out) (omega arith)) w.answer)
  none_of (D.stop v m) w = go (leb (length m) (length out)) refl w.answer w.bytes
    where
      go : (b : Bool) → leb (length m) (length out) ≡ b → Err n ≡ answer_if b (length m) → after ≡ cond b (fronted out m) out
          → Answered out after (verdict_of (length out) (D.stop v m)) (record { number = 10; side = 0; place = 0; len = n })
      go true b h i = absurd (let z : ◌≡◌ {A = ℕ} 0 1 = cc in omega arith)
      go false b h i = record { number = rw b; side = rw b; place = rw b; len = rw b cc; buffer = rw b (i ∙ front-none out) }

  module _ (p q : Str) (v : Result ⊤ Verdict) (w : Result ℕ ℕ) (s : Writes out (message_of (meaning p q v)) after w) where
    pub answered-whole : k ≡ number_found v → w ≡ Ok n → Answered out after (verdict_of (length out) (meaning p q v)) (record { number = k; side = 0; place = 0; len = n })
    answered-whole e h = whole_of (meaning p q v) (e ∙ number_is p q v) (subst (λ x. Writes out (message_of (meaning p q v)) after x) h s)

    pub answered-none : w ≡ Err n → Answered out after (verdict_of (length out) (meaning p q v)) (record { number = 10; side = 0; place = 0; len = n })
    answered-none h = none_of (meaning p q v) (subst (λ x. Writes out (message_of (meaning p q v)) after x) h s)

pub ruleset answer-laws = (answered-whole, answered-none)
