-- Over a pool of 20 to 7E hex alone a record is read as document 01 has it, before W-206 of 02: its rules for letters and texts stand here as they were,
-- and nowhere else. Assumes nothing.
use Rattle.std.specs.Prelude.{Option, Some, None, Err}
use Prim.Native.Nat.{ℕ, zero, suc, ◌+◌, ◌-◌}
use mathlib.Core.List.{[], ◌∷◌}
use mathlib.Core.Bool.{Bool, true, ◌&&◌, cond, and-true}
use mathlib.Core.Path.{◌≡◌, refl, sym, ap, ap₂, ◌∙◌}
use lib.Dec.{eqb, ltb, leb}
use lib.ListN.{length, get_or, drop}
use borrow.Author.Tests.{eq-eqb}
use Rattle.texts.specs.Utf8.{inside, odd_place}
use Rattle.texts.specs.Plain.{is_plain, all_plain}
use Rattle.texts.proofs.LetterLaws.{plain-all, plain-no-tail}
use Rattle.record.specs.Base.{Str}
use Rattle.record.specs.Operands.{opt_text_at}
use Rattle.record.specs.Commands.{operands, wide, widths, start}
use Rattle.record.specs.Letters.{odd_letter}
use Rattle.record.specs.Judge.{worse_of, if_absent, text_fault, flag_fault, operand_fault, faults_from, may_stand, ready, faulted, judged_with, judged_as, judged_at}
use Rattle.record.specs.Reading.{Rec, Parsed, bad, continued, parse, parsed, stream_limit, pool_limit, Reading, concluded, reading}
use Rattle.record.specs.declared.command.Cursor.{Cursor}
use Rattle.record.specs.declared.refusal.Side.{Side}
use Rattle.record.specs.declared.refusal.Refusal.TheVariants as R
use Rattle.record.specs.declared.judge.Fault.{Fault}
use Rattle.record.specs.declared.judge.Fault.TheVariants.{Fine, Outside}
use Rattle.record.proofs.Basics.{both}
use Rattle.record.specs.declared.text.Text.{Text}
use Rattle.record.specs.Judge.{Judged}

-- 01: 7 at the first byte outside 20 to 7E hex
odd_letter01 : ℕ → Str → Option ℕ
odd_letter01 i [] = None
odd_letter01 i (b ∷ bs) = cond (leb 32 b && leb b 126) (odd_letter01 (i + 1) bs) (Some i)

-- 01: 4 for a text that does not lie in the pool, whose length is given
text_fault01 : ℕ → Fault → Option Text → Fault
text_fault01 n absent None = absent
text_fault01 n absent (Some t) = cond (leb (t.start + t.len) n) Fine Outside

operand_fault01 : Side → ℕ → Str → ℕ → ℕ → Fault
operand_fault01 side n x i o =
    cond (eqb o 70) (flag_fault (get_or x i 0))
    (cond (eqb o 78) (flag_fault (get_or x i 0))
    (cond (eqb o 87) Fine
    (cond (eqb o 86) Fine (text_fault01 n (if_absent side x o) (opt_text_at x i)))))

faults_from01 : Side → ℕ → Str → ℕ → Str → Fault
faults_from01 side n x i [] = Fine
faults_from01 side n x i (o ∷ os) = worse_of (operand_fault01 side n x i o) (faults_from01 side n x (i + wide o) os)

judged_with01 : Side → Str → ℕ → Cursor → Str → ℕ → Bool → Judged
judged_with01 side s n c os w stands =
    cond (ltb (length s - c.at) w) (Err (R.Cut, c.at))
    (cond stands (faulted c.at (ready s c (get_or s c.at 0) w) (faults_from01 side n (drop c.at s) 1 os)) (Err (R.Misplaced, c.at)))

judged_as01 : Side → Str → ℕ → Cursor → ℕ → Option Str → Judged
judged_as01 side s n c b None = Err (R.Unknown, c.at)
judged_as01 side s n c b (Some os) = judged_with01 side s n c os (1 + widths os) (may_stand c b)

judged_at01 : Side → Str → ℕ → Cursor → Judged
judged_at01 side s n c =
    cond (ltb c.at (length s)) (judged_as01 side s n c (get_or s c.at 0) (operands (get_or s c.at 0))) (Err (R.Cut, c.at))

parse01 : ℕ → Side → Str → ℕ → Cursor → Parsed
parse01 zero side s n c = bad R.Cut c.at
parse01 (suc k) side s n c = continued c.at (parse01 k side s n) (judged_at01 side s n c)

pub reading01 : Side → Rec → Reading
reading01 side r =
    concluded r (leb (length r.stream) stream_limit && leb (length r.pool) pool_limit) (odd_letter01 0 r.pool)
    (parse01 (length r.stream + 1) side r.stream (length r.pool) start)

-- letters
letters-01 : (i : ℕ) (s : Str) → all_plain s ≡ true → odd_letter01 i s ≡ None
unfolding odd_letter01 all_plain is_plain inside
letters-01 i [] h = refl
letters-01 i (b ∷ s) h = let k = both (leb 32 b && leb b 126) (all_plain s) h in rw k.0 (letters-01 (i + 1) s k.1)

pub plain-letters : (s : Str) → all_plain s ≡ true → odd_letter s ≡ None
unfolding odd_letter
plain-letters s h = rw (eq-eqb (odd_place s) (length s) (sym (plain-all s (all_plain s) refl h)))

-- commands
module _ (p : Str) (h : all_plain p ≡ true) where
  text_same : (a : Fault) (t : Option Text) → text_fault p a t ≡ text_fault01 (length p) a t
  unfolding text_fault01
  text_same a None = refl
  text_same a (Some t) =
      rw (plain-no-tail p t.start h, plain-no-tail p (t.start + t.len) h) (ap (λ (b : Bool). cond b Fine Outside) (and-true (leb (t.start + t.len) (length p))))

  operand_same : (side : Side) (x : Str) (i o : ℕ) → operand_fault side p x i o ≡ operand_fault01 side (length p) x i o
  unfolding operand_fault operand_fault01
  operand_same side x i o =
      ap
      (λ (f : Fault). cond (eqb o 70) (flag_fault (get_or x i 0)) (cond (eqb o 78) (flag_fault (get_or x i 0)) (cond (eqb o 87) Fine (cond (eqb o 86) Fine f))))
      (text_same (if_absent side x o) (opt_text_at x i))

  faults-same : (side : Side) (x : Str) (i : ℕ) (os : Str) → faults_from side p x i os ≡ faults_from01 side (length p) x i os
  unfolding faults_from faults_from01
  faults-same side x i [] = refl
  faults-same side x i (o ∷ os) = ap₂ worse_of (operand_same side x i o) (faults-same side x (i + wide o) os)

  module _ (side : Side) (s : Str) where
    judged-with : (c : Cursor) (os : Str) (w : ℕ) (stands : Bool) → judged_with side s p c os w stands ≡ judged_with01 side s (length p) c os w stands
    unfolding judged_with judged_with01
    judged-with c os w stands =
        ap
        (λ (f : Fault).
        cond (ltb (length s - c.at) w) (Err (R.Cut, c.at)) (cond stands (faulted c.at (ready s c (get_or s c.at 0) w) f) (Err (R.Misplaced, c.at))))
        (faults-same side (drop c.at s) 1 os)

    judged-as : (c : Cursor) (b : ℕ) (o : Option Str) → judged_as side s p c b o ≡ judged_as01 side s (length p) c b o
    unfolding judged_as01
    judged-as c b None = refl
    judged-as c b (Some os) = judged-with c os (1 + widths os) (may_stand c b)

    judged-same : (c : Cursor) → judged_at side s p c ≡ judged_at01 side s (length p) c
    unfolding judged_at judged_at01
    judged-same c =
        ap (λ (j : Judged). cond (ltb c.at (length s)) j (Err (R.Cut, c.at))) (judged-as c (get_or s c.at 0) (operands (get_or s c.at 0)))

    parse-same : (k : ℕ) (c : Cursor) → parse k side s p c ≡ parse01 k side s (length p) c
    unfolding parse parse01
    parse-same zero c = refl
    parse-same (suc k) c = λ i. continued c.at (λ (d : Cursor). parse-same k d i) (judged-same c i)

-- PLAIN POOLS: every reading is 01's, and all answers follow from it
pub plain-reading : (side : Side) (r : Rec) → all_plain r.pool ≡ true → reading side r ≡ reading01 side r
unfolding reading reading01 parsed
plain-reading side r h =
    ap₂
    (λ (l : Option ℕ) (x : Parsed). concluded r (leb (length r.stream) stream_limit && leb (length r.pool) pool_limit) l x)
    (plain-letters r.pool h ∙ sym (letters-01 0 r.pool h))
    (parse-same r.pool h side r.stream (length r.stream + 1) start)
