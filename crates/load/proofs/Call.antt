-- What the load call answers: two readable records with the wanted outcome, for every seed. 02, W-213. Assumes nothing.
use Rattle.std.specs.Prelude.{Option, Some, None}
use mathlib.Core.Path.{◌≡◌, refl, sym, ◌∙◌, ap, subst}
use mathlib.Core.List.{[], ◌∷◌, ◌++◌}
use mathlib.Core.Bool.{Bool, true, false, cond}
use Prim.Native.Nat.{ℕ, ◌≤◌}
use native.Mathlib.Omega.{arith}
use lib.Dec.{eqb, leb}
use lib.ListN.{length, take, drop}
use borrow.Author.Tests.{eqb-true, le-leb, leb-false}
use Rattle.record.specs.Base.{Str}
use Rattle.record.specs.Fill.{fronted}
use Rattle.record.proofs.Basics.{none≢some}
use Rattle.layout.specs.Answer.{Answer, Answered, text_or}
use Rattle.layout.specs.declared.answer.Answer as A
use Rattle.load.specs.Plan.{outcome_number, released, current}
use Rattle.load.specs.Pool as W
use Rattle.load.specs.Draws.{setting_of}
use Rattle.load.specs.Generator.{plan_of}
use Rattle.load.specs.Load.{now_stream, was_stream, pair_of, outcome_at, unfit, load_as, load}
use Rattle.load.specs.Met.{Met}
use Rattle.load.proofs.CommandLaws.{pool-long}
use Rattle.load.proofs.Generated.{in-range}
use Rattle.load.proofs.Pairs.{now-record, was-record, current-read, released-read, current-short, released-short}
use Rattle.load.proofs.Shown.{as-drawn, each-as-drawn}
use Rattle.load.proofs.Messages.{pair-outcome}
use Rattle.load.specs.declared.outcomes.Outcome.{Outcome}
use Rattle.load.specs.declared.outcomes.Outcome.TheVariants as O

-- the outcome of a number has this number
pub outcome-number : (n : ℕ) (o : Outcome) → outcome_at n ≡ Some o → outcome_number o ≡ n
unfolding outcome_at outcome_number
outcome-number n o h = go (eqb n 0) refl (eqb n 20) refl (eqb n 34) refl (eqb n 35) refl (eqb n 36) refl (eqb n 43) refl h
  where
    is : (k : ℕ) (x : Outcome) → outcome_number x ≡ k → eqb n k ≡ true → Some x ≡ Some o → outcome_number o ≡ n
    is k x a e q = let y : x ≡ o = cc in ap outcome_number (sym y) ∙ a ∙ sym (eqb-true n k e)

    go : (a : Bool) → eqb n 0 ≡ a → (b : Bool) → eqb n 20 ≡ b → (c : Bool) → eqb n 34 ≡ c → (d : Bool) → eqb n 35 ≡ d → (e : Bool) → eqb n 36 ≡ e → (f : Bool) → eqb n 43 ≡ f
        → cond a (Some O.Accepted) (cond b (Some O.ConstantGone) (cond c (Some O.FieldGone) (cond d (Some O.FieldMoved) (cond e (Some O.FieldResized) (cond f (Some O.Unraised) None))))) ≡ Some o → outcome_number o ≡ n
    go true q b q2 c q3 d q4 e q5 f q6 h = is 0 O.Accepted refl q h
    go false q true q2 c q3 d q4 e q5 f q6 h = is 20 O.ConstantGone refl q2 h
    go false q false q2 true q3 d q4 e q5 f q6 h = is 34 O.FieldGone refl q3 h
    go false q false q2 false q3 true q4 e q5 f q6 h = is 35 O.FieldMoved refl q4 h
    go false q false q2 false q3 false q4 true q5 f q6 h = is 36 O.FieldResized refl q5 h
    go false q false q2 false q3 false q4 false q5 true q6 h = is 43 O.Unraised refl q6 h
    go false q false q2 false q3 false q4 false q5 false q6 h = absurd (none≢some h)

-- the pair of every seed and each outcome, with the schemas of its plan
pub pair-met : (seed : ℕ) (o : Outcome) → Met (outcome_number o) seed (pair_of seed o)
unfolding pair_of now_stream was_stream now-record was-record
pair-met seed o = record {
  stream = now_stream seed o;
  pool = W.pool;
  past = was_stream seed;
  old = W.pool;
  parts = refl;
  short = (current-short (setting_of seed) (in-range seed) o, pool-short, released-short (setting_of seed) (in-range seed), pool-short);
  now = current o (plan_of (setting_of seed));
  was = released (plan_of (setting_of seed));
  now-read = current-read (setting_of seed) (in-range seed) o;
  was_read = released-read (setting_of seed) (in-range seed);
  number = pair-outcome seed o;
  structs = as-drawn seed;
  fields = each-as-drawn seed;
}
  where
    pool-short : length W.pool ≤ 32768
    pool-short = let a = pool-long in omega arith

-- the two answers of a text: with room and without
abbrev given : Str → Answer
given m = record { number = 0; side = 0; place = 0; len = length m; text = m }

abbrev roomless : Str → Answer
roomless m = record { number = 10; side = 0; place = 0; len = length m; text = [] }

-- 02: "0 giving their length": with 0 the definition's text is a pair with the outcome that was asked for, and the length is the text's
pub text-met : (room outcome seed : ℕ) → (load room outcome seed).number ≡ 0
    → Met outcome seed (load room outcome seed).text × ((load room outcome seed).len ≡ length (load room outcome seed).text)
unfolding load load_as unfit text_or
text-met room outcome seed h = go (leb seed 2147483647) (outcome_at outcome) refl h
  where
    Good : Answer → Type 0
    Good a = Met outcome seed a.text × (a.len ≡ length a.text)

    in-room : (o : Outcome) → outcome_at outcome ≡ Some o → (b : Bool) → (cond b (given (pair_of seed o)) (roomless (pair_of seed o))).number ≡ 0
        → Good (cond b (given (pair_of seed o)) (roomless (pair_of seed o)))
    in-room o e true h = (subst (λ (n : ℕ). Met n seed (pair_of seed o)) (outcome-number outcome o e) (pair-met seed o), refl)
    in-room o e false h = absurd (omega (arith, h))

    go : (b : Bool) (x : Option Outcome) → outcome_at outcome ≡ x → (cond b (load_as room seed x) unfit).number ≡ 0 → Good (cond b (load_as room seed x) unfit)
    go true (Some o) e h = in-room o e (leb (length (pair_of seed o)) room) h
    go true None e h = absurd (omega (arith, h))
    go false x e h = absurd (omega (arith, h))

front-taken : (x y : Str) → take (length x) (x ++ y) ≡ x
front-taken [] y = refl
front-taken (b ∷ x) y = ap (λ (l : Str). b ∷ l) (front-taken x y)

-- 02: "the two records are always readable, and the wanted outcome .. is met", of the bytes in the buffer: by the call's contract, whenever it answers 0
pub load-met : (out after : Str) (outcome seed : ℕ) (r : A.Answer) → Answered out after (load (length out) outcome seed) r → r.number ≡ 0
    → Met outcome seed (take r.len after)
unfolding fronted
load-met out after outcome seed r a h =
    let t = text-met (length out) outcome seed (sym a.number ∙ h) in
    rw (a.buffer, a.len, t.1, front-taken (load (length out) outcome seed).text (drop (length (load (length out) outcome seed).text) out)) t.0

-- and it answers 0 for every seed and each outcome of 02 wherever the length that it gives fits the buffer
pub load_given : (room outcome seed : ℕ) (o : Outcome) → seed ≤ 2147483647 → outcome_at outcome ≡ Some o → (load room outcome seed).len ≤ room
    → (load room outcome seed).number ≡ 0
unfolding load load_as text_or
load_given room outcome seed o h e = rw (le-leb seed 2147483647 h, e) (go (leb (length (pair_of seed o)) room) refl)
  where
    go : (b : Bool) → leb (length (pair_of seed o)) room ≡ b → (cond b (given (pair_of seed o)) (roomless (pair_of seed o))).len ≤ room
        → (cond b (given (pair_of seed o)) (roomless (pair_of seed o))).number ≡ 0
    go true q k = refl
    go false q k = absurd (let x = leb-false (length (pair_of seed o)) room q in omega (arith, k))
