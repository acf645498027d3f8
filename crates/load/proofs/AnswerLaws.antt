-- The load call's answer, from what is measured and put. Assumes nothing.
use Rattle.std.specs.Prelude.{Some, None}
use mathlib.Core.Path.{◌≡◌, refl, sym, ◌∙◌, ap}
use mathlib.Core.List.{[], ◌++◌, append_assoc}
use Prim.Native.Nat.{ℕ, ◌+◌, ◌≤◌, ◌<◌}
use native.Mathlib.Omega.{arith}
use lib.ListN.{length, length-append}
use borrow.Author.Tests.{ne_eqb, le-leb, lt-leb}
use Rattle.record.specs.Base.{Str}
use Rattle.record.specs.Fill.{fronted}
use Rattle.record.specs.Write.{Puts}
use Rattle.record.proofs.WriterLaws.{puts_then, puts-as, puts-near, puts-exact, puts-front}
use Rattle.layout.specs.Answer.{text_or, Answered}
use Rattle.layout.specs.declared.answer.Answer as A
use Rattle.load.specs.Pool.{pool}
use Rattle.load.specs.Commands.{w4}
use Rattle.load.specs.Draws.{setting_of}
use Rattle.load.specs.Range.{InRange}
use Rattle.load.specs.Generator.{released_commands, current_commands, stream_of}
use Rattle.load.specs.Load.{part, now_stream, was_stream, pair_of, outcome_at, unfit, load_as, load}
use Rattle.load.specs.Bytes.{parts_of}
use Rattle.load.proofs.CommandLaws.{pool-long}
use Rattle.load.proofs.Pairs.{released-short, current-short}
use Rattle.load.specs.declared.outcomes.Outcome.{Outcome}
use Rattle.load.specs.declared.settings.Setting.{Setting}

-- lengths are measured
measured : (out xs after : Str) (r : ℕ) → length xs ≤ 32768 → Puts out 0 xs after r → (r ≡ length xs) × (r ≤ 32768)
measured out xs after r h p = let n = puts-near p in let e = puts-exact p (omega arith) in (omega arith, omega arith)

module _ (g : Setting) (i : InRange g) (out after : Str) (r : ℕ) where
  pub released-measured : Puts out 0 (stream_of (released_commands g)) after r → (r ≡ length (stream_of (released_commands g))) × (r ≤ 32768)
  released-measured p = measured out (stream_of (released_commands g)) after r (released-short g i) p

  pub current-measured : (o : Outcome) → Puts out 0 (stream_of (current_commands g o)) after r → (r ≡ length (stream_of (current_commands g o))) × (r ≤ 32768)
  current-measured o p = measured out (stream_of (current_commands g o)) after r (current-short g i o) p

-- a part, and two
part-is : (s : Str) (n : ℕ) → n ≡ length s → w4 n [] ++ s ≡ part s
unfolding part
part-is s n e = ap (λ (k : ℕ). w4 k s) e

pub parts-put : (s out : Str) (at n : ℕ) (x y after : Str) (a b r : ℕ) → n ≡ length s → Puts out at (w4 n []) x a → Puts x a s y b → Puts y b (part pool) after r → Puts out at (parts_of s) after r
unfolding parts_of
parts-put s out at n x y after a b r e p q w = puts_then (puts-as (puts_then p q) (part-is s n e)) w

pub pool-put : (out : Str) (at : ℕ) (x xs after : Str) (a r : ℕ) → Puts out at (w4 971 []) x a → Puts x a xs after r → xs ≡ pool → Puts out at (part pool) after r
pool-put out at x xs after a r p q e = puts-as (puts_then p (puts-as q e)) (part-is pool 971 (sym pool-long))

part_length : (s : Str) → length (part s) ≡ 4 + length s
unfolding part
part_length s = omega arith

parts-length : (s : Str) → length (parts_of s) ≡ length s + 979
unfolding parts_of
parts-length s = let d = pool-long in let a = part_length s in let b = part_length pool in let c = length-append (part s) (part pool) in omega arith

pair_parts : (seed : ℕ) (o : Outcome) → parts_of (stream_of (current_commands (setting_of seed) o)) ++ parts_of (stream_of (released_commands (setting_of seed))) ≡ pair_of seed o
unfolding parts_of pair_of now_stream was_stream
pair_parts seed o = append_assoc (part (stream_of (current_commands (setting_of seed) o))) (part pool) (part (stream_of (released_commands (setting_of seed))) ++ part pool)

module _ (g : Setting) (seed : ℕ) (o : Outcome) (k : g ≡ setting_of seed) (n m : ℕ) (qn : n ≡ length (stream_of (current_commands g o))) (qm : m ≡ length (stream_of (released_commands g))) where
  pair_is : parts_of (stream_of (current_commands g o)) ++ parts_of (stream_of (released_commands g)) ≡ pair_of seed o
  pair_is = ap (λ (x : Setting). parts_of (stream_of (current_commands x o)) ++ parts_of (stream_of (released_commands x))) k ∙ pair_parts seed o

  pair-length : n + m + 1958 ≡ length (pair_of seed o)
  pair-length =
      let a = parts-length (stream_of (current_commands g o)) in
      let b = parts-length (stream_of (released_commands g)) in
      let c = length-append (parts_of (stream_of (current_commands g o))) (parts_of (stream_of (released_commands g))) in
      let d = ap length pair_is in
      omega arith

  pub pair-no-room : (out : Str) → length out < n + m + 1958 → Answered out out (text_or (length out) 0 (pair_of seed o)) (record { number = 10; side = 0; place = 0; len = n + m + 1958 })
  unfolding text_or fronted
  pair-no-room out h =
      let e = pair-length in
      rw (lt-leb (length (pair_of seed o)) (length out) (omega arith)) (record { number = refl; side = refl; place = refl; len = e; buffer = refl })

  pub pair-written : (out x after : Str) (a r : ℕ) → n + m + 1958 ≤ length out → Puts out 0 (parts_of (stream_of (current_commands g o))) x a → Puts x a (parts_of (stream_of (released_commands g))) after r
      → Answered out after (text_or (length out) 0 (pair_of seed o)) (record { number = 0; side = 0; place = 0; len = n + m + 1958 })
  unfolding text_or
  pair-written out x after a r h p q =
      let e = pair-length in
      rw (le-leb (length (pair_of seed o)) (length out) (omega arith))
      (record { number = refl; side = refl; place = refl; len = e; buffer = puts-front (puts-as (puts_then p q) pair_is) (omega arith) })

-- the outcome of a number
pub outcome-none : (n : ℕ) → (n ≡ 0 → ⊥) → (n ≡ 20 → ⊥) → (n ≡ 34 → ⊥) → (n ≡ 35 → ⊥) → (n ≡ 36 → ⊥) → (n ≡ 43 → ⊥) → outcome_at n ≡ None
unfolding outcome_at
outcome-none n a b c d e f = rw (ne_eqb n 0 a, ne_eqb n 20 b, ne_eqb n 34 c, ne_eqb n 35 d, ne_eqb n 36 e, ne_eqb n 43 f)

-- the call
module _ (out : Str) (n seed : ℕ) (h : seed ≤ 2147483647) where
  pub load-as : (o : Outcome) (after : Str) (r : A.Answer) → outcome_at n ≡ Some o → Answered out after (text_or (length out) 0 (pair_of seed o)) r → Answered out after (load (length out) n seed) r
  unfolding load load_as
  load-as o after r e a = rw (le-leb seed 2147483647 h, e) a

  pub load-unknown : outcome_at n ≡ None → Answered out out (load (length out) n seed) (record { number = 61; side = 0; place = 0; len = 0 })
  unfolding load load_as unfit fronted
  load-unknown e = rw (le-leb seed 2147483647 h, e) (record { number = refl; side = refl; place = refl; len = refl; buffer = refl })

pub load-late : (out : Str) (n seed : ℕ) → 2147483647 < seed → Answered out out (load (length out) n seed) (record { number = 61; side = 0; place = 0; len = 0 })
unfolding load unfit fronted
load-late out n seed h = rw (lt-leb seed 2147483647 h) (record { number = refl; side = refl; place = refl; len = refl; buffer = refl })
