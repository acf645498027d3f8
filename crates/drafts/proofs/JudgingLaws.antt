-- The judgement of an addition is that of a current record with one more rule of place. Assumes nothing.
use Rattle.std.specs.Prelude.{Option, Some, None, Result, Ok, Err, ⊤}
use mathlib.Core.Path.{◌≡◌, refl, sym, ap, ◌∙◌}
use mathlib.Core.List.{[], ◌∷◌}
use mathlib.Core.Bool.{Bool, true, false, ◌&&◌, cond}
use Prim.Native.Nat.{ℕ, zero, suc, ◌+◌, ◌-◌, ◌≤◌, ◌<◌}
use native.Mathlib.Omega.{arith}
use lib.ListN.{length, get_or, drop}
use lib.Dec.{eqb, ltb, leb}
use borrow.Author.Tests.{eq-eqb, ne_eqb, le-leb, lt-leb}
use Rattle.record.specs.Base.{Str}
use Rattle.record.specs.Letters.{odd_letter}
use Rattle.record.specs.Commands.{operands, widths, command_of, start}
use Rattle.record.specs.Judge.{may_stand, advanced, ready, faulted, faults_from, judged_with, judged_as, judged_at}
use Rattle.record.specs.Reading.{rec, Parsed, ok, bad, onto, continued, stream_limit, pool_limit}
use Rattle.record.specs.Read.{outcome_of}
use Rattle.record.specs.declared.command.Cursor.{Cursor}
use Rattle.record.specs.declared.command.Command.{Command}
use Rattle.record.specs.declared.refusal.Side.TheVariants.{Current}
use Rattle.record.specs.declared.refusal.Refusal.{Refusal}
use Rattle.record.specs.declared.refusal.Refusal.TheVariants as R
use Rattle.record.specs.declared.judge.Fault.{Fault}
use Rattle.record.specs.declared.judge.Fault.TheVariants as F
use Rattle.record.proofs.Stream.{step-found}
use Rattle.record.proofs.JudgeLaws.{judged-past}
use Rattle.record.proofs.Accepted.{judged-step}
use Rattle.drafts.specs.Addition.{is_type, is_part, may_add, addition_as, addition_at, parse_addition, concluded_addition, addition}
use Rattle.drafts.specs.Judging.{is_first, addition_from}
use Rattle.record.specs.Judge.{Judged}

-- what may stand -------------------------------------------------------------------------------------------------------------------------

module _ (last b : ℕ) where
  pub add-head : last ≡ 0 → eqb b 1 ≡ may_add last b
  unfolding may_add
  add-head e = rw (eq-eqb last 0 e)

  module _ (n : last ≡ 0 → ⊥) where
    pub add-type : (r : Bool) → last ≡ 1 → r ≡ is_type b → r ≡ may_add last b
    unfolding may_add
    add-type r e h = rw (ne_eqb last 0 n, eq-eqb last 1 e) h

    module _ (m : last ≡ 1 → ⊥) (t : Bool) (f : t ≡ is_part b) where
      pub add-part : t ≡ true → true ≡ may_add last b
      unfolding may_add
      add-part h = rw (ne_eqb last 0 n, ne_eqb last 1 m, ← f, h)

      pub add-end : t ≡ false → eqb b 15 ≡ may_add last b
      unfolding may_add
      add-end h = rw (ne_eqb last 0 n, ne_eqb last 1 m, ← f, h)

-- the judgement --------------------------------------------------------------------------------------------------------------------------

-- 2 and 1 go before 3
abbrev pub comes_first : Judged → Bool
comes_first (Ok (Some (c, k))) = false
comes_first (Ok None) = false
comes_first (Err (n, p)) = is_first n

abbrev picked : Bool → ℕ → Judged → Judged
picked a at j = cond (comes_first j) j (cond a j (Err (R.Misplaced, at)))

first-ready : (s : Str) (c : Cursor) (b w : ℕ) → comes_first (ready s c b w) ≡ false
unfolding ready
first-ready s c b w = go (eqb b 15) (eqb (c.at + w) (length s))
  where
    go : (x y : Bool) → comes_first (cond x (cond y (Ok None) (Err (R.Misplaced, c.at + w))) (Ok (Some (command_of b (drop c.at s), advanced c b w)))) ≡ false
    go true true = refl
    go true false = refl
    go false y = refl

first-faulted : (at : ℕ) (j : Judged) (f : Fault) → comes_first j ≡ false → comes_first (faulted at j f) ≡ false
first-faulted at j F.Fine h = h
first-faulted at j F.Outside h = refl
first-faulted at j F.Missing h = refl
first-faulted at j F.Flag h = refl

-- a command that is there and stands, by its operands
abbrev judged_here : Str → Str → Cursor → Str → ℕ → Judged
judged_here s pool c os w = faulted c.at (ready s c (get_or s c.at 0) w) (faults_from Current pool (drop c.at s) 1 os)

not_first : (s : Str) (pool : Str) (c : Cursor) (os : Str) (w : ℕ) → comes_first (judged_here s pool c os w) ≡ false
not_first s pool c os w = first-faulted c.at (ready s c (get_or s c.at 0) w) (faults_from Current pool (drop c.at s) 1 os) (first-ready s c (get_or s c.at 0) w)

picked_of : (at : ℕ) (j : Judged) → comes_first j ≡ false → (x m a : Bool)
    → cond x (Err (R.Cut, at)) (cond (m && a) j (Err (R.Misplaced, at))) ≡ picked a at (cond x (Err (R.Cut, at)) (cond m j (Err (R.Misplaced, at))))
picked_of at j e true m a = refl
picked_of at j e false true true = rw e
picked_of at j e false true false = rw e
picked_of at j e false false true = refl
picked_of at j e false false false = refl

added-with : (s : Str) (pool : Str) (c : Cursor) (os : Str) (w : ℕ) (m a : Bool) → judged_with Current s pool c os w (m && a) ≡ picked a c.at (judged_with Current s pool c os w m)
unfolding judged_with
added-with s pool c os w m a = picked_of c.at (judged_here s pool c os w) (not_first s pool c os w) (ltb (length s - c.at) w) m a

pub addition-is : (s : Str) (pool : Str) (c : Cursor) → addition_at s pool c ≡ picked (may_add c.last (get_or s c.at 0)) c.at (judged_at Current s pool c)
unfolding addition_at judged_at addition_as
addition-is s pool c = go (ltb c.at (length s)) (get_or s c.at 0) (operands (get_or s c.at 0))
  where
    go : (x : Bool) (b : ℕ) (o : Option Str) → cond x (addition_as s pool c b o) (Err (R.Cut, c.at)) ≡ picked (may_add c.last b) c.at (cond x (judged_as Current s pool c b o) (Err (R.Cut, c.at)))
    go false b o = refl
    go true b None = refl
    go true b (Some os) = added-with s pool c os (1 + widths os) (may_stand c b) (may_add c.last b)

-- the commands, one at a time --------------------------------------------------------------------------------------------------------------

next_of : (a : Bool) (at : ℕ) (j : Judged) (d : Command) (k : Cursor) → picked a at j ≡ Ok (Some (d, k)) → j ≡ Ok (Some (d, k))
next_of a at j d k e = go (comes_first j) a e
  where
    go : (x a : Bool) → cond x j (cond a j (Err (R.Misplaced, at))) ≡ Ok (Some (d, k)) → j ≡ Ok (Some (d, k))
    go true a h = h
    go false true h = h
    go false false h = absurd (let z : ◌≡◌ {A = ℕ} 0 1 = cc in omega arith)

module _ (s : Str) (pool : Str) where
  was-next : (c : Cursor) (d : Command) (k : Cursor) → addition_at s pool c ≡ Ok (Some (d, k)) → judged_at Current s pool c ≡ Ok (Some (d, k))
  was-next c d k e = next_of (may_add c.last (get_or s c.at 0)) c.at (judged_at Current s pool c) d k (sym (addition-is s pool c) ∙ e)

  past : (c : Cursor) → length s ≤ c.at → addition_at s pool c ≡ Err (R.Cut, c.at)
  past c h = addition-is s pool c ∙ rw (← judged-past Current s pool c h)

  enough : (k m : ℕ) (c : Cursor) → length s < k + c.at → length s < m + c.at → parse_addition k s pool c ≡ parse_addition m s pool c
  unfolding parse_addition continued
  enough zero zero c p q = refl
  enough zero (suc m) c p q = rw (past c (omega arith))
  enough (suc k) zero c p q = rw (past c (omega arith))
  enough (suc k) (suc m) c p q = go (enough k m) (addition_at s pool c) refl
    where
      go : ((d : Cursor) → length s < k + d.at → length s < m + d.at → parse_addition k s pool d ≡ parse_addition m s pool d) → (j : Judged) → addition_at s pool c ≡ j
          → continued c.at (parse_addition k s pool) j ≡ continued c.at (parse_addition m s pool) j
      go ih (Ok (Some (d, j))) e =
          let f = step-found s c.at _ _ (judged-step Current s pool c d j (was-next c d j e)) in
          let on = f.on in
          ap (onto c.at) (ih j (omega arith) (omega arith))
      go ih (Ok None) e = refl
      go ih (Err (r, p)) e = refl

  from-here : (c : Cursor) → addition_from s pool c ≡ continued c.at (parse_addition (length s + 1 - c.at) s pool) (addition_at s pool c)
  unfolding addition_from parse_addition
  from-here c = enough (length s + 1 - c.at) (suc (length s + 1 - c.at)) c (omega arith) (omega arith)

  onto-outcome : (at : ℕ) (x : Parsed) → outcome_of (onto at x) ≡ outcome_of x
  unfolding outcome_of onto
  onto-outcome at (ok ps) = refl
  onto-outcome at (bad r p) = refl

  module _ (c : Cursor) (j : Judged) (e : j ≡ addition_at s pool c) where
    pub adds_on : (d : Command) (k : Cursor) → j ≡ Ok (Some (d, k)) → outcome_of (addition_from s pool c) ≡ outcome_of (addition_from s pool k)
    unfolding continued addition_from
    adds_on d k h =
        let f = step-found s c.at _ _ (judged-step Current s pool c d k (was-next c d k (sym e ∙ h))) in
        let on = f.on in
        let within = f.within in
        ap outcome_of (from-here c ∙ (rw (sym e ∙ h) (ap (onto c.at) (enough (length s + 1 - c.at) (length s + 1 - k.at) k (omega arith) (omega arith)))))
        ∙ onto-outcome c.at (parse_addition (length s + 1 - k.at) s pool k)

    pub adds-done : j ≡ Ok None → outcome_of (addition_from s pool c) ≡ Ok tt
    unfolding continued outcome_of
    adds-done h = ap outcome_of (from-here c) ∙ rw (sym e ∙ h)

    pub adds-refused : (r : Refusal) (p : ℕ) → j ≡ Err (r, p) → outcome_of (addition_from s pool c) ≡ Err (r, p)
    unfolding continued outcome_of
    adds-refused r p h = ap outcome_of (from-here c) ∙ rw (sym e ∙ h)

-- the whole addition -----------------------------------------------------------------------------------------------------------------------

module _ (s p : Str) where
  pub addition-long : 32768 < length s → Err (R.Long, 0) ≡ outcome_of (addition (rec s p []))
  unfolding addition concluded_addition outcome_of stream_limit
  addition-long h = rw (lt-leb (length s) 32768 h)

  pub addition-wide : 16384 < length p → Err (R.Long, 0) ≡ outcome_of (addition (rec s p []))
  unfolding addition concluded_addition outcome_of pool_limit
  addition-wide h = rw (lt-leb (length p) 16384 h) (either (leb (length s) stream_limit))
    where
      either : (b : Bool) → Err (R.Long, 0) ≡ outcome_of (concluded_addition (b && false) (odd_letter p) (parse_addition (length s + 1) s p start))
      either true = refl
      either false = refl

  module _ (a : length s ≤ 32768) (b : length p ≤ 16384) (l : Option ℕ) (e : l ≡ odd_letter p) where
    pub addition-letter : (i : ℕ) → l ≡ Some i → Err (R.Letter, i) ≡ outcome_of (addition (rec s p []))
    unfolding addition concluded_addition outcome_of stream_limit pool_limit
    addition-letter i h = rw (le-leb (length s) 32768 a, le-leb (length p) 16384 b, ← e, h)

    pub addition-whole : l ≡ None → (r : Result ⊤ (Refusal × ℕ)) → r ≡ outcome_of (addition_from s p start) → r ≡ outcome_of (addition (rec s p []))
    unfolding addition concluded_addition stream_limit pool_limit addition_from
    addition-whole g r h =
        let z : length s + 1 - 0 ≡ length s + 1 = omega arith in
        rw (le-leb (length s) 32768 a, le-leb (length p) 16384 b, ← e, g) (h ∙ ap (λ (k : ℕ). outcome_of (parse_addition k s p start)) z)
