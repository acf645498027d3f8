-- Packing by marks and ranks is the packing of the definition. Assumes nothing.
use Rattle.std.specs.Prelude.{Some, None}
use mathlib.Core.Path.{◌≡◌, refl, sym, ap, ap₂, subst, ◌∙◌}
use mathlib.Core.List.{List, [], ◌∷◌, ◌++◌, append_assoc}
use mathlib.Core.Bool.{Bool, true, false, not, cond}
use Prim.Native.Nat.{ℕ, zero, suc, ◌+◌, ◌-◌, ◌≤◌, ◌<◌}
use native.Mathlib.Omega.{arith}
use lib.ListN.{length, get_or, take, replicate, length-append}
use lib.Seq.{take-suc, take_all, length-take-le}
use lib.Dec.{eqb, ltb}
use borrow.Author.Tests.{le-leb, lt-ltb, ltb-true, ltb-false}
use Rattle.record.specs.Base.{Str}
use Rattle.record.specs.Fill.{joined}
use Rattle.record.specs.Write.{Puts}
use Rattle.record.specs.Commands.{commands_at, step_at}
use Rattle.record.specs.declared.text.Text.{Text}
use Rattle.record.specs.declared.command.Command.{Command}
use Rattle.record.specs.declared.command.Cursor.{Cursor}
use Rattle.record.proofs.Stream.{commands-next, commands-stop, step-found, along}
use Rattle.record.proofs.WriterLaws.{puts_then, puts-as}
use Rattle.record.specs.CommandTexts.{texts_at}
use Rattle.drafts.specs.Packing.{texts_of, covered, kept, kept_before, moved_to, written_at, written, packed_commands, packed_pool}
use Rattle.drafts.specs.Code.{up_to, rank_at, start_of, chosen, Marks, is_marked, marks_before, Ranked}
use Rattle.drafts.specs.Packed.{Desk, Packed}
use Rattle.drafts.specs.declared.pack.Ends.{Ends}
use Rattle.drafts.proofs.Pools.{kept_append}
use Rattle.drafts.proofs.MarkedLaws.{marks_then}
use Rattle.drafts.proofs.Arrays.{zeros, zeros-long}

-- chosen commands ------------------------------------------------------------------------------------------------------------------------

-- every command is before the stream's end
pub upto_all : (s : Str) (at : ℕ) → up_to (length s) (commands_at s at) ≡ commands_at s at
unfolding up_to
upto_all s at = along s (λ (i : ℕ). up_to (length s) (commands_at s i) ≡ commands_at s i) stop next at
  where
    stop : (i : ℕ) → step_at s i ≡ None → up_to (length s) (commands_at s i) ≡ commands_at s i
    stop i e = rw (commands-stop s i e)

    next : (i : ℕ) (c : Command) (k : Cursor) → step_at s i ≡ Some (c, k) → up_to (length s) (commands_at s k.at) ≡ commands_at s k.at → up_to (length s) (commands_at s i) ≡ commands_at s i
    next i c k e h =
        let f = step-found s i c k e in
        let a = f.on in
        let b = f.within in
        rw (commands-next s i c k e, lt-ltb i (length s) (omega arith), h)

texts-append : (s : Str) (xs ys : List ℕ) → texts_of s (xs ++ ys) ≡ texts_of s xs ++ texts_of s ys
unfolding texts_of
texts-append s [] ys = refl
texts-append s (x ∷ xs) ys = ap (λ (l : List Text). texts_at s x ++ l) (texts-append s xs ys) ∙ sym (append_assoc (texts_at s x) (texts_of s xs) (texts_of s ys))

written-append : (f : ℕ → ℕ) (s : Str) (xs ys : List ℕ) → joined (written f s (xs ++ ys)) ≡ joined (written f s xs) ++ joined (written f s ys)
unfolding written joined
written-append f s [] ys = refl
written-append f s (x ∷ xs) ys = ap (λ (l : Str). written_at f s x ++ l) (written-append f s xs ys) ∙ sym (append_assoc (written_at f s x) (joined (written f s xs)) (joined (written f s ys)))

module _ (s : Str) (until from : ℕ) where
  pub chosen-marked : (m a b : List ℕ) → Marks (texts_of s (up_to until (commands_at s 0))) m a → Marks (texts_of s (up_to (length s) (commands_at s from))) a b → Marks (texts_of s (chosen s until from)) m b
  unfolding chosen
  chosen-marked m a b p q =
      subst (λ (ts : List Text). Marks ts m b)
      (ap (λ (l : List ℕ). texts_of s (up_to until (commands_at s 0)) ++ texts_of s l) (upto_all s from) ∙ sym (texts-append s (up_to until (commands_at s 0)) (commands_at s from)))
      (marks_then p q)

  pub chosen-put : (f : ℕ → ℕ) (out mid after : Str) (at q r : ℕ) → Puts out at (joined (written f s (up_to until (commands_at s 0)))) mid q → Puts mid q (joined (written f s (up_to (length s) (commands_at s from)))) after r
      → Puts out at (joined (written f s (chosen s until from))) after r
  unfolding chosen
  chosen-put f out mid after at q r a b =
      puts-as (puts_then a b)
      (ap (λ (l : List ℕ). joined (written f s (up_to until (commands_at s 0))) ++ joined (written f s l)) (upto_all s from) ∙ sym (written-append f s (up_to until (commands_at s 0)) (commands_at s from)))

-- marks are what texts cover ---------------------------------------------------------------------------------------------------------------

pub kept-agree : (c d : ℕ → Bool) (i : ℕ) (p : Str) → ((j : ℕ) → i ≤ j → j < i + length p → c j ≡ d j) → kept c i p ≡ kept d i p
unfolding kept
kept-agree c d i [] h = refl
kept-agree c d i (x ∷ p) h = rw (h i (omega arith) (omega arith), kept-agree c d (i + 1) p (λ j a b. h j (omega arith) (omega arith)))

-- as many are kept as are marked
kept-count : (m : List ℕ) (p : Str) (a : ℕ) → a ≤ length p → length (kept (is_marked m) 0 (take a p)) ≡ marks_before m a
unfolding kept marks_before
kept-count m p zero h = refl
kept-count m p (suc a) h =
    let l : length (take a p) ≡ a = length-take-le a p (omega arith) in
    let z : 0 + length (take a p) ≡ a = omega arith in
    ap (λ (y : Str). length (kept (is_marked m) 0 y)) (take-suc p a 0 (omega arith))
    ∙ ap length (kept_append (is_marked m) 0 (take a p) (get_or p a 0 ∷ []))
    ∙ length-append (kept (is_marked m) 0 (take a p)) (kept (is_marked m) (0 + length (take a p)) (get_or p a 0 ∷ []))
    ∙ ap₂ (λ (x y : ℕ). x + y) (kept-count m p a (omega arith)) (ap (λ (k : ℕ). length (kept (is_marked m) k (get_or p a 0 ∷ []))) z ∙ go (is_marked m a))
  where
    go : (b : Bool) → length (cond b (get_or p a 0 ∷ []) []) ≡ cond b 1 0
    go true = refl
    go false = refl

marks-few : (m : List ℕ) (a : ℕ) → marks_before m a ≤ a
unfolding marks_before
marks-few m zero = omega arith
marks-few m (suc a) = go (is_marked m a) (marks-few m a)
  where
    go : (b : Bool) → marks_before m a ≤ a → marks_before m a + cond b 1 0 ≤ suc a
    go true h = omega arith
    go false h = omega arith

module _ (marks ranks pool : List ℕ) (base : ℕ) (k : Desk marks ranks pool base) (ts : List Text) (m : List ℕ) (h : Marks ts marks m) where
  pub marks-short : length m ≤ 16384
  marks-short = let a = h.long in let b = k.marks-long in let c = k.short in omega arith

  pub ranks-room : length ranks ≡ length m + 1
  ranks-room = let a = h.long in let b = k.marks-long in let c = k.ranks-long in omega arith

  is-covered : (i : ℕ) → i < length pool → is_marked m i ≡ covered ts i
  unfolding is_marked
  is-covered i l =
      let b = k.marks-long in
      let c : length marks ≡ length pool = b in
      rw (h.each i (omega arith), k.clear.none i) (go (covered ts i))
    where
      go : (t : Bool) → not (eqb (cond t 1 0) 0) ≡ t
      go true = refl
      go false = refl

  kept_same : kept (is_marked m) 0 pool ≡ kept (covered ts) 0 pool
  kept_same = kept-agree (is_marked m) (covered ts) 0 pool (λ j a b. is-covered j (omega arith))

  before-is : (a : ℕ) → a ≤ length pool → marks_before m a ≡ kept_before (covered ts) pool a
  unfolding kept_before
  before-is a l =
      let n : length (take a pool) ≡ a = length-take-le a pool l in
      sym (kept-count m pool a l) ∙ ap length (kept-agree (is_marked m) (covered ts) 0 (take a pool) (λ j x y. is-covered j (omega arith)))

  module _ (t : List ℕ) (r : Ranked m t) where
    rank_is : (a : ℕ) → rank_at t a ≡ kept_before (covered ts) pool a
    unfolding rank_at kept_before
    rank_is a = go (ltb a (length t)) refl
      where
        go : (b : Bool) → ltb a (length t) ≡ b → rank_at t a ≡ kept_before (covered ts) pool a
        go true e =
            let l = ltb-true a (length t) e in
            let n = r.long in
            let w = h.long in
            let v = k.marks-long in
            rw e (r.each a (omega arith) ∙ before-is a (omega arith))
        go false e =
            let l = ltb-false a (length t) e in
            let n = r.long in
            let w = h.long in
            let v = k.marks-long in
            let z : length t - 1 ≡ length pool = omega arith in
            rw (e, z) (r.each (length pool) (omega arith) ∙ before-is (length pool) (omega arith)
            ∙ ap (λ (y : Str). length (kept (covered ts) 0 y)) (take_all (length pool) pool (omega arith) ∙ sym (take_all a pool (omega arith))))

    rank-low : (a : ℕ) → rank_at t a ≤ 16384
    unfolding rank_at
    rank-low a = go (ltb a (length t)) refl
      where
        bound : (i : ℕ) → i ≤ length m → get_or t i 0 ≤ 16384
        bound i l = let e = r.each i l in let f = marks-few m i in let s = marks-short in omega arith

        go : (b : Bool) → ltb a (length t) ≡ b → rank_at t a ≤ 16384
        go true e = let l = ltb-true a (length t) e in let n = r.long in rw e (bound a (omega arith))
        go false e = let n = r.long in rw e (bound (length t - 1) (omega arith))

    start_is : (a : ℕ) → start_of base t a ≡ moved_to base ts pool a
    unfolding start_of moved_to
    start_is a =
        let l = rank-low a in
        let b = k.low in
        rw (le-leb (base + rank_at t a) 65535 (omega arith), rank_is a)

pub packed-is : {marks ranks pool : List ℕ} {s : Str} {ps : List ℕ} {m t : List ℕ} {at : Ends} {out after words left : Str} {base x y : ℕ}
    → Desk marks ranks pool at.pool → base ≡ at.pool → Marks (texts_of s ps) marks m → Ranked m t
    → Puts out at.stream (joined (written (start_of base t) s ps)) after x → Puts words at.pool (kept (is_marked m) 0 pool) left y
    → Packed s pool ps at out after words left (record { stream = x; pool = y })
unfolding packed_commands packed_pool
packed-is {marks} {ranks} {pool} {s} {ps} {m} {t} {at} {out} {after} {words} {left} {base} {x} k e h r a b =
    let c : Puts out at.stream (joined (written (start_of at.pool t) s ps)) after x =
    subst (λ (i : ℕ). Puts out at.stream (joined (written (start_of i t) s ps)) after x) e a in
    record {
      commands = puts-as c (λ i. joined (written (λ (j : ℕ). start_is marks ranks pool at.pool k (texts_of s ps) m h t r j i) s ps));
      texts = puts-as b (kept_same marks ranks pool at.pool k (texts_of s ps) m h);
    }

-- tables as they are made, cut to a pool's length
zeros-cut : (n k q : ℕ) → get_or (take n (zeros k)) q 0 ≡ 0
zeros-cut zero k q = refl
zeros-cut (suc n) zero q = refl
zeros-cut (suc n) (suc k) zero = refl
zeros-cut (suc n) (suc k) (suc q) = zeros-cut n k q

pub desk-made : (pool : List ℕ) (base : ℕ) → length pool ≤ 16384 → base ≤ 16384 → Desk (take (length pool) (replicate 16384 0)) (take (length pool + 1) (replicate 16385 0)) pool base
desk-made pool base h l =
    let a = zeros-long 16384 in
    let b = zeros-long 16385 in
    record {
      clear = record { none = λ q. zeros-cut (length pool) 16384 q };
      marks-long = length-take-le (length pool) (zeros 16384) (omega arith);
      ranks-long = length-take-le (length pool + 1) (zeros 16385) (omega arith);
      short = h;
      low = l;
    }
