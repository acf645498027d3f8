-- Edges: in a well-formed pool a place is one exactly if no tail stands there, and what lies between two is well-formed. Assumes nothing.
use Prim.Native.Nat.{ℕ, zero, suc, ◌+◌, ◌-◌, ◌≤◌, ◌<◌}
use mathlib.Core.Bool.{true, false, not, false≢true}
use mathlib.Core.List.{[], ◌∷◌}
use mathlib.Core.Path.{◌≡◌, refl, sym, ap, ◌∙◌}
use native.Mathlib.Omega.{arith}
use lib.Dec.{eqb, eqb-suc-zero}
use lib.ListN.{length, get_or, take, drop}
use lib.Seq.{get_or-take, get_or-drop}
use Rattle.texts.specs.Texts.{Str}
use Rattle.texts.specs.Utf8.{is_tail, char_length, well_after, well_formed, edge_after, edge, no_tail}
use Rattle.texts.proofs.RowLaws.{tail-below, Row, row_of, row-length, row-lead, row-second, row-third, row-fourth, row-most, row-swap}
use Rattle.texts.proofs.EncodingLaws.{begins, well-step, whole}

-- the next k bytes are tails
abbrev pub Tails : ℕ → Str → Type 0
Tails k s = (i : ℕ) → i < k → is_tail (get_or s i 0) ≡ true

module _ (a : ℕ) (s : Str) (k : ℕ) (e : char_length (a ∷ s) ≡ suc k) where
  row : Row k a (get_or s 0 0) (get_or s 1 0) (get_or s 2 0)
  unfolding char_length
  row = row_of a (get_or s 0 0) (get_or s 1 0) (get_or s 2 0) k e

  pub lead-no-tail : is_tail a ≡ false
  lead-no-tail = row-lead k a (get_or s 0 0) (get_or s 1 0) (get_or s 2 0) row

  pub tails-follow : Tails k s
  tails-follow zero h = row-second k a (get_or s 0 0) (get_or s 1 0) (get_or s 2 0) row h
  tails-follow (suc zero) h = row-third k a (get_or s 0 0) (get_or s 1 0) (get_or s 2 0) row h
  tails-follow (suc (suc zero)) h = row-fourth k a (get_or s 0 0) (get_or s 1 0) (get_or s 2 0) row h
  tails-follow (suc (suc (suc i))) h = let m = row-most k a (get_or s 0 0) (get_or s 1 0) (get_or s 2 0) row in absurd (omega arith)

  edge-step : (at : ℕ) → edge_after 0 (a ∷ s) (suc at) ≡ edge_after k s at
  unfolding edge_after
  edge-step at = let z : suc k - 1 ≡ k = omega arith in rw (e, z)

  -- the tails decide: with them another list begins with the sequence too
  pub sequence-same : (t : Str) → ((i : ℕ) → i < k → get_or t i 0 ≡ get_or s i 0) → char_length (a ∷ t) ≡ suc k
  unfolding char_length
  sequence-same t h =
      row-length a (get_or t 0 0) (get_or t 1 0) (get_or t 2 0) k
      (row-swap k a (get_or s 0 0) (get_or s 1 0) (get_or s 2 0) (get_or t 0 0) (get_or t 1 0) (get_or t 2 0) (λ l. h 0 l) (λ l. h 1 l) (λ l. h 2 l) row)

  length-kept : (n : ℕ) → k ≤ n → char_length (a ∷ take n s) ≡ suc k
  length-kept n h = sequence-same (take n s) (λ i l. get_or-take n s i 0 (omega arith))

edge-tail : (k : ℕ) (s : Str) (at : ℕ) → Tails k s → well_after k s ≡ true → edge_after k s at ≡ not (is_tail (get_or s at 0))
unfolding edge_after well_after
edge-tail zero [] zero t e = rw (tail-below 0 (omega arith))
edge-tail zero (b ∷ s) zero t e = let n = begins b s e in rw (lead-no-tail b s n.0 n.1)
edge-tail (suc k) s zero t e = rw (t 0 (omega arith)) (eqb-suc-zero k)
edge-tail k [] (suc at) t e = rw (tail-below 0 (omega arith))
edge-tail (suc k) (b ∷ s) (suc at) t e = edge-tail k s at (λ i h. t (suc i) (omega arith)) e
edge-tail zero (b ∷ s) (suc at) t e =
    let n = begins b s e in
    edge-step b s n.0 n.1 at ∙ edge-tail n.0 s at (tails-follow b s n.0 n.1) (sym (well-step b s n.0 n.1) ∙ e)

-- THE CHEAP TEST: a place of a well-formed pool is an edge exactly if no tail stands there
pub edge-no-tail : (s : Str) (at : ℕ) → well_formed s ≡ true → edge s at ≡ no_tail s at
unfolding edge no_tail well_formed
edge-no-tail s at h = edge-tail 0 s at (λ i l. absurd (omega arith)) h

no_more : (k : ℕ) → eqb (suc k) 0 ≡ true → ⊥
no_more k h = false≢true (sym (eqb-suc-zero k) ∙ h)

drop-well : (k : ℕ) (s : Str) (at : ℕ) → well_after k s ≡ true → edge_after k s at ≡ true → well_after 0 (drop at s) ≡ true
unfolding edge_after well_after
drop-well zero s zero e h = e
drop-well (suc k) s zero e h = absurd (no_more k h)
drop-well k [] (suc at) e h = refl
drop-well (suc k) (b ∷ s) (suc at) e h = drop-well k s at e h
drop-well zero (b ∷ s) (suc at) e h =
    let n = begins b s e in
    drop-well n.0 s at (sym (well-step b s n.0 n.1) ∙ e) (sym (edge-step b s n.0 n.1 at) ∙ h)

edge-far : (k : ℕ) (s : Str) (at : ℕ) → k ≤ length s → edge_after k s at ≡ true → k ≤ at
unfolding edge_after
edge-far zero s at l h = omega arith
edge-far (suc k) s zero l h = absurd (no_more k h)
edge-far (suc k) [] (suc at) l h = absurd (omega arith)
edge-far (suc k) (b ∷ s) (suc at) l h = let r = edge-far k s at (omega arith) h in omega arith

take-well : (k : ℕ) (s : Str) (at : ℕ) → well_after k s ≡ true → edge_after k s at ≡ true → well_after k (take at s) ≡ true
unfolding edge_after well_after
take-well k s zero e h = refl
take-well k [] (suc at) e h = refl
take-well (suc k) (b ∷ s) (suc at) e h = take-well k s at e h
take-well zero (b ∷ s) (suc at) e h =
    let n = begins b s e in
    let g = sym (edge-step b s n.0 n.1 at) ∙ h in
    let f = edge-far n.0 s at (whole b s n.0 n.1).room g in
    well-step b (take at s) n.0 (length-kept b s n.0 n.1 at f) ∙ take-well n.0 s at (sym (well-step b s n.0 n.1) ∙ e) g

-- TEXTS ARE WHOLE: the stretch of a well-formed pool between two edges is well-formed itself
pub stretch-well : (s : Str) (at n : ℕ) → well_formed s ≡ true → edge s at ≡ true → edge s (at + n) ≡ true → well_formed (take n (drop at s)) ≡ true
unfolding well_formed edge no_tail
stretch-well s at n w p q =
    let d = drop-well 0 s at w p in
    let r : edge (drop at s) n ≡ true = edge-no-tail (drop at s) n d ∙ ap (λ (x : ℕ). not (is_tail x)) (get_or-drop at s n 0) ∙ sym (edge-no-tail s (at + n) w) ∙ q in
    take-well 0 (drop at s) n d r

-- from the cheap test
pub text-whole : (s : Str) (at n : ℕ) → well_formed s ≡ true → no_tail s at ≡ true → no_tail s (at + n) ≡ true → well_formed (take n (drop at s)) ≡ true
text-whole s at n w p q = stretch-well s at n w (edge-no-tail s at w ∙ p) (edge-no-tail s (at + n) w ∙ q)

-- a well-formed text begins with no tail
pub well-begins : (s : Str) → well_formed s ≡ true → no_tail s 0 ≡ true
unfolding well_formed no_tail
well-begins [] h = rw (tail-below 0 (omega arith))
well-begins (b ∷ s) h = let n = begins b s h in rw (lead-no-tail b s n.0 n.1)
