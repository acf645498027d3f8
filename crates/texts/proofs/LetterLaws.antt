-- The walk over letters, as the code makes it. Assumes nothing.
use Prim.Native.Nat.{ℕ, zero, suc, ◌+◌, ◌-◌, ◌≤◌, ◌<◌}
use mathlib.Core.Bool.{Bool, true, false, ◌&&◌, ◌||◌, not, cond, false≢true, and-true, and_assoc}
use mathlib.Core.List.{[], ◌∷◌, ◌++◌}
use mathlib.Core.Logic.{◌⊎◌, inl, inr}
use mathlib.Core.Path.{◌≡◌, refl, sym, ap, subst, ◌∙◌}
use native.Mathlib.Omega.{arith}
use lib.Dec.{eqb-suc-zero}
use lib.ListN.{length, get_or, take, drop, drop_of_length-le, length-drop, take-append-drop}
use lib.Seq.{drop-cons, drop-drop, get_or-drop, length-take-le}
use borrow.Author.Tests.{not-true}
use Rattle.texts.specs.Texts.{Str}
use Rattle.texts.specs.Utf8.{inside, is_tail, utf82, utf83, utf84, char_of, is_control, no_control, no_tail, char_length, well_after, well_formed, letter_length, odd_after, odd_place}
use Rattle.texts.specs.Plain.{is_plain, all_plain, Passed}
use Rattle.texts.proofs.TextLaws.{both, below_or}
use Rattle.texts.proofs.RowLaws.{inside-yes, inside-below, inside-above, inside_is, tail-is, tail-below, char-1, utf81-no}
use Rattle.texts.proofs.EncodingLaws.{begins, well-step, whole}
use Rattle.texts.proofs.EdgeLaws.{Tails, tails-follow, text-whole}

-- the code's tests ------------------------------------------------------------------------------------------------------------

module _ (a b c d : ℕ) where
  pub char-one : a ≤ 0x7f → 1 ≡ char_of a b c d
  char-one h = sym (char-1 a b c d h)

  pub char-two : (t : Bool) → 0x7f < a → t ≡ utf82 a b → t ≡ true → 2 ≡ char_of a b c d
  unfolding char_of
  char-two t h e f = rw (utf81-no a b c h, ← e, f)

  pub char-three : (t u : Bool) → 0x7f < a → t ≡ utf82 a b → t ≡ false → u ≡ utf83 a b c → u ≡ true → 3 ≡ char_of a b c d
  unfolding char_of
  char-three t u h e f g i = rw (utf81-no a b c h, ← e, f, ← g, i)

  pub char-four : (t u v : Bool) → 0x7f < a → t ≡ utf82 a b → t ≡ false → u ≡ utf83 a b c → u ≡ false → v ≡ utf84 a b c d → v ≡ true → 4 ≡ char_of a b c d
  unfolding char_of
  char-four t u v h e f g i j l = rw (utf81-no a b c h, ← e, f, ← g, i, ← j, l)

  pub char-none : (t u v : Bool) → 0x7f < a → t ≡ utf82 a b → t ≡ false → u ≡ utf83 a b c → u ≡ false → v ≡ utf84 a b c d → v ≡ false → 0 ≡ char_of a b c d
  unfolding char_of
  char-none t u v h e f g i j l = rw (utf81-no a b c h, ← e, f, ← g, i, ← j, l)

-- one letter ------------------------------------------------------------------------------------------------------------------

module _ (a : ℕ) where
  control-high : 0x7f < a → is_control a ≡ false
  unfolding is_control
  control-high h = rw (inside-above 0x00 0x1f a (omega arith), inside-above 0x7f 0x7f a h)

  control-plain : is_plain a ≡ true → is_control a ≡ false
  unfolding is_control is_plain
  control-plain h = let p = inside_is 0x20 0x7e a h in rw (inside-above 0x00 0x1f a (omega arith), inside-below 0x7f 0x7f a (omega arith))

  control-low : is_plain a ≡ false → a ≤ 0x7f → is_control a ≡ true
  unfolding is_control is_plain
  control-low h l = go (below_or a 0x20) (below_or a 0x7f)
    where
      go : (a < 0x20) ⊎ (0x20 ≤ a) → (a < 0x7f) ⊎ (0x7f ≤ a) → (inside 0x00 0x1f a || inside 0x7f 0x7f a) ≡ true
      go (inl p) q = rw (inside-yes 0x00 0x1f a (omega arith) (omega arith))
      go (inr p) (inl q) = absurd (false≢true (sym h ∙ inside-yes 0x20 0x7e a p (omega arith)))
      go (inr p) (inr q) = rw (inside-above 0x00 0x1f a (omega arith), inside-yes 0x7f 0x7f a q l)

  module _ (s : Str) where
    plain-length : is_plain a ≡ true → letter_length (a ∷ s) ≡ 1
    unfolding letter_length char_length is_plain
    plain-length h = let p = inside_is 0x20 0x7e a h in rw (control-plain h) (char-1 a (get_or s 0 0) (get_or s 1 0) (get_or s 2 0) (omega arith))

    odd-length : is_plain a ≡ false → a ≤ 0x7f → letter_length (a ∷ s) ≡ 0
    unfolding letter_length
    odd-length h l = rw (control-low h l)

    high-length : 0x7f < a → letter_length (a ∷ s) ≡ char_of a (get_or s 0 0) (get_or s 1 0) (get_or s 2 0)
    unfolding letter_length char_length
    high-length h = rw (control-high h)

    -- what W-206 lets through is a sequence of the RFC
    letter-char : (k : ℕ) → letter_length (a ∷ s) ≡ suc k → char_length (a ∷ s) ≡ suc k
    unfolding letter_length
    letter-char k e = go (is_control a) e
      where
        go : (t : Bool) → cond t 0 (char_length (a ∷ s)) ≡ suc k → char_length (a ∷ s) ≡ suc k
        go true f = absurd (omega arith)
        go false f = f

    -- and begins with no control byte
    letter-clean : (k : ℕ) → letter_length (a ∷ s) ≡ suc k → is_control a ≡ false
    unfolding letter_length
    letter-clean k e = go (is_control a) refl e
      where
        go : (t : Bool) → is_control a ≡ t → cond t 0 (char_length (a ∷ s)) ≡ suc k → is_control a ≡ false
        go true g f = absurd (omega arith)
        go false g f = g

    char-letter : (k : ℕ) → not (is_control a) ≡ true → char_length (a ∷ s) ≡ suc k → letter_length (a ∷ s) ≡ suc k
    unfolding letter_length
    char-letter k h e = rw (not-true (is_control a) h) e

    odd_step : (k : ℕ) → letter_length (a ∷ s) ≡ suc k → odd_after 0 (a ∷ s) ≡ suc (odd_after k s)
    unfolding odd_after
    odd_step k e = let z : suc k - 1 ≡ k = omega arith in rw (e, eqb-suc-zero k, z)

    odd-none : letter_length (a ∷ s) ≡ 0 → odd_after 0 (a ∷ s) ≡ 0
    unfolding odd_after
    odd-none e = rw e

-- at a place of a list
module _ (l : Str) (i : ℕ) where
  pub length-past : length l ≤ i → 0 ≡ letter_length (drop i l)
  unfolding letter_length char_length is_control inside
  length-past h = rw (drop_of_length-le l {i = i} h)

  pub length-plain : (t : Bool) → i < length l → t ≡ is_plain (get_or l i 0) → t ≡ true → 1 ≡ letter_length (drop i l)
  length-plain t h e f = rw (drop-cons l i 0) (sym (plain-length (get_or l i 0) (drop (suc i) l) (sym e ∙ f)))

  pub length-odd : (t : Bool) → i < length l → t ≡ is_plain (get_or l i 0) → t ≡ false → get_or l i 0 ≤ 0x7f → 0 ≡ letter_length (drop i l)
  length-odd t h e f g = rw (drop-cons l i 0) (sym (odd-length (get_or l i 0) (drop (suc i) l) (sym e ∙ f) g))

  pub length_high : (b c d r : ℕ) → i < length l → 0x7f < get_or l i 0 → b ≡ get_or l (i + 1) 0 → c ≡ get_or l (i + 2) 0 → d ≡ get_or l (i + 3) 0 → r ≡ char_of (get_or l i 0) b c d → r ≡ letter_length (drop i l)
  length_high b c d r h g p q t e =
      rw (drop-cons l i 0)
      (e ∙ rw (p ∙ after 0 1 refl, q ∙ after 1 2 refl, t ∙ after 2 3 refl) (sym (high-length (get_or l i 0) (drop (suc i) l) g)))
    where
      after : (j m : ℕ) → m ≡ j + 1 → get_or l (i + m) 0 ≡ get_or (drop (suc i) l) j 0
      after j m f = ap (λ (n : ℕ). get_or l n 0) (let z : i + m ≡ suc i + j = omega arith in z) ∙ sym (get_or-drop (suc i) l j 0)

-- the walk ----------------------------------------------------------------------------------------------------------------------

odd-skip : (k : ℕ) (s : Str) → k ≤ length s → odd_after k s ≡ k + odd_after 0 (drop k s)
unfolding odd_after
odd-skip zero s h = omega arith
odd-skip (suc k) [] h = absurd (omega arith)
odd-skip (suc k) (b ∷ s) h = let r = odd-skip k s (omega arith) in omega arith

-- a letter is passed: nothing odd before its end
pub record Stepped (l : Str) (i j : ℕ) : Type 0 where
  pub room : j ≤ length l
  pub same : i + odd_place (drop i l) ≡ j + odd_place (drop j l)

step_from : (a : ℕ) (s l : Str) (i k : ℕ) → drop i l ≡ a ∷ s → i + 1 + length s ≡ length l → letter_length (a ∷ s) ≡ suc k → (m : ℕ) → m ≡ suc k → drop k s ≡ drop (i + m) l → Stepped l i (i + m)
unfolding odd_place
step_from a s l i k d n e m f g =
    let w = (whole a s k (letter-char a s k e)).room in
    let p : odd_after 0 (drop i l) ≡ suc (odd_after k s) = ap (odd_after 0) d ∙ odd_step a s k e in
    let q = odd-skip k s w in
    let r : odd_after 0 (drop k s) ≡ odd_after 0 (drop (i + m) l) = ap (odd_after 0) g in
    record { room = omega arith; same = omega arith }

module _ (l : Str) (i : ℕ) where
  pub letter-passed : (m : ℕ) → i < length l → m ≡ letter_length (drop i l) → (m ≡ 0 → ⊥) → Stepped l i (i + m)
  letter-passed zero h e d = absurd (d refl)
  letter-passed (suc k) h e d =
      step_from (get_or l i 0) (drop (suc i) l) l i k (drop-cons l i 0 h) (let z = length-drop (suc i) l in omega arith) (sym (ap letter_length (drop-cons l i 0 h)) ∙ sym e) (suc k) refl
      (drop-drop k (suc i) l ∙ ap (λ (n : ℕ). drop n l) (let z : suc i + k ≡ i + suc k = omega arith in z))

  pub letter-stops : (m : ℕ) → i < length l → m ≡ letter_length (drop i l) → m ≡ 0 → odd_place (drop i l) ≡ 0
  unfolding odd_place
  letter-stops m h e f = rw (drop-cons l i 0) (odd-none (get_or l i 0) (drop (suc i) l) (sym (ap letter_length (drop-cons l i 0 h)) ∙ sym e ∙ f))

  pub letter-end : length l ≤ i → odd_place (drop i l) ≡ 0
  unfolding odd_place odd_after
  letter-end h = rw (drop_of_length-le l {i = i} h)

-- plain bytes
plain-front : (s t : Str) → all_plain s ≡ true → odd_after 0 (s ++ t) ≡ length s + odd_after 0 t
unfolding all_plain odd_after
plain-front [] t h = omega arith
plain-front (a ∷ s) t h =
    let k = both (is_plain a) (all_plain s) h in
    let p = odd_step a (s ++ t) 0 (plain-length a (s ++ t) k.0) in
    let q = plain-front s t k.1 in
    p ∙ (let z : suc (odd_after 0 (s ++ t)) ≡ suc (length s) + odd_after 0 t = omega arith in z)

plain-whole : (s : Str) → all_plain s ≡ true → odd_after 0 s ≡ length s
unfolding all_plain odd_after
plain-whole [] h = refl
plain-whole (a ∷ s) h = let k = both (is_plain a) (all_plain s) h in odd_step a s 0 (plain-length a s k.0) ∙ ap suc (plain-whole s k.1)

pub plain-all : (l : Str) (t : Bool) → t ≡ all_plain l → t ≡ true → length l ≡ odd_place l
unfolding odd_place
plain-all l t e f = sym (plain-whole l (sym e ∙ f))

pub plain-passed : (l : Str) (i n : ℕ) (t : Bool) → i + n ≤ length l → t ≡ all_plain (take n (drop i l)) → t ≡ true → Stepped l i (i + n)
unfolding odd_place
plain-passed l i n t h e f =
    let s = drop i l in
    let w = length-drop i l in
    let m = length-take-le n s (omega arith) in
    let p = plain-front (take n s) (drop n s) (sym e ∙ f) in
    let q : odd_after 0 (take n s ++ drop n s) ≡ odd_after 0 s = ap (odd_after 0) (take-append-drop n s) in
    let r : odd_after 0 (drop n s) ≡ odd_after 0 (drop (i + n) l) = ap (odd_after 0) (drop-drop n i l) in
    record { room = omega arith; same = omega arith }

-- all bytes, and one more
all_plain-push : (s : Str) (b : ℕ) → all_plain (s ++ b ∷ []) ≡ (all_plain s && is_plain b)
unfolding all_plain
all_plain-push [] b = and-true (is_plain b)
all_plain-push (a ∷ s) b = ap (λ t. is_plain a && t) (all_plain-push s b) ∙ sym (and_assoc (is_plain a) (all_plain s) (is_plain b))

pub plain_push : (s : Str) (b : ℕ) (good plain both : Bool) → good ≡ all_plain s → plain ≡ is_plain b → both ≡ (good && plain) → both ≡ all_plain (s ++ b ∷ [])
plain_push s b good plain both e f g = rw (all_plain-push s b, ← e, ← f) g

-- a pool that has nothing odd is well-formed
fine-after : (k : ℕ) (s : Str) → odd_after k s ≡ length s → well_after k s ≡ true
unfolding odd_after well_after
fine-after k [] h = refl
fine-after (suc k) (b ∷ s) h = fine-after k s (omega arith)
fine-after zero (b ∷ s) h = go (letter_length (b ∷ s)) refl (λ k. fine-after k s) h
  where
    go : (n : ℕ) → letter_length (b ∷ s) ≡ n → ((k : ℕ) → odd_after k s ≡ length s → well_after k s ≡ true) → odd_after 0 (b ∷ s) ≡ suc (length s) → well_after 0 (b ∷ s) ≡ true
    go zero e r h = let z = sym (odd-none b s e) ∙ h in absurd (omega arith)
    go (suc k) e r h = let z = sym (odd_step b s k e) ∙ h in well-step b s k (letter-char b s k e) ∙ r k (omega arith)

pub fine-well : (s : Str) → odd_place s ≡ length s → well_formed s ≡ true
unfolding odd_place well_formed
fine-well s h = fine-after 0 s h

-- and has no control byte
tail-control : (b : ℕ) → is_tail b ≡ true → is_control b ≡ false
tail-control b h = let p = tail-is b h in control-high b (omega arith)

clean_after : (k : ℕ) (s : Str) → Tails k s → odd_after k s ≡ length s → no_control s ≡ true
unfolding odd_after no_control
clean_after k [] t h = refl
clean_after (suc k) (b ∷ s) t h = rw (tail-control b (t 0 (omega arith))) (clean_after k s (λ i l. t (suc i) (omega arith)) (omega arith))
clean_after zero (b ∷ s) t h = go (letter_length (b ∷ s)) refl (λ k. clean_after k s) h
  where
    go : (n : ℕ) → letter_length (b ∷ s) ≡ n → ((k : ℕ) → Tails k s → odd_after k s ≡ length s → no_control s ≡ true) → odd_after 0 (b ∷ s) ≡ suc (length s) → (not (is_control b) && no_control s) ≡ true
    go zero e r h = let z = sym (odd-none b s e) ∙ h in absurd (omega arith)
    go (suc k) e r h = let z = sym (odd_step b s k e) ∙ h in rw (letter-clean b s k e) (r k (tails-follow b s k (letter-char b s k e)) (omega arith))

pub fine-clean : (s : Str) → odd_place s ≡ length s → no_control s ≡ true
unfolding odd_place
fine-clean s h = clean_after 0 s (λ i l. absurd (omega arith)) h

-- and the other way round: a well-formed pool without control bytes has nothing odd
pass-after : (k : ℕ) (s : Str) → well_after k s ≡ true → no_control s ≡ true → odd_after k s ≡ length s
unfolding odd_after well_after no_control
pass-after k [] w c = refl
pass-after (suc k) (b ∷ s) w c = ap suc (pass-after k s w (both (not (is_control b)) (no_control s) c).1)
pass-after zero (b ∷ s) w c =
    let n = begins b s w in
    let q = both (not (is_control b)) (no_control s) c in
    odd_step b s n.0 (char-letter b s n.0 q.0 n.1) ∙ ap suc (pass-after n.0 s (sym (well-step b s n.0 n.1) ∙ w) q.1)

-- NUMBER 7: it is not given exactly for well-formed pools without control bytes
pub well-fine : (s : Str) → well_formed s ≡ true → no_control s ≡ true → odd_place s ≡ length s
unfolding odd_place well_formed
well-fine s w c = pass-after 0 s w c

-- NUMBERS 7 AND 4 TOGETHER: in a pool that has nothing odd, a text that neither begins nor ends at a tail is well-formed
pub accepted-text : (s : Str) (at n : ℕ) → odd_place s ≡ length s → no_tail s at ≡ true → no_tail s (at + n) ≡ true → well_formed (take n (drop at s)) ≡ true
accepted-text s at n h p q = text-whole s at n (fine-well s h) p q

-- the code's answers ----------------------------------------------------------------------------------------------------------

pub tail-test : (l : Str) (at b : ℕ) (t : Bool) → b ≡ get_or l at 0 → t ≡ is_tail b → not t ≡ no_tail l at
unfolding no_tail
tail-test l at b t e f = rw (f, e)

module _ (l : Str) where
  pub stepped-none : (i : ℕ) → i ≤ length l → Stepped l i i
  stepped-none i h = record { room = h; same = refl }

  pub stepped-more : (i j k : ℕ) → Stepped l i j → Stepped l j k → Stepped l i k
  stepped-more i j k p q = record { room = q.room; same = p.same ∙ q.same }

  pub pass_on : (from i end m : ℕ) → Stepped l from i → i < end → end ≤ length l → m ≡ letter_length (drop i l) → (m ≡ 0 → ⊥) → Stepped l from (i + m)
  pass_on from i end m s h n e d = stepped-more from i (i + m) s (letter-passed l i m (omega arith) e d)

  pub pass-room : (i end m : ℕ) → i < end → end ≤ length l → m ≡ letter_length (drop i l) → (m ≡ 0 → ⊥) → i + m ≤ length l
  pass-room i end m h n e d = (letter-passed l i m (omega arith) e d).room

  pub pass-stop : (from i end m : ℕ) → from ≤ i → Stepped l from i → m ≡ letter_length (drop i l) → m ≡ 0 → Passed l from end i
  pass-stop from i end m f s e d = record { far = f; there = s.room; same = s.same; odd = λ h. sym e ∙ d }

  pub pass-done : (from i end : ℕ) → from ≤ i → Stepped l from i → end ≤ i → Passed l from end i
  pass-done from i end f s h = record { far = f; there = s.room; same = s.same; odd = λ t. absurd (omega arith) }

  passed-stepped : (i end at : ℕ) → Passed l i end at → Stepped l i at
  passed-stepped i end at p = record { room = p.there; same = p.same }

  pub passed_on : (i end at : ℕ) → Stepped l 0 i → Passed l i end at → Stepped l 0 at
  passed_on i end at s p = stepped-more 0 i at s (passed-stepped i end at p)

  stepped-found : (at : ℕ) → Stepped l 0 at → odd_place (drop at l) ≡ 0 → at ≡ odd_place l
  stepped-found at s e = let z = s.same in let y : odd_place (drop 0 l) ≡ odd_place l = refl in omega arith

  pub passed-odd : (i end at : ℕ) → Stepped l 0 i → Passed l i end at → at < end → end ≤ length l → at ≡ odd_place l
  passed-odd i end at s p h n = stepped-found at (passed_on i end at s p) (letter-stops l at 0 (omega arith) (sym (p.odd h)) refl)

  pub passed-last : (i at : ℕ) → Stepped l 0 i → Passed l i (length l) at → at ≡ odd_place l
  passed-last i at s p = go (below_or at (length l))
    where
      go : (at < length l) ⊎ (length l ≤ at) → at ≡ odd_place l
      go (inl h) = passed-odd i (length l) at s p h (omega arith)
      go (inr h) = stepped-found at (passed_on i (length l) at s p) (letter-end l at h)

  pub plain-on : (i end : ℕ) (t : Bool) → Stepped l 0 i → i ≤ end → end ≤ length l → t ≡ all_plain (take (end - i) (drop i l)) → t ≡ true → Stepped l 0 end
  plain-on i end t s h n e f =
      let z : i + (end - i) ≡ end = omega arith in
      stepped-more 0 i end s (subst (Stepped l i) z (plain-passed l i (end - i) t (omega arith) e f))

-- texts that are joined, and plain ones
pub clean-join : (s t : Str) → no_control s ≡ true → no_control t ≡ true → no_control (s ++ t) ≡ true
unfolding no_control
clean-join [] t p q = q
clean-join (b ∷ s) t p q = let k = both (not (is_control b)) (no_control s) p in rw k.0 (clean-join s t k.1 q)

pub plain-no-tail : (s : Str) (at : ℕ) → all_plain s ≡ true → no_tail s at ≡ true
unfolding all_plain is_plain no_tail
plain-no-tail [] at h = rw (tail-below 0 (omega arith))
plain-no-tail (b ∷ s) zero h = let k = inside_is 0x20 0x7e b (both (inside 0x20 0x7e b) (all_plain s) h).0 in rw (tail-below b (omega arith))
plain-no-tail (b ∷ s) (suc at) h = plain-no-tail s at (both (inside 0x20 0x7e b) (all_plain s) h).1
