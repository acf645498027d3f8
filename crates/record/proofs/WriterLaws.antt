-- Laws on digits, on a store, and on bytes put one after the other. Assumes nothing.
use mathlib.Core.Path.{◌≡◌, refl, sym, ap, ap₂, subst, ◌∙◌}
use mathlib.Core.List.{List, [], ◌∷◌, ◌++◌, append_assoc}
use mathlib.Core.Bool.{Bool, true, false}
use mathlib.Core.Logic.{◌⊎◌, inl, inr, ⊎_elim}
use Prim.Native.Nat.{ℕ, zero, suc, ◌+◌, ◌-◌, ◌*◌, ◌/◌, ◌%◌, ◌^◌, ◌≤◌, ◌<◌}
use native.Mathlib.Nat.{pow-suc, div-lt_iff_lt-mul, zero-add, add-zero}
use native.Mathlib.Numerals.{add-one, sub-one}
use native.Mathlib.Omega.{arith}
use lib.Dec.{leb}
use borrow.Author.Tests.{le-ltb, lt-ltb, le-leb, lt-leb, leb-true, leb-false}
use lib.ListN.{length, get_or, take, drop, set, length-append, length-drop, length-take}
use lib.Seq.{set_split, drop_at, take_at, length-take-le, paste, paste-zero, paste-suc, take-length, drop-append-add, drop-drop}
use Rattle.record.specs.Base.{Str, digits, decimal, signed}
use Rattle.record.specs.Fill.{placed, fronted}
use Rattle.record.specs.Write.{largest, saturated, Puts}
use Rattle.record.specs.Stretch.{text_of}
use Rattle.record.specs.declared.text.Text.{Text}

-- an element is stored where a rest begins
pub drop-set : (l : List ℕ) (i v : ℕ) → i < length l → drop i (set l i v) ≡ v ∷ drop (suc i) l
drop-set l i v h = ap (drop i) (set_split l i v h) ∙ drop_at (take i l) (v ∷ drop (suc i) l) i (length-take-le i l (omega arith))

-- one digit more is stored in front of those that stand
pub digit-more : (i r : ℕ) (bs l : List ℕ) → 3 ≤ i → i ≤ length bs → 10 ≤ r → digits (i - 1) r ++ drop i bs ≡ l
    → digits (i - 1 - 1) (r / 10) ++ drop (i - 1) (set bs (i - 1) (48 + r % 10)) ≡ l
digit-more zero r bs l a b h e = absurd (omega arith)
digit-more (suc zero) r bs l a b h e = absurd (omega arith)
digit-more (suc (suc k)) r bs l a b h e =
    let q : suc k < length bs = omega arith in
    let e' : (digits k (r / 10) ++ ((48 + r % 10) ∷ [])) ++ drop (suc (suc k)) bs ≡ l = simp (sub-one, le-ltb r 10 h) at e in
    simp (sub-one, drop-set bs (suc k) (48 + r % 10) q) (rw append_assoc at e')

-- the first digit
pub digit-last : (i r : ℕ) (bs l : List ℕ) → 2 ≤ i → i ≤ length bs → r < 10 → digits (i - 1) r ++ drop i bs ≡ l
    → drop (i - 1) (set bs (i - 1) (48 + r)) ≡ l
digit-last zero r bs l a b h e = absurd (omega arith)
digit-last (suc zero) r bs l a b h e = absurd (omega arith)
digit-last (suc (suc k)) r bs l a b h e =
    let q : suc k < length bs = omega arith in
    let e' : ((48 + r) ∷ []) ++ drop (suc (suc k)) bs ≡ l = simp (sub-one, lt-ltb r 10 h) at e in
    simp (sub-one, drop-set bs (suc k) (48 + r) q) e'

-- a number that needs two digits has room for two
pub places : (k r : ℕ) → 10 ≤ r → r < 10 ^ k → 2 ≤ k
places zero r h b = absurd (omega arith)
places (suc zero) r h b = absurd (omega arith)
places (suc (suc k)) r h b = omega arith

pub places-less : (k r : ℕ) → 10 ≤ r → r < 10 ^ k → r / 10 < 10 ^ (k - 1)
places-less zero r h b = absurd (omega arith)
places-less (suc k) r h b = simp sub-one ((div-lt_iff_lt-mul {k = 10} {x = r} {y = 10 ^ k} (omega arith)).1 (rw pow-suc at b))

-- how many digits a number has, by the power of ten that it reaches
pub length-digits : (k m n : ℕ) → k < m → 10 ^ k ≤ n → n < 10 * 10 ^ k → length (digits m n) ≡ k + 1
length-digits k zero n h p q = absurd (omega arith)
length-digits zero (suc m) n h p q = rw (lt-ltb n 10 (omega arith)) refl
length-digits (suc k) (suc m) n h p q =
    let e : 10 ^ suc k ≡ 10 ^ k * 10 = pow-suc 10 k in
    let r = length-digits k m (n / 10) (omega arith) (omega arith) (omega arith) in
    rw (le-ltb n 10 (omega arith)) (length-append (digits m (n / 10)) ((48 + n % 10) ∷ []) ∙ (let z : length (digits m (n / 10)) + 1 ≡ suc k + 1 = omega arith in z))

-- short numbers
module _ (n a : ℕ) (e : a ≡ 48 + n % 10) where
  pub one-digit : n < 10 → a ∷ [] ≡ decimal n
  unfolding decimal
  one-digit h = let m : a ≡ 48 + n = omega arith in rw (lt-ltb n 10 h, m)

  module _ (b : ℕ) (f : b ≡ 48 + n / 10 % 10) where
    pub two_digits : 10 ≤ n → n < 100 → b ∷ a ∷ [] ≡ decimal n
    unfolding decimal
    two_digits l h = let m : b ≡ 48 + n / 10 = omega arith in rw (le-ltb n 10 l, lt-ltb (n / 10) 10 (omega arith), m, e)

    pub three-digits : (c : ℕ) → c ≡ 48 + n / 100 % 10 → 100 ≤ n → n < 1000 → c ∷ b ∷ a ∷ [] ≡ decimal n
    unfolding decimal
    three-digits c g l h =
        let m : c ≡ 48 + n / 10 / 10 = omega arith in
        rw (le-ltb n 10 (omega arith), le-ltb (n / 10) 10 (omega arith), lt-ltb (n / 10 / 10) 10 (omega arith), m, f, e)

-- one element of a copy
pub stored : (d s e : List ℕ) (at o j : ℕ) → o ≡ at + j → e ≡ paste d at s j → o < length d → j < length s → set e o (get_or s j 0) ≡ paste d at s (j + 1)
stored d s e at o j ho he hd hs = rw (he, ho, add-one) (paste-suc d at s j 0 (omega arith) hs)

-- the whole of it
pub copied : (d s e : List ℕ) (at j : ℕ) → j ≡ length s → e ≡ paste d at s j → e ≡ placed d at s
unfolding placed
copied d s e at j hj he = he ∙ rw (hj, take-length)

-- a sign is stored in front of the digits
pub sign : (v s : ℕ) (bs : List ℕ) → 2 ^ 63 ≤ v → v < 2 ^ 64 → 1 ≤ s → s ≤ length bs → drop s bs ≡ decimal (18446744073709551615 - v + 1) → drop (s - 1) (set bs (s - 1) 45) ≡ signed v
unfolding signed
sign v zero bs big small a b e = absurd (omega arith)
sign v (suc k) bs big small a b e =
    let q : k < length bs = omega arith in
    let m : 18446744073709551615 - v + 1 ≡ 2 ^ 64 - v = omega arith in
    let e' : drop (suc k) bs ≡ decimal (2 ^ 64 - v) = e ∙ ap decimal m in
    simp (sub-one, le-ltb v (2 ^ 63) big, drop-set bs k 45 q) (ap (λ l. 45 ∷ l) e')

pub no_sign : (v : ℕ) → v < 2 ^ 63 → decimal v ≡ signed v
unfolding signed
no_sign v h = simp (lt-ltb v (2 ^ 63) h)

-- places as far as the largest number ------------------------------------------------------------------------------------

pub sat-low : (n : ℕ) → n ≤ largest → n ≡ saturated n
unfolding saturated
sat-low n h = rw (le-leb n largest h)

pub sat-high : (n : ℕ) → largest < n → largest ≡ saturated n
unfolding saturated
sat-high n h = rw (lt-leb n largest h)

sat-cases : (n : ℕ) → ((n ≤ largest) × (saturated n ≡ n)) ⊎ ((largest < n) × (saturated n ≡ largest))
sat-cases n = go (leb n largest) refl
  where
    go : (b : Bool) → leb n largest ≡ b → ((n ≤ largest) × (saturated n ≡ n)) ⊎ ((largest < n) × (saturated n ≡ largest))
    go true e = inl (leb-true n largest e, sym (sat-low n (leb-true n largest e)))
    go false e = inr (leb-false n largest e, sym (sat-high n (leb-false n largest e)))

sat-below : (n : ℕ) → saturated n ≤ n
sat-below n = ⊎_elim (λ w. omega arith) (λ w. omega arith) (sat-cases n)

-- a place is exact where it is below the largest
sat-exact : (n : ℕ) → saturated n < largest → saturated n ≡ n
sat-exact n h = ⊎_elim (λ w. w.1) (λ w. absurd (omega arith)) (sat-cases n)

sat-past : (n : ℕ) → largest ≤ n → saturated n ≡ largest
sat-past n h = ⊎_elim (λ w. omega arith) (λ w. w.1) (sat-cases n)

-- it does not matter where one stops to count
sat-plus : (a b : ℕ) → saturated (saturated a + b) ≡ saturated (a + b)
sat-plus a b =
    ⊎_elim (λ w. ap (λ (n : ℕ). saturated (n + b)) w.1)
    (λ w. ap (λ (n : ℕ). saturated (n + b)) w.1 ∙ sat-past (largest + b) (omega arith) ∙ sym (sat-past (a + b) (omega arith)))
    (sat-cases a)

-- bytes in their place ---------------------------------------------------------------------------------------------------

length-placed : (out xs : Str) (at : ℕ) → at + length xs ≤ length out → length (placed out at xs) ≡ length out
unfolding placed
length-placed out xs at h = simp (length-append, length-take, length-drop) (omega arith)

placed-none : (out : Str) (at : ℕ) → out ≡ placed out at []
unfolding placed
placed-none out at = paste-zero out at []

placed-then : (out xs ys : Str) (at : ℕ) → at ≤ length out → placed (placed out at xs) (at + length xs) ys ≡ placed out at (xs ++ ys)
unfolding placed
placed-then out xs ys at h =
    let w = take at out ++ xs in
    let d = drop (at + length xs) out in
    let l : length w ≡ at + length xs = length-append (take at out) xs ∙ ap (λ (n : ℕ). n + length xs) (length-take-le at out h) in
    let a : take (at + length xs) (w ++ d) ≡ w = take_at w d (at + length xs) l in
    let b : drop (at + length xs + length ys) (w ++ d) ≡ drop (at + length xs + length ys) out =
    ap (λ (n : ℕ). drop (n + length ys) (w ++ d)) (sym l) ∙ drop-append-add w d (length ys) ∙ drop-drop (length ys) (at + length xs) out in
    let e : at + length xs + length ys ≡ at + length (xs ++ ys) = rw length-append (omega arith) in
    rw (a, b, e, append_assoc (take at out) xs ys)

-- at its front
pub front-none : (out : Str) → out ≡ fronted out []
unfolding fronted
front-none out = refl

placed-front : (out xs : Str) → placed out 0 xs ≡ fronted out xs
unfolding placed fronted
placed-front out xs = rw zero-add

-- puts -------------------------------------------------------------------------------------------------------------------

module _ (out xs : Str) (at end : ℕ) (e : end ≡ saturated (at + length xs)) where
  -- what does not fit is not put
  pub puts-over : length out ≤ largest → length out < end → Puts out at xs out end
  puts-over l h = record {
    end = e;
    long = refl;
    fits = l;
    bytes = λ w. absurd (let b = sat-below (at + length xs) in omega arith);
  }

  -- what ends within the buffer fits
  pub put-room : length out < largest → end ≤ length out → at + length xs ≤ length out
  put-room l h = let x = sat-exact (at + length xs) (omega arith) in omega arith

  pub puts-in : (after : Str) → length out < largest → end ≤ length out → after ≡ placed out at xs → Puts out at xs after end
  puts-in after l h w = record {
    end = e;
    long = ap length w ∙ length-placed out xs at (put-room l h);
    fits = omega arith;
    bytes = λ _. w;
  }

pub puts_none : (out : Str) (at : ℕ) → at ≤ largest → length out ≤ largest → Puts out at [] out at
puts_none out at h l = record {
  end = rw add-zero (sat-low at h);
  long = refl;
  fits = l;
  bytes = λ _. placed-none out at;
}

-- where the buffer is at its end the place after the bytes is all there is
pub puts-past : (out xs : Str) (at r : ℕ) → length out ≤ largest → length out ≤ at → r ≡ saturated (at + length xs) → Puts out at xs out r
puts-past out [] at r l h e = record { end = e; long = refl; fits = l; bytes = λ _. placed-none out at }
puts-past out (x ∷ xs) at r l h e = record { end = e; long = refl; fits = l; bytes = λ w. absurd (omega arith) }

-- one put after another
pub puts_then : {out xs ys mid after : Str} {at q r : ℕ} → Puts out at xs mid q → Puts mid q ys after r → Puts out at (xs ++ ys) after r
puts_then {out} {xs} {ys} {mid} {after} {at} {q} {r} a b =
    let l : at + length xs + length ys ≡ at + length (xs ++ ys) = rw length-append (omega arith) in
    record {
      end = b.end ∙ ap (λ (n : ℕ). saturated (n + length ys)) a.end ∙ sat-plus (at + length xs) (length ys) ∙ ap saturated l;
      long = b.long ∙ a.long;
      fits = a.fits;
      bytes = λ h.
          let f = a.fits in
          let e : q ≡ at + length xs = a.end ∙ sym (sat-low (at + length xs) (omega arith)) in
          let m : mid ≡ placed out at xs = a.bytes (omega arith) in
          let k = a.long in
          let w : after ≡ placed mid q ys = b.bytes (omega arith) in
          w ∙ ap₂ (λ (x : Str) (n : ℕ). placed x n ys) m e ∙ placed-then out xs ys at (omega arith);
    }

-- the bytes may be given by an equation
pub puts-as : {out xs ys after : Str} {at r : ℕ} → Puts out at xs after r → xs ≡ ys → Puts out at ys after r
puts-as {out} {xs} {ys} {after} {at} {r} p e = subst (λ (l : Str). Puts out at l after r) e p

-- how far it goes: no further than the bytes reach, and just as far where no place passes the largest
pub puts-near : {out xs after : Str} {at r : ℕ} → Puts out at xs after r → r ≤ at + length xs
puts-near {out} {xs} {after} {at} p = let e = p.end in let b = sat-below (at + length xs) in omega arith

pub puts-exact : {out xs after : Str} {at r : ℕ} → Puts out at xs after r → r < largest → r ≡ at + length xs
puts-exact {out} {xs} {after} {at} p h = let e = p.end in p.end ∙ sat-exact (at + length xs) (omega arith)

-- the answer is a number of the machine
pub puts-small : {out xs after : Str} {at r : ℕ} → Puts out at xs after r → r ≤ largest
puts-small {out} {xs} {after} {at} p = let e = p.end in ⊎_elim (λ w. omega arith) (λ w. omega arith) (sat-cases (at + length xs))

-- the bytes at the front of a buffer that holds them
pub puts-front : {out xs after : Str} {r : ℕ} → Puts out 0 xs after r → length xs ≤ length out → after ≡ fronted out xs
puts-front {out} {xs} p h = p.bytes (omega arith) ∙ placed-front out xs

-- what is put is short
pub text-short : (xs pool : Str) (t : Text) → xs ≡ text_of pool t → length xs ≤ t.len
unfolding text_of
text-short xs pool t e = rw e (simp length-take (omega arith))

pub rest-short : (s : ℕ) (xs bs : Str) → xs ≡ drop s bs → length xs ≤ length bs
rest-short s xs bs e = rw e (simp length-drop (omega arith))
