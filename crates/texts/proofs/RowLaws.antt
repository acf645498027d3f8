-- The rows of RFC 3629's grammar as facts on numbers. Assumes nothing.
use Prim.Native.Nat.{ℕ, suc, ◌+◌, ◌*◌, ◌≤◌, ◌<◌}
use mathlib.Core.Bool.{Bool, true, false, ◌&&◌, ◌||◌, cond, and-false}
use mathlib.Core.Logic.{◌⊎◌, inl, inr}
use mathlib.Core.Path.{◌≡◌, refl, ◌∙◌}
use native.Mathlib.Omega.{arith}
use lib.Dec.{leb}
use borrow.Author.Tests.{leb-true, le-leb, lt-leb}
use Rattle.texts.proofs.TextLaws.{below_or, both}
use Rattle.texts.specs.Utf8.{inside, is_tail, utf81, utf82, utf83, utf84, char_of}

pub either : (a b : Bool) → (a || b) ≡ true → (a ≡ true) ⊎ (b ≡ true)
either true b h = inl refl
either false b h = inr h

module _ (low high b : ℕ) where
  pub inside-yes : low ≤ b → b ≤ high → inside low high b ≡ true
  unfolding inside
  inside-yes p q = rw (le-leb low b p, le-leb b high q)

  pub inside-below : b < low → inside low high b ≡ false
  unfolding inside
  inside-below p = rw (lt-leb low b p)

  pub inside-above : high < b → inside low high b ≡ false
  unfolding inside
  inside-above p = rw (lt-leb b high p) (and-false (leb low b))

  pub inside_is : inside low high b ≡ true → (low ≤ b) × (b ≤ high)
  unfolding inside
  inside_is h = let k = both (leb low b) (leb b high) h in (leb-true low b k.0, leb-true b high k.1)

pub tail-yes : (b : ℕ) → 0x80 ≤ b → b ≤ 0xbf → is_tail b ≡ true
unfolding is_tail
tail-yes b p q = inside-yes 0x80 0xbf b p q

pub tail-is : (b : ℕ) → is_tail b ≡ true → (0x80 ≤ b) × (b ≤ 0xbf)
unfolding is_tail
tail-is b h = inside_is 0x80 0xbf b h

pub tail-below : (b : ℕ) → b < 0x80 → is_tail b ≡ false
unfolding is_tail
tail-below b h = inside-below 0x80 0xbf b h

pub tail-above : (b : ℕ) → 0xbf < b → is_tail b ≡ false
unfolding is_tail
tail-above b h = inside-above 0x80 0xbf b h

-- a sequence of one byte and k tails, by its bytes
pub data Row (k a b c d : ℕ) : Type 0 where
  one : k ≡ 0 → a ≤ 0x7f → Row k a b c d
  two : k ≡ 1 → 0xc2 ≤ a → a ≤ 0xdf → 0x80 ≤ b → b ≤ 0xbf → Row k a b c d
  low : k ≡ 2 → 0xe0 ≤ a → a ≤ 0xed → 0x80 ≤ b → b ≤ 0xbf → 0x80 ≤ c → c ≤ 0xbf → 64 * 0xe0 + 0xa0 ≤ 64 * a + b → 64 * a + b ≤ 64 * 0xed + 0x9f → Row k a b c d
  high : k ≡ 2 → 0xee ≤ a → a ≤ 0xef → 0x80 ≤ b → b ≤ 0xbf → 0x80 ≤ c → c ≤ 0xbf → Row k a b c d
  four : k ≡ 3 → 0xf0 ≤ a → a ≤ 0xf4 → 0x80 ≤ b → b ≤ 0xbf → 0x80 ≤ c → c ≤ 0xbf → 0x80 ≤ d → d ≤ 0xbf → 64 * 0xf0 + 0x90 ≤ 64 * a + b → 64 * a + b ≤ 64 * 0xf4 + 0x8f → Row k a b c d

module _ (a b c d k : ℕ) where
  three-in : (l h f t : ℕ) → ((inside l h a && inside f t b) && is_tail c) ≡ true → (l ≤ a) × (a ≤ h) × (f ≤ b) × (b ≤ t) × (0x80 ≤ c) × (c ≤ 0xbf)
  three-in l h f t e =
      let p = both (inside l h a && inside f t b) (is_tail c) e in
      let q = both (inside l h a) (inside f t b) p.0 in
      let x = inside_is l h a q.0 in
      let y = inside_is f t b q.1 in
      let z = tail-is c p.1 in
      (x.0, x.1, y.0, y.1, z.0, z.1)

  three-row : k ≡ 2 → utf83 a b c ≡ true → Row k a b c d
  unfolding utf83 is_tail
  three-row n e = go1 (either _ _ e)
    where
      r1 : Bool
      r1 = (inside 0xe0 0xe0 a && inside 0xa0 0xbf b) && is_tail c

      r2 : Bool
      r2 = (inside 0xe1 0xec a && is_tail b) && is_tail c

      r3 : Bool
      r3 = (inside 0xed 0xed a && inside 0x80 0x9f b) && is_tail c

      r4 : Bool
      r4 = (inside 0xee 0xef a && is_tail b) && is_tail c

      go3 : (r3 ≡ true) ⊎ (r4 ≡ true) → Row k a b c d
      go3 (inl h) = let m = three-in 0xed 0xed 0x80 0x9f h in low n (omega arith) (omega arith) (omega arith) (omega arith) (omega arith) (omega arith) (omega arith) (omega arith)
      go3 (inr h) = let m = three-in 0xee 0xef 0x80 0xbf h in high n (omega arith) (omega arith) (omega arith) (omega arith) (omega arith) (omega arith)

      go2 : (r2 ≡ true) ⊎ ((r3 || r4) ≡ true) → Row k a b c d
      go2 (inl h) = let m = three-in 0xe1 0xec 0x80 0xbf h in low n (omega arith) (omega arith) (omega arith) (omega arith) (omega arith) (omega arith) (omega arith) (omega arith)
      go2 (inr h) = go3 (either _ _ h)

      go1 : (r1 ≡ true) ⊎ ((r2 || (r3 || r4)) ≡ true) → Row k a b c d
      go1 (inl h) = let m = three-in 0xe0 0xe0 0xa0 0xbf h in low n (omega arith) (omega arith) (omega arith) (omega arith) (omega arith) (omega arith) (omega arith) (omega arith)
      go1 (inr h) = go2 (either _ _ h)

  four-row : k ≡ 3 → utf84 a b c d ≡ true → Row k a b c d
  unfolding utf84 is_tail
  four-row n e = go1 (either _ _ e)
    where
      r1 : Bool
      r1 = ((inside 0xf0 0xf0 a && inside 0x90 0xbf b) && is_tail c) && is_tail d

      r2 : Bool
      r2 = ((inside 0xf1 0xf3 a && is_tail b) && is_tail c) && is_tail d

      r3 : Bool
      r3 = ((inside 0xf4 0xf4 a && inside 0x80 0x8f b) && is_tail c) && is_tail d

      make : (l h f t : ℕ) → (((inside l h a && inside f t b) && is_tail c) && is_tail d) ≡ true → 0xf0 ≤ l → h ≤ 0xf4 → 0x80 ≤ f → t ≤ 0xbf → 64 * 0xf0 + 0x90 ≤ 64 * l + f → 64 * h + t ≤ 64 * 0xf4 + 0x8f → Row k a b c d
      make l h f t e u v w x y z =
          let p = both ((inside l h a && inside f t b) && is_tail c) (is_tail d) e in
          let m = three-in l h f t p.0 in
          let q = tail-is d p.1 in
          four n (omega arith) (omega arith) (omega arith) (omega arith) (omega arith) (omega arith) (omega arith) (omega arith) (omega arith) (omega arith)

      go2 : (r2 ≡ true) ⊎ (r3 ≡ true) → Row k a b c d
      go2 (inl h) = make 0xf1 0xf3 0x80 0xbf h (omega arith) (omega arith) (omega arith) (omega arith) (omega arith) (omega arith)
      go2 (inr h) = make 0xf4 0xf4 0x80 0x8f h (omega arith) (omega arith) (omega arith) (omega arith) (omega arith) (omega arith)

      go1 : (r1 ≡ true) ⊎ ((r2 || r3) ≡ true) → Row k a b c d
      go1 (inl h) = make 0xf0 0xf0 0x90 0xbf h (omega arith) (omega arith) (omega arith) (omega arith) (omega arith) (omega arith)
      go1 (inr h) = go2 (either _ _ h)

  one-row : k ≡ 0 → utf81 a ≡ true → Row k a b c d
  unfolding utf81
  one-row n f = one n (inside_is 0x00 0x7f a f).1

  two-row : k ≡ 1 → utf82 a b ≡ true → Row k a b c d
  unfolding utf82
  two-row n f =
      let p = both (inside 0xc2 0xdf a) (is_tail b) f in
      let q = inside_is 0xc2 0xdf a p.0 in
      let r = tail-is b p.1 in
      two n q.0 q.1 r.0 r.1

  pub row_of : char_of a b c d ≡ suc k → Row k a b c d
  unfolding char_of
  row_of e = go1 (utf81 a) refl e
    where
      go4 : (t : Bool) → utf84 a b c d ≡ t → cond t 4 0 ≡ suc k → Row k a b c d
      go4 true f e = four-row (omega arith) f
      go4 false f e = absurd (omega arith)

      go3 : (t : Bool) → utf83 a b c ≡ t → cond t 3 (cond (utf84 a b c d) 4 0) ≡ suc k → Row k a b c d
      go3 true f e = three-row (omega arith) f
      go3 false f e = go4 (utf84 a b c d) refl e

      go2 : (t : Bool) → utf82 a b ≡ t → cond t 2 (cond (utf83 a b c) 3 (cond (utf84 a b c d) 4 0)) ≡ suc k → Row k a b c d
      go2 true f e = two-row (omega arith) f
      go2 false f e = go3 (utf83 a b c) refl e

      go1 : (t : Bool) → utf81 a ≡ t → cond t 1 (cond (utf82 a b) 2 (cond (utf83 a b c) 3 (cond (utf84 a b c d) 4 0))) ≡ suc k → Row k a b c d
      go1 true f e = one-row (omega arith) f
      go1 false f e = go2 (utf82 a b) refl e

module _ (a b c : ℕ) where
  utf83-e0 : a ≡ 0xe0 → 0xa0 ≤ b → b ≤ 0xbf → 0x80 ≤ c → c ≤ 0xbf → utf83 a b c ≡ true
  unfolding utf83
  utf83-e0 p q r t u = rw (inside-yes 0xe0 0xe0 a (omega arith) (omega arith), inside-yes 0xa0 0xbf b q r, tail-yes c t u)

  utf83-e1 : 0xe1 ≤ a → a ≤ 0xec → 0x80 ≤ b → b ≤ 0xbf → 0x80 ≤ c → c ≤ 0xbf → utf83 a b c ≡ true
  unfolding utf83
  utf83-e1 o p q r t u = rw (inside-above 0xe0 0xe0 a (omega arith), inside-yes 0xe1 0xec a o p, tail-yes b q r, tail-yes c t u)

  utf83-ed : a ≡ 0xed → 0x80 ≤ b → b ≤ 0x9f → 0x80 ≤ c → c ≤ 0xbf → utf83 a b c ≡ true
  unfolding utf83
  utf83-ed p q r t u =
      rw (inside-above 0xe0 0xe0 a (omega arith), inside-above 0xe1 0xec a (omega arith), inside-yes 0xed 0xed a (omega arith) (omega arith), inside-yes 0x80 0x9f b q r, tail-yes c t u)

  utf83-ee : 0xee ≤ a → a ≤ 0xef → 0x80 ≤ b → b ≤ 0xbf → 0x80 ≤ c → c ≤ 0xbf → utf83 a b c ≡ true
  unfolding utf83
  utf83-ee o p q r t u =
      rw (inside-above 0xe0 0xe0 a (omega arith), inside-above 0xe1 0xec a (omega arith), inside-above 0xed 0xed a (omega arith), inside-yes 0xee 0xef a o p, tail-yes b q r, tail-yes c t u)

  utf83-no : 0xef < a → utf83 a b c ≡ false
  unfolding utf83
  utf83-no h = rw (inside-above 0xe0 0xe0 a (omega arith), inside-above 0xe1 0xec a (omega arith), inside-above 0xed 0xed a (omega arith), inside-above 0xee 0xef a (omega arith))

  utf82-no : 0xdf < a → utf82 a b ≡ false
  unfolding utf82
  utf82-no h = rw (inside-above 0xc2 0xdf a h)

  pub utf81-no : 0x7f < a → utf81 a ≡ false
  unfolding utf81
  utf81-no h = inside-above 0x00 0x7f a h

module _ (a b c d : ℕ) where
  utf84-f0 : a ≡ 0xf0 → 0x90 ≤ b → b ≤ 0xbf → 0x80 ≤ c → c ≤ 0xbf → 0x80 ≤ d → d ≤ 0xbf → utf84 a b c d ≡ true
  unfolding utf84
  utf84-f0 p q r t u v w = rw (inside-yes 0xf0 0xf0 a (omega arith) (omega arith), inside-yes 0x90 0xbf b q r, tail-yes c t u, tail-yes d v w)

  utf84-f1 : 0xf1 ≤ a → a ≤ 0xf3 → 0x80 ≤ b → b ≤ 0xbf → 0x80 ≤ c → c ≤ 0xbf → 0x80 ≤ d → d ≤ 0xbf → utf84 a b c d ≡ true
  unfolding utf84
  utf84-f1 o p q r t u v w = rw (inside-above 0xf0 0xf0 a (omega arith), inside-yes 0xf1 0xf3 a o p, tail-yes b q r, tail-yes c t u, tail-yes d v w)

  utf84-f4 : a ≡ 0xf4 → 0x80 ≤ b → b ≤ 0x8f → 0x80 ≤ c → c ≤ 0xbf → 0x80 ≤ d → d ≤ 0xbf → utf84 a b c d ≡ true
  unfolding utf84
  utf84-f4 p q r t u v w =
      rw (inside-above 0xf0 0xf0 a (omega arith), inside-above 0xf1 0xf3 a (omega arith), inside-yes 0xf4 0xf4 a (omega arith) (omega arith), inside-yes 0x80 0x8f b q r, tail-yes c t u, tail-yes d v w)

  pub char-1 : a ≤ 0x7f → char_of a b c d ≡ 1
  unfolding char_of utf81
  char-1 h = rw (inside-yes 0x00 0x7f a (omega arith) h)

  char-2 : 0xc2 ≤ a → a ≤ 0xdf → 0x80 ≤ b → b ≤ 0xbf → char_of a b c d ≡ 2
  unfolding char_of utf82
  char-2 o p q r = rw (utf81-no a b c (omega arith), inside-yes 0xc2 0xdf a o p, tail-yes b q r)

  char-3 : 0xdf < a → utf83 a b c ≡ true → char_of a b c d ≡ 3
  unfolding char_of
  char-3 h e = rw (utf81-no a b c (omega arith), utf82-no a b c h, e)

  char-4 : 0xef < a → utf84 a b c d ≡ true → char_of a b c d ≡ 4
  unfolding char_of
  char-4 h e = rw (utf81-no a b c (omega arith), utf82-no a b c (omega arith), utf83-no a b c h, e)

  pub row-length : (k : ℕ) → Row k a b c d → char_of a b c d ≡ suc k
  row-length k (one n h) = char-1 h ∙ (let z : 1 ≡ suc k = omega arith in z)
  row-length k (two n o p q r) = char-2 o p q r ∙ (let z : 2 ≡ suc k = omega arith in z)
  row-length k (low n o p q r t u v w) = char-3 (omega arith) (go (below_or a 0xe1) (below_or a 0xed)) ∙ (let z : 3 ≡ suc k = omega arith in z)
    where
      go : (a < 0xe1) ⊎ (0xe1 ≤ a) → (a < 0xed) ⊎ (0xed ≤ a) → utf83 a b c ≡ true
      go (inl x) y = utf83-e0 a b c (omega arith) (omega arith) r t u
      go (inr x) (inl y) = utf83-e1 a b c x (omega arith) q r t u
      go (inr x) (inr y) = utf83-ed a b c (omega arith) q (omega arith) t u
  row-length k (high n o p q r t u) = char-3 (omega arith) (utf83-ee a b c o p q r t u) ∙ (let z : 3 ≡ suc k = omega arith in z)
  row-length k (four n o p q r t u v w x y) = char-4 (omega arith) (go (below_or a 0xf1) (below_or a 0xf4)) ∙ (let z : 4 ≡ suc k = omega arith in z)
    where
      go : (a < 0xf1) ⊎ (0xf1 ≤ a) → (a < 0xf4) ⊎ (0xf4 ≤ a) → utf84 a b c d ≡ true
      go (inl i) j = utf84-f0 (omega arith) (omega arith) r t u v w
      go (inr i) (inl j) = utf84-f1 i (omega arith) q r t u v w
      go (inr i) (inr j) = utf84-f4 (omega arith) q (omega arith) t u v w

-- what a row says of each of its bytes
module _ (k a b c d : ℕ) where
  pub row-lead : Row k a b c d → is_tail a ≡ false
  row-lead (one n h) = tail-below a (omega arith)
  row-lead (two n o p q r) = tail-above a (omega arith)
  row-lead (low n o p q r t u v w) = tail-above a (omega arith)
  row-lead (high n o p q r t u) = tail-above a (omega arith)
  row-lead (four n o p q r t u v w x y) = tail-above a (omega arith)

  pub row-second : Row k a b c d → 0 < k → is_tail b ≡ true
  row-second (one n h) l = absurd (omega arith)
  row-second (two n o p q r) l = tail-yes b q r
  row-second (low n o p q r t u v w) l = tail-yes b q r
  row-second (high n o p q r t u) l = tail-yes b q r
  row-second (four n o p q r t u v w x y) l = tail-yes b q r

  pub row-third : Row k a b c d → 1 < k → is_tail c ≡ true
  row-third (one n h) l = absurd (omega arith)
  row-third (two n o p q r) l = absurd (omega arith)
  row-third (low n o p q r t u v w) l = tail-yes c t u
  row-third (high n o p q r t u) l = tail-yes c t u
  row-third (four n o p q r t u v w x y) l = tail-yes c t u

  pub row-fourth : Row k a b c d → 2 < k → is_tail d ≡ true
  row-fourth (one n h) l = absurd (omega arith)
  row-fourth (two n o p q r) l = absurd (omega arith)
  row-fourth (low n o p q r t u v w) l = absurd (omega arith)
  row-fourth (high n o p q r t u) l = absurd (omega arith)
  row-fourth (four n o p q r t u v w x y) l = tail-yes d v w

  pub row-most : Row k a b c d → k ≤ 3
  row-most (one n h) = omega arith
  row-most (two n o p q r) = omega arith
  row-most (low n o p q r t u v w) = omega arith
  row-most (high n o p q r t u) = omega arith
  row-most (four n o p q r t u v w x y) = omega arith

  -- only the bytes of the sequence count
  pub row-swap : (e f g : ℕ) → (0 < k → e ≡ b) → (1 < k → f ≡ c) → (2 < k → g ≡ d) → Row k a b c d → Row k a e f g
  row-swap e f g i j l (one n h) = one n h
  row-swap e f g i j l (two n o p q r) = let x = i (omega arith) in two n o p (omega arith) (omega arith)
  row-swap e f g i j l (low n o p q r t u v w) =
      let x = i (omega arith) in
      let y = j (omega arith) in
      low n o p (omega arith) (omega arith) (omega arith) (omega arith) (omega arith) (omega arith)
  row-swap e f g i j l (high n o p q r t u) =
      let x = i (omega arith) in
      let y = j (omega arith) in
      high n o p (omega arith) (omega arith) (omega arith) (omega arith)
  row-swap e f g i j l (four n o p q r t u v w x y) =
      let x' = i (omega arith) in
      let y' = j (omega arith) in
      let z' = l (omega arith) in
      four n o p (omega arith) (omega arith) (omega arith) (omega arith) (omega arith) (omega arith) (omega arith) (omega arith)
