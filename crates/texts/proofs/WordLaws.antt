-- Numbers of several bytes: how they are read, and what equal ones say of the bytes. Assumes nothing.
use Prim.Native.Nat.{ℕ, zero, suc, ◌+◌, ◌*◌, ◌-◌, ◌≤◌, ◌<◌}
use mathlib.Core.Logic.{◌⊎◌, inl, inr}
use mathlib.Core.Path.{◌≡◌, ap, subst}
use native.Mathlib.Omega.{arith}
use lib.ListN.{get_or}
use mir.Val.{Fits}
use mir.Syntax.{w8}
use Rattle.texts.specs.Texts.{Str}
use Rattle.texts.specs.Le.{u16_at, u32_at, u64_at}
use Rattle.texts.proofs.TextLaws.{below_or}

-- every element is a byte
abbrev pub Bytes : Str → Type 0
Bytes l = (k : ℕ) → Fits w8 (get_or l k 0)

-- u32_at goes by two numbers of two bytes
fourth : (s : Str) (i : ℕ) → get_or s (i + 2 + 1) 0 ≡ get_or s (i + 3) 0
fourth s i = ap (λ (n : ℕ). get_or s n 0) (let z : i + 2 + 1 ≡ i + 3 = omega arith in z)

pub half_is : (s : Str) (i a b c d : ℕ) → a ≡ get_or s i 0 → b ≡ get_or s (i + 1) 0 → c ≡ get_or s (i + 2) 0 → d ≡ get_or s (i + 3) 0
    → a + 256 * b + 65536 * c + 16777216 * d ≡ u32_at s i
unfolding u32_at u16_at
half_is s i a b c d p q r t = omega (arith, p, q, r, t, fourth s i)

pub word-is : (s : Str) (i a b : ℕ) → a ≡ u32_at s i → b ≡ u32_at s (i + 4) → a + 4294967296 * b ≡ u64_at s i
unfolding u64_at
word-is s i a b p q = rw (p, q)

one : (a m x n : ℕ) → a < 256 → x < 256 → a + 256 * m ≡ x + 256 * n → (a ≡ x) × (m ≡ n)
one a m x n p q e = let r : a ≡ x = omega arith in (r, omega arith)

digits : (a b c d x y z w : ℕ) → a < 256 → b < 256 → c < 256 → x < 256 → y < 256 → z < 256
    → a + 256 * b + 65536 * c + 16777216 * d ≡ x + 256 * y + 65536 * z + 16777216 * w → (a ≡ x) × (b ≡ y) × (c ≡ z) × (d ≡ w)
digits a b c d x y z w a1 b1 c1 x1 y1 z1 e =
    let p = one a (b + 256 * (c + 256 * d)) x (y + 256 * (z + 256 * w)) a1 x1 (omega arith) in
    let q = one b (c + 256 * d) y (z + 256 * w) b1 y1 p.1 in
    let r = one c d z w c1 z1 q.1 in
    (p.0, q.0, r.0, r.1)

byte : (l : Str) → Bytes l → (k : ℕ) → get_or l k 0 < 256
byte l f k = let g = f k in omega arith

half-small : (l : Str) → Bytes l → (i : ℕ) → u32_at l i < 4294967296
unfolding u32_at u16_at
half-small l f i = omega (arith, byte l f i, byte l f (i + 1), byte l f (i + 2), byte l f (i + 3), fourth l i)

four : (P : ℕ → Type 0) → P 0 → P 1 → P 2 → P 3 → (k : ℕ) → k < 4 → P k
four P a b c d zero h = a
four P a b c d (suc zero) h = b
four P a b c d (suc (suc zero)) h = c
four P a b c d (suc (suc (suc zero))) h = d
four P a b c d (suc (suc (suc (suc k)))) h = absurd (omega arith)

module _ (a b : Str) (f : Bytes a) (g : Bytes b) (i : ℕ) where
  pub half-agree : u32_at a i ≡ u32_at b i → (k : ℕ) → k < 4 → get_or a (i + k) 0 ≡ get_or b (i + k) 0
  unfolding u32_at u16_at
  half-agree e =
      let d =
      digits (get_or a i 0) (get_or a (i + 1) 0) (get_or a (i + 2) 0) (get_or a (i + 3) 0) (get_or b i 0) (get_or b (i + 1) 0) (get_or b (i + 2) 0) (get_or b (i + 3) 0)
      (byte a f i) (byte a f (i + 1)) (byte a f (i + 2)) (byte b g i) (byte b g (i + 1)) (byte b g (i + 2)) (omega (arith, e, fourth a i, fourth b i)) in
      four (λ (k : ℕ). get_or a (i + k) 0 ≡ get_or b (i + k) 0) (subst (λ (n : ℕ). get_or a n 0 ≡ get_or b n 0) (let z : i ≡ i + 0 = omega arith in z) d.0) d.1 d.2 d.3

  word-halves : u64_at a i ≡ u64_at b i → (u32_at a i ≡ u32_at b i) × (u32_at a (i + 4) ≡ u32_at b (i + 4))
  unfolding u64_at
  word-halves e = let p = half-small a f i in let q = half-small b g i in let r : u32_at a i ≡ u32_at b i = omega arith in (r, omega arith)

module _ (a b : Str) (f : Bytes a) (g : Bytes b) (i : ℕ) where
  pub word-agree : u64_at a i ≡ u64_at b i → (k : ℕ) → k < 8 → get_or a (i + k) 0 ≡ get_or b (i + k) 0
  word-agree e k h = go (below_or k 4)
    where
      go : (k < 4) ⊎ (4 ≤ k) → get_or a (i + k) 0 ≡ get_or b (i + k) 0
      go (inl l) = half-agree a b f g i (word-halves a b f g i e).0 k l
      go (inr l) =
          subst (λ (n : ℕ). get_or a n 0 ≡ get_or b n 0) (let z : i + 4 + (k - 4) ≡ i + k = omega arith in z) (half-agree a b f g (i + 4) (word-halves a b f g i e).1 (k - 4) (omega arith))
