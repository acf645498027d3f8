-- The theorem of W-206: well-formed bytes are exactly the encodings of lists of scalar values, and decoding is unique. Assumes nothing.
use Prim.Native.Nat.{ℕ, zero, suc, ◌+◌, ◌*◌, ◌-◌, ◌/◌, ◌%◌, ◌≤◌, ◌<◌}
use mathlib.Core.Bool.{true, false, not, cond, false≢true}
use mathlib.Core.List.{List, [], ◌∷◌, ◌++◌, append_assoc}
use mathlib.Core.Logic.{◌⊎◌, inl, inr}
use mathlib.Core.Path.{◌≡◌, refl, sym, ap, ◌∙◌}
use native.Mathlib.Omega.{arith}
use lib.Dec.{leb, eqb, eqb-suc-zero}
use lib.ListN.{length, get_or, take}
use borrow.Author.Tests.{leb-true, le-leb, lt-ltb, le-ltb}
use Rattle.texts.specs.Texts.{Str}
use Rattle.texts.specs.Utf8.{inside, char_length, well_after, well_formed}
use Rattle.texts.specs.Encoding.{is_scalar, all_scalars, bytes_of, encode, value_of, char_value, decode_after, decode}
use Rattle.texts.proofs.TextLaws.{both, below_or}
use Rattle.texts.proofs.RowLaws.{inside-yes, inside-below, inside-above, Row, row_of, row-length}
use Rattle.texts.proofs.RowLaws.Row.{one, two, low, high, four}

-- scalar values ---------------------------------------------------------------------------------------------------------------

module _ (v : ℕ) where
  scalar_is : is_scalar v ≡ true → (v < 0xd800) ⊎ ((0xe000 ≤ v) × (v ≤ 0x10ffff))
  unfolding is_scalar
  scalar_is h = go (below_or v 0xd800) (below_or v 0xe000) (both (leb v 0x10ffff) (not (inside 0xd800 0xdfff v)) h)
    where
      go : (v < 0xd800) ⊎ (0xd800 ≤ v) → (v < 0xe000) ⊎ (0xe000 ≤ v) → (leb v 0x10ffff ≡ true) × (not (inside 0xd800 0xdfff v) ≡ true) → (v < 0xd800) ⊎ ((0xe000 ≤ v) × (v ≤ 0x10ffff))
      go (inl p) q k = inl p
      go (inr p) (inl q) k = absurd (false≢true (sym (ap not (inside-yes 0xd800 0xdfff v p (omega arith))) ∙ k.1))
      go (inr p) (inr q) k = inr (q, leb-true v 0x10ffff k.0)

  scalar-low : v < 0xd800 → is_scalar v ≡ true
  unfolding is_scalar
  scalar-low h = rw (le-leb v 0x10ffff (omega arith), inside-below 0xd800 0xdfff v h)

  scalar-high : 0xe000 ≤ v → v ≤ 0x10ffff → is_scalar v ≡ true
  unfolding is_scalar
  scalar-high h k = rw (le-leb v 0x10ffff k, inside-above 0xd800 0xdfff v (omega arith))

  bytes-1 : v < 0x80 → bytes_of v ≡ v ∷ []
  unfolding bytes_of
  bytes-1 h = rw (lt-ltb v 0x80 h)

  bytes_2 : (x y : ℕ) → 0x80 ≤ v → v < 0x800 → v ≡ x * 64 + y → y < 64 → bytes_of v ≡ (0xc0 + x) ∷ (0x80 + y) ∷ []
  unfolding bytes_of
  bytes_2 x y h k e l =
      let p : v / 64 ≡ x = omega arith in
      let q : v % 64 ≡ y = omega arith in
      rw (le-ltb v 0x80 h, lt-ltb v 0x800 k, p, q)

  bytes-3 : (x y z : ℕ) → 0x800 ≤ v → v < 0x10000 → v ≡ x * 4096 + y * 64 + z → y < 64 → z < 64 → bytes_of v ≡ (0xe0 + x) ∷ (0x80 + y) ∷ (0x80 + z) ∷ []
  unfolding bytes_of
  bytes-3 x y z h k e l m =
      let p : v / 4096 ≡ x = omega arith in
      let q : v / 64 ≡ x * 64 + y = omega arith in
      let r : (x * 64 + y) % 64 ≡ y = omega arith in
      let s : v % 64 ≡ z = omega arith in
      rw (le-ltb v 0x80 (omega arith), le-ltb v 0x800 h, lt-ltb v 0x10000 k, p, q, r, s)

  bytes_4 : (x y z w : ℕ) → 0x10000 ≤ v → v ≡ x * 262144 + y * 4096 + z * 64 + w → y < 64 → z < 64 → w < 64
      → bytes_of v ≡ (0xf0 + x) ∷ (0x80 + y) ∷ (0x80 + z) ∷ (0x80 + w) ∷ []
  unfolding bytes_of
  bytes_4 x y z w h e l m n =
      let p : v / 262144 ≡ x = omega arith in
      let q : v / 4096 ≡ x * 64 + y = omega arith in
      let r : (x * 64 + y) % 64 ≡ y = omega arith in
      let s : v / 64 ≡ (x * 64 + y) * 64 + z = omega arith in
      let t : ((x * 64 + y) * 64 + z) % 64 ≡ z = omega arith in
      let u : v % 64 ≡ w = omega arith in
      rw (le-ltb v 0x80 (omega arith), le-ltb v 0x800 (omega arith), le-ltb v 0x10000 h, p, q, r, s, t, u)

-- one step of each walk -------------------------------------------------------------------------------------------------------

module _ (a : ℕ) (s : Str) (k : ℕ) (e : char_length (a ∷ s) ≡ suc k) where
  pub well-step : well_after 0 (a ∷ s) ≡ well_after k s
  unfolding well_after
  well-step = let z : suc k - 1 ≡ k = omega arith in rw (e, eqb-suc-zero k, z)

  decode-step : decode_after 0 (a ∷ s) ≡ char_value (a ∷ s) ∷ decode_after k s
  unfolding decode_after
  decode-step = let z : suc k - 1 ≡ k = omega arith in rw (e, z)

  value-step : char_value (a ∷ s) ≡ value_of (suc k) a (get_or s 0 0) (get_or s 1 0) (get_or s 2 0)
  unfolding char_value
  value-step = rw e

-- where a step is taken, the bytes begin with a sequence
pub begins : (a : ℕ) (s : Str) → well_after 0 (a ∷ s) ≡ true → (k : ℕ) × (char_length (a ∷ s) ≡ suc k)
unfolding well_after
begins a s h = go (char_length (a ∷ s)) refl h
  where
    go : (n : ℕ) → char_length (a ∷ s) ≡ n → cond (eqb n 0) false (well_after (n - 1) s) ≡ true → (k : ℕ) × (char_length (a ∷ s) ≡ suc k)
    go zero e h = absurd (false≢true h)
    go (suc k) e h = (k, e)

-- from values to bytes --------------------------------------------------------------------------------------------------------

-- what a list of bytes that begins with a value's has to be
pub record Begun (v : ℕ) (t : Str) : Type 0 where
  pub well : well_after 0 (bytes_of v ++ t) ≡ well_after 0 t
  pub value : decode_after 0 (bytes_of v ++ t) ≡ v ∷ decode_after 0 t

module _ (v : ℕ) (t : Str) where
  begun-1 : v < 0x80 → Begun v t
  unfolding char_length value_of
  begun-1 h =
      let e : char_length (v ∷ t) ≡ 1 = row-length v (get_or t 0 0) (get_or t 1 0) (get_or t 2 0) 0 (one refl (omega arith)) in
      record {
        well = rw (bytes-1 v h) (well-step v t 0 e);
        value = rw (bytes-1 v h) (decode-step v t 0 e ∙ ap (λ (x : ℕ). x ∷ decode_after 0 t) (value-step v t 0 e));
      }

  begun-2 : (x y : ℕ) → v ≡ x * 64 + y → y < 64 → 0x80 ≤ v → v < 0x800 → Begun v t
  unfolding char_length value_of well_after decode_after
  begun-2 x y f l h i =
      let s : Str = (0x80 + y) ∷ t in
      let e : char_length ((0xc0 + x) ∷ s) ≡ 2 = row-length (0xc0 + x) (0x80 + y) (get_or t 0 0) (get_or t 1 0) 1 (two refl (omega arith) (omega arith) (omega arith) (omega arith)) in
      let q : value_of 2 (0xc0 + x) (0x80 + y) (get_or t 0 0) (get_or t 1 0) ≡ v = omega arith in
      record {
        well = rw (bytes_2 v x y h i f l) (well-step (0xc0 + x) s 1 e);
        value = rw (bytes_2 v x y h i f l) (decode-step (0xc0 + x) s 1 e ∙ ap (λ (z : ℕ). z ∷ decode_after 0 t) (value-step (0xc0 + x) s 1 e ∙ q));
      }

  begun-3 : (x y z : ℕ) → v ≡ x * 4096 + y * 64 + z → y < 64 → z < 64 → 0x800 ≤ v → v < 0x10000 → Row 2 (0xe0 + x) (0x80 + y) (0x80 + z) (get_or t 0 0) → Begun v t
  unfolding char_length value_of well_after decode_after
  begun-3 x y z f l m h i r =
      let s : Str = (0x80 + y) ∷ (0x80 + z) ∷ t in
      let e : char_length ((0xe0 + x) ∷ s) ≡ 3 = row-length (0xe0 + x) (0x80 + y) (0x80 + z) (get_or t 0 0) 2 r in
      let q : value_of 3 (0xe0 + x) (0x80 + y) (0x80 + z) (get_or t 0 0) ≡ v = omega arith in
      record {
        well = rw (bytes-3 v x y z h i f l m) (well-step (0xe0 + x) s 2 e);
        value = rw (bytes-3 v x y z h i f l m) (decode-step (0xe0 + x) s 2 e ∙ ap (λ (z : ℕ). z ∷ decode_after 0 t) (value-step (0xe0 + x) s 2 e ∙ q));
      }

  begun-4 : (x y z w : ℕ) → v ≡ x * 262144 + y * 4096 + z * 64 + w → y < 64 → z < 64 → w < 64 → 0x10000 ≤ v → v ≤ 0x10ffff → Begun v t
  unfolding char_length value_of well_after decode_after
  begun-4 x y z w f l m n h i =
      let s : Str = (0x80 + y) ∷ (0x80 + z) ∷ (0x80 + w) ∷ t in
      let r : Row 3 (0xf0 + x) (0x80 + y) (0x80 + z) (0x80 + w) =
      four refl (omega arith) (omega arith) (omega arith) (omega arith) (omega arith) (omega arith) (omega arith) (omega arith) (omega arith) (omega arith) in
      let e : char_length ((0xf0 + x) ∷ s) ≡ 4 = row-length (0xf0 + x) (0x80 + y) (0x80 + z) (0x80 + w) 3 r in
      let q : value_of 4 (0xf0 + x) (0x80 + y) (0x80 + z) (0x80 + w) ≡ v = omega arith in
      record {
        well = rw (bytes_4 v x y z w h f l m n) (well-step (0xf0 + x) s 3 e);
        value = rw (bytes_4 v x y z w h f l m n) (decode-step (0xf0 + x) s 3 e ∙ ap (λ (z : ℕ). z ∷ decode_after 0 t) (value-step (0xf0 + x) s 3 e ∙ q));
      }

  begun : is_scalar v ≡ true → Begun v t
  begun h = go (below_or v 0x80) (below_or v 0x800) (below_or v 0x10000) (scalar_is v h)
    where
      go : (v < 0x80) ⊎ (0x80 ≤ v) → (v < 0x800) ⊎ (0x800 ≤ v) → (v < 0x10000) ⊎ (0x10000 ≤ v) → (v < 0xd800) ⊎ ((0xe000 ≤ v) × (v ≤ 0x10ffff)) → Begun v t
      go (inl p) q r s = begun-1 p
      go (inr p) (inl q) r s = begun-2 (v / 64) (v % 64) (omega arith) (omega arith) p q
      go (inr p) (inr q) (inl r) (inl s) =
          begun-3 (v / 4096) (v / 64 % 64) (v % 64) (omega arith) (omega arith) (omega arith) q r
          (low refl (omega arith) (omega arith) (omega arith) (omega arith) (omega arith) (omega arith) (omega arith) (omega arith))
      go (inr p) (inr q) (inl r) (inr s) =
          begun-3 (v / 4096) (v / 64 % 64) (v % 64) (omega arith) (omega arith) (omega arith) q r
          (high refl (omega arith) (omega arith) (omega arith) (omega arith) (omega arith) (omega arith))
      go (inr p) (inr q) (inr r) (inl s) = absurd (omega arith)
      go (inr p) (inr q) (inr r) (inr s) =
          begun-4 (v / 262144) (v / 4096 % 64) (v / 64 % 64) (v % 64) (omega arith) (omega arith) (omega arith) (omega arith) r s.1

-- the encoding of scalar values is well-formed, and decoding gives them back
pub encoded-well : (vs : List ℕ) → all_scalars vs ≡ true → well_formed (encode vs) ≡ true
unfolding all_scalars well_formed encode well_after
encoded-well [] h = refl
encoded-well (v ∷ vs) h = let k = both (is_scalar v) (all_scalars vs) h in (begun v (encode vs) k.0).well ∙ encoded-well vs k.1

pub encoded-back : (vs : List ℕ) → all_scalars vs ≡ true → decode (encode vs) ≡ vs
unfolding all_scalars decode encode decode_after
encoded-back [] h = refl
encoded-back (v ∷ vs) h = let k = both (is_scalar v) (all_scalars vs) h in (begun v (encode vs) k.0).value ∙ ap (λ (l : List ℕ). v ∷ l) (encoded-back vs k.1)

-- no two lists of scalar values have the same bytes
pub encoded-unique : (vs ws : List ℕ) → all_scalars vs ≡ true → all_scalars ws ≡ true → encode vs ≡ encode ws → vs ≡ ws
encoded-unique vs ws p q e = sym (encoded-back vs p) ∙ ap decode e ∙ encoded-back ws q

-- from bytes to values --------------------------------------------------------------------------------------------------------

-- a sequence with k tails is there and is the encoding of its value
pub record Whole (a : ℕ) (s : Str) (k : ℕ) : Type 0 where
  pub room : k ≤ length s
  pub scalar : is_scalar (char_value (a ∷ s)) ≡ true
  pub bytes : bytes_of (char_value (a ∷ s)) ≡ a ∷ take k s

whole-1 : (a : ℕ) (s : Str) → char_length (a ∷ s) ≡ 1 → a ≤ 0x7f → Whole a s 0
unfolding value_of
whole-1 a s e h = record {
  room = omega arith;
  scalar = rw (value-step a s 0 e) (scalar-low a (omega arith));
  bytes = rw (value-step a s 0 e) (bytes-1 a (omega arith));
}

whole-2 : (a b : ℕ) (s : Str) → char_length (a ∷ b ∷ s) ≡ 2 → 0xc2 ≤ a → a ≤ 0xdf → 0x80 ≤ b → b ≤ 0xbf → Whole a (b ∷ s) 1
unfolding value_of
whole-2 a b s e h i j k =
    let v : ℕ = (a - 0xc0) * 64 + (b - 0x80) in
    let f : v ≡ (a - 0xc0) * 64 + (b - 0x80) = refl in
    let g : bytes_of v ≡ (0xc0 + (a - 0xc0)) ∷ (0x80 + (b - 0x80)) ∷ [] = bytes_2 v (a - 0xc0) (b - 0x80) (omega arith) (omega arith) f (omega arith) in
    let p : 0xc0 + (a - 0xc0) ≡ a = omega arith in
    let q : 0x80 + (b - 0x80) ≡ b = omega arith in
    record {
      room = omega arith;
      scalar = rw (value-step a (b ∷ s) 1 e) (scalar-low v (omega arith));
      bytes = rw (value-step a (b ∷ s) 1 e) (g ∙ rw (p, q));
    }

whole-3 : (a b c : ℕ) (s : Str) → char_length (a ∷ b ∷ c ∷ s) ≡ 3 → 0xe0 ≤ a → a ≤ 0xef → 0x80 ≤ b → b ≤ 0xbf → 0x80 ≤ c → c ≤ 0xbf → 64 * 0xe0 + 0xa0 ≤ 64 * a + b
    → (64 * a + b ≤ 64 * 0xed + 0x9f) ⊎ (64 * 0xee + 0x80 ≤ 64 * a + b) → Whole a (b ∷ c ∷ s) 2
unfolding value_of
whole-3 a b c s e h i j k l m n o =
    let v : ℕ = (a - 0xe0) * 4096 + (b - 0x80) * 64 + (c - 0x80) in
    let f : v ≡ (a - 0xe0) * 4096 + (b - 0x80) * 64 + (c - 0x80) = refl in
    let g : bytes_of v ≡ (0xe0 + (a - 0xe0)) ∷ (0x80 + (b - 0x80)) ∷ (0x80 + (c - 0x80)) ∷ [] =
    bytes-3 v (a - 0xe0) (b - 0x80) (c - 0x80) (omega arith) (omega arith) f (omega arith) (omega arith) in
    let p : 0xe0 + (a - 0xe0) ≡ a = omega arith in
    let q : 0x80 + (b - 0x80) ≡ b = omega arith in
    let r : 0x80 + (c - 0x80) ≡ c = omega arith in
    record {
      room = omega arith;
      scalar = rw (value-step a (b ∷ c ∷ s) 2 e) (go v f o);
      bytes = rw (value-step a (b ∷ c ∷ s) 2 e) (g ∙ rw (p, q, r));
    }
  where
    go : (v : ℕ) → v ≡ (a - 0xe0) * 4096 + (b - 0x80) * 64 + (c - 0x80) → (64 * a + b ≤ 64 * 0xed + 0x9f) ⊎ (64 * 0xee + 0x80 ≤ 64 * a + b) → is_scalar v ≡ true
    go v f (inl x) = scalar-low v (omega arith)
    go v f (inr x) = scalar-high v (omega arith) (omega arith)

whole-4 : (a b c d : ℕ) (s : Str) → char_length (a ∷ b ∷ c ∷ d ∷ s) ≡ 4 → 0xf0 ≤ a → a ≤ 0xf4 → 0x80 ≤ b → b ≤ 0xbf → 0x80 ≤ c → c ≤ 0xbf → 0x80 ≤ d → d ≤ 0xbf
    → 64 * 0xf0 + 0x90 ≤ 64 * a + b → 64 * a + b ≤ 64 * 0xf4 + 0x8f → Whole a (b ∷ c ∷ d ∷ s) 3
unfolding value_of
whole-4 a b c d s e h i j k l m n o t u =
    let v : ℕ = (a - 0xf0) * 262144 + (b - 0x80) * 4096 + (c - 0x80) * 64 + (d - 0x80) in
    let f : v ≡ (a - 0xf0) * 262144 + (b - 0x80) * 4096 + (c - 0x80) * 64 + (d - 0x80) = refl in
    let g : bytes_of v ≡ (0xf0 + (a - 0xf0)) ∷ (0x80 + (b - 0x80)) ∷ (0x80 + (c - 0x80)) ∷ (0x80 + (d - 0x80)) ∷ [] =
    bytes_4 v (a - 0xf0) (b - 0x80) (c - 0x80) (d - 0x80) (omega arith) f (omega arith) (omega arith) (omega arith) in
    let p : 0xf0 + (a - 0xf0) ≡ a = omega arith in
    let q : 0x80 + (b - 0x80) ≡ b = omega arith in
    let r : 0x80 + (c - 0x80) ≡ c = omega arith in
    let w : 0x80 + (d - 0x80) ≡ d = omega arith in
    record {
      room = omega arith;
      scalar = rw (value-step a (b ∷ c ∷ d ∷ s) 3 e) (scalar-high v (omega arith) (omega arith));
      bytes = rw (value-step a (b ∷ c ∷ d ∷ s) 3 e) (g ∙ rw (p, q, r, w));
    }

-- the same by its row. A byte past the end is 0 and no tail
whole_by : (a : ℕ) (s : Str) (k : ℕ) → char_length (a ∷ s) ≡ suc k → Row k a (get_or s 0 0) (get_or s 1 0) (get_or s 2 0) → Whole a s k
whole_by a s k e (one n h) = rw n (whole-1 a s (e ∙ ap suc n) h)
whole_by a [] k e (two n h i j l) = absurd (omega arith)
whole_by a (b ∷ s) k e (two n h i j l) = rw n (whole-2 a b s (e ∙ ap suc n) h i j l)
whole_by a [] k e (low n h i j l m o p q) = absurd (omega arith)
whole_by a (b ∷ []) k e (low n h i j l m o p q) = absurd (omega arith)
whole_by a (b ∷ c ∷ s) k e (low n h i j l m o p q) = rw n (whole-3 a b c s (e ∙ ap suc n) h (omega arith) j l m o p (inl q))
whole_by a [] k e (high n h i j l m o) = absurd (omega arith)
whole_by a (b ∷ []) k e (high n h i j l m o) = absurd (omega arith)
whole_by a (b ∷ c ∷ s) k e (high n h i j l m o) = rw n (whole-3 a b c s (e ∙ ap suc n) (omega arith) i j l m o (omega arith) (inr (omega arith)))
whole_by a [] k e (four n h i j l m o p q r t) = absurd (omega arith)
whole_by a (b ∷ []) k e (four n h i j l m o p q r t) = absurd (omega arith)
whole_by a (b ∷ c ∷ []) k e (four n h i j l m o p q r t) = absurd (omega arith)
whole_by a (b ∷ c ∷ d ∷ s) k e (four n h i j l m o p q r t) = rw n (whole-4 a b c d s (e ∙ ap suc n) h i j l m o p q r t)

pub whole : (a : ℕ) (s : Str) (k : ℕ) → char_length (a ∷ s) ≡ suc k → Whole a s k
unfolding char_length
whole a s k e = whole_by a s k e (row_of a (get_or s 0 0) (get_or s 1 0) (get_or s 2 0) k e)

-- what is well-formed is the encoding of what it decodes to
back-after : (k : ℕ) (s : Str) → k ≤ length s → well_after k s ≡ true → take k s ++ encode (decode_after k s) ≡ s
unfolding well_after decode_after encode
back-after zero [] h e = refl
back-after (suc k) [] h e = absurd (omega arith)
back-after (suc k) (b ∷ s) h e = ap (λ (l : Str). b ∷ l) (back-after k s (omega arith) e)
back-after zero (b ∷ s) h e =
    let n = begins b s e in
    let w = whole b s n.0 n.1 in
    ap encode (decode-step b s n.0 n.1) ∙ rw w.bytes (ap (λ (l : Str). b ∷ l) (back-after n.0 s w.room (sym (well-step b s n.0 n.1) ∙ e)))

scalars-after : (k : ℕ) (s : Str) → well_after k s ≡ true → all_scalars (decode_after k s) ≡ true
unfolding well_after decode_after all_scalars
scalars-after k [] e = refl
scalars-after (suc k) (b ∷ s) e = scalars-after k s e
scalars-after zero (b ∷ s) e =
    let n = begins b s e in
    let w = whole b s n.0 n.1 in
    ap all_scalars (decode-step b s n.0 n.1) ∙ rw w.scalar (scalars-after n.0 s (sym (well-step b s n.0 n.1) ∙ e))

pub decoded-back : (s : Str) → well_formed s ≡ true → encode (decode s) ≡ s
unfolding well_formed decode
decoded-back s h = back-after 0 s (omega arith) h

pub decoded-scalars : (s : Str) → well_formed s ≡ true → all_scalars (decode s) ≡ true
unfolding well_formed decode
decoded-scalars s h = scalars-after 0 s h

-- THE THEOREM: bytes are well-formed exactly if they are the encoding of a list of scalar values
pub well-formed-encodes : (s : Str) → well_formed s ≡ true → (vs : List ℕ) × (all_scalars vs ≡ true) × (encode vs ≡ s)
well-formed-encodes s h = (decode s, decoded-scalars s h, decoded-back s h)

pub encodes-well-formed : (s : Str) (vs : List ℕ) → all_scalars vs ≡ true → encode vs ≡ s → well_formed s ≡ true
encodes-well-formed s vs h e = rw (← e) (encoded-well vs h)

-- TEXTS JOINED: well-formed bytes after well-formed bytes are well-formed
encode-join : (vs ws : List ℕ) → encode (vs ++ ws) ≡ encode vs ++ encode ws
unfolding encode
encode-join [] ws = refl
encode-join (v ∷ vs) ws = ap (λ (l : Str). bytes_of v ++ l) (encode-join vs ws) ∙ sym (append_assoc (bytes_of v) (encode vs) (encode ws))

scalars-join : (vs ws : List ℕ) → all_scalars vs ≡ true → all_scalars ws ≡ true → all_scalars (vs ++ ws) ≡ true
unfolding all_scalars
scalars-join [] ws p q = q
scalars-join (v ∷ vs) ws p q = let k = both (is_scalar v) (all_scalars vs) p in rw k.0 (scalars-join vs ws k.1 q)

pub well-join : (s t : Str) → well_formed s ≡ true → well_formed t ≡ true → well_formed (s ++ t) ≡ true
well-join s t p q =
    encodes-well-formed (s ++ t) (decode s ++ decode t) (scalars-join (decode s) (decode t) (decoded-scalars s p) (decoded-scalars t q))
    (encode-join (decode s) (decode t) ∙ rw (decoded-back s p, decoded-back t q))
