-- The cases of the sizes, as the code's branches need them. Assumes nothing.
use Rattle.std.specs.Prelude.{Option, Some, None}
use mathlib.Core.Path.{◌≡◌, refl, sym, ap, ap₂, ◌∙◌}
use mathlib.Core.List.{List}
use mathlib.Core.Bool.{Bool, true, false}
use Prim.Native.Nat.{ℕ, zero, suc, ◌+◌, ◌*◌, ◌≤◌, ◌<◌}
use native.Mathlib.Nat.{le-mul_of_pos_right}
use native.Mathlib.Omega.{arith}
use lib.ListN.{drop}
use lib.Dec.{leb}
use borrow.Author.Tests.{le-leb, lt-leb, leb-true, leb-false}
use Rattle.record.specs.Base.{Str, bytes, or_else, map_option}
use Rattle.record.specs.Le.{u32_at}
use Rattle.record.specs.Scalars.{Scalar, prim_size}
use Rattle.record.specs.Schema.{Schema, Key, Enum, Alias, BitField}
use Rattle.record.specs.Stretch.{text_of}
use Rattle.record.specs.Operands.{text_at, opt_text_at, opt_number_at}
use Rattle.record.specs.Commands.{field_at}
use Rattle.record.specs.Index.{alias_placed, enum_placed, bitfield_placed, Findable, Looked}
use Rattle.record.specs.Lists.{opt_of, field_of}
use Rattle.record.specs.Steps.{enums_at, aliases_at, bitfields_at}
use Rattle.record.specs.Kind.{kind_of}
use Rattle.record.specs.Shapes.{enum_size, alias_size, bitfield_size, sized, scalar_size, size_as, shape_size, limit, capped}
use Rattle.record.specs.Reading.{rec, schema_from, schema_of}
use Rattle.record.specs.declared.text.Text.{Text}
use Rattle.record.specs.declared.command as D
use Rattle.record.specs.declared.kind.Kind.{Kind}
use Rattle.record.specs.declared.kind.Kind.TheVariants as K

-- sizes as far as the limit ----------------------------------------------------------------------------------------------

pub cap-low : (n : ℕ) → n ≤ limit → n ≡ capped n
unfolding capped
cap-low n h = rw (le-leb n limit h)

pub cap-high : (n : ℕ) → limit < n → (limit + 1) ≡ capped n
unfolding capped
cap-high n h = rw (lt-leb n limit h)

-- a factor as far as the limit serves as well as the factor
pub product-capped : (x b : ℕ) → capped (capped x * b) ≡ capped (x * b)
product-capped x zero =
    let a : capped x * 0 ≡ 0 = omega arith in
    let b : x * 0 ≡ 0 = omega arith in
    rw (a, b)
product-capped x (suc b) = go (leb x limit) refl
  where
    go : (t : Bool) → leb x limit ≡ t → capped (capped x * suc b) ≡ capped (x * suc b)
    go true e = rw (← cap-low x (leb-true x limit e))
    go false e =
        let h : limit < x = leb-false x limit e in
        let u : limit < x * suc b = past x h in
        let v : limit < (limit + 1) * suc b = past (limit + 1) (omega arith) in
        rw (← cap-high x h) (sym (cap-high ((limit + 1) * suc b) v) ∙ cap-high (x * suc b) u)
      where
        past : (y : ℕ) → limit < y → limit < y * suc b
        past y h = let m : y ≤ y * suc b = le-mul_of_pos_right {m = suc b} y (omega arith) in omega arith

-- named sizes ------------------------------------------------------------------------------------------------------------

module _ (s p n : Str) (x : List ℕ) (f : Findable s p x) (r : Option (ℕ × ℕ)) where
  module _ (h : Looked s p x 4 n r) where
    pub enum-size-none : r ≡ None → None ≡ enum_size (enums_at s p 0) n
    unfolding enum_size map_option
    enum-size-none m = sym (ap (map_option (λ (e : Enum). e.size)) ((h.named f).enum refl ∙ ap (enum_placed s p) m))

    pub enum-size-some : (a k : ℕ) (y : Str) (z : ℕ) → r ≡ Some (a, k) → y ≡ drop a s → z ≡ u32_at y 4 → Some z ≡ enum_size (enums_at s p 0) n
    unfolding enum_size map_option
    enum-size-some a k y z m d l =
        ap Some (l ∙ ap (λ (v : Str). u32_at v 4) d) ∙ sym (ap (map_option (λ (e : Enum). e.size)) ((h.named f).enum refl ∙ ap (enum_placed s p) m))

  module _ (h : Looked s p x 6 n r) where
    pub bitfield-size-none : r ≡ None → None ≡ bitfield_size (bitfields_at s p 0) n
    unfolding bitfield_size map_option
    bitfield-size-none m = sym (ap (map_option (λ (e : BitField). e.size)) ((h.named f).bitfield refl ∙ ap (bitfield_placed s p) m))

    pub bitfield-size-some : (a k : ℕ) (y : Str) (z : ℕ) → r ≡ Some (a, k) → y ≡ drop a s → z ≡ u32_at y 4 → Some z ≡ bitfield_size (bitfields_at s p 0) n
    unfolding bitfield_size map_option
    bitfield-size-some a k y z m d l =
        ap Some (l ∙ ap (λ (v : Str). u32_at v 4) d) ∙ sym (ap (map_option (λ (e : BitField). e.size)) ((h.named f).bitfield refl ∙ ap (bitfield_placed s p) m))

  module _ (w : List Scalar) (h : Looked s p x 3 n r) where
    pub alias-size-none : r ≡ None → None ≡ alias_size w (aliases_at s p 0) n
    unfolding alias_size map_option
    alias-size-none m = sym (ap (map_option (λ (e : Alias). prim_size w e.underlying)) ((h.named f).alias refl ∙ ap (alias_placed s p) m))

    pub alias-size-some : (a k : ℕ) (y : Str) (t : Text) (u : Str) (z : ℕ) → r ≡ Some (a, k) → y ≡ drop a s → t ≡ text_at y 4 → u ≡ text_of p t → z ≡ prim_size w u → Some z ≡ alias_size w (aliases_at s p 0) n
    unfolding alias_size map_option
    alias-size-some a k y t u z m d j i l =
        ap Some (l ∙ ap (prim_size w) (i ∙ ap (text_of p) (j ∙ ap (λ (v : Str). text_at v 4) d)))
        ∙ sym (ap (map_option (λ (e : Alias). prim_size w e.underlying)) ((h.named f).alias refl ∙ ap (alias_placed s p) m))

module _ (n : Option ℕ) (d : ℕ) where
  pub or-missing : n ≡ None → d ≡ or_else n d
  unfolding or_else
  or-missing e = rw e

  pub or-number : (x : ℕ) → n ≡ Some x → x ≡ or_else n d
  unfolding or_else
  or-number x e = rw e

pub ruleset or-laws = (or-missing, or-number)

module _ (p : Str) (t : Option Text) (f : Str → Option ℕ) (d : ℕ) where
  pub sized-absent : t ≡ None → d ≡ sized (opt_of p t) f d
  unfolding sized
  sized-absent e = rw e

  pub sized-given : (x : Text) (y : Str) (n : Option ℕ) (r : ℕ) → t ≡ Some x → y ≡ text_of p x → n ≡ f y → r ≡ or_else n d → r ≡ sized (opt_of p t) f d
  unfolding sized
  sized-given x y n r e g h q = rw (e, ← g, ← h) q

pub ruleset sized-laws = (sized-absent, sized-given)

module _ (w : List Scalar) (p : Str) (t : Option Text) where
  pub scalar-absent : (r : ℕ) → t ≡ None → r ≡ prim_size w (bytes "u8") → r ≡ prim_size w (or_else (opt_of p t) (bytes "u8"))
  unfolding or_else
  scalar-absent r e h = rw e h

  pub scalar-given : (x : Text) (y : Str) (r : ℕ) → t ≡ Some x → y ≡ text_of p x → r ≡ prim_size w y → r ≡ prim_size w (or_else (opt_of p t) (bytes "u8"))
  unfolding or_else
  scalar-given x y r e g h = rw (e, ← g) h

pub ruleset scalar-laws = (scalar-absent, scalar-given)

-- operands of a field ----------------------------------------------------------------------------------------------------

module _ (b : Str) (at : ℕ) where
  pub scalar-at-is : (w : List Scalar) (p : Str) (o : Option Text) (z y : ℕ) → o ≡ opt_text_at b at → z ≡ prim_size w (or_else (opt_of p o) (bytes "u8")) → y ≡ z
      → y ≡ prim_size w (or_else (opt_of p (opt_text_at b at)) (bytes "u8"))
  scalar-at-is w p o z y e g h = rw (← e) (h ∙ g)

  pub number-at-is : (n : Option ℕ) (z y : ℕ) → n ≡ opt_number_at b at → z ≡ or_else n 0 → y ≡ z → y ≡ or_else (opt_number_at b at) 0
  number-at-is n z y e g h = rw (← e) (h ∙ g)

-- a field by its kind ----------------------------------------------------------------------------------------------------

module _ (s p : Str) (w : List Scalar) (b : Str) (t : Text) (x : Str) (k : Kind) (d : t ≡ text_at b 4) (e : x ≡ text_of p t) (q : k ≡ kind_of x) where
  shape_is : (m : Kind) → k ≡ m → shape_size (schema_of (rec s p w)) (field_of p (field_at b) None) ≡ size_as m (schema_of (rec s p w)) (field_of p (field_at b) None)
  unfolding shape_size
  shape_is m h = ap (λ (i : Kind). size_as i (schema_of (rec s p w)) (field_of p (field_at b) None)) (sym (sym h ∙ q ∙ ap kind_of (e ∙ ap (text_of p) d)))

  pub shape-scalar : (y r : ℕ) → k ≡ K.Scalar → y ≡ prim_size w (or_else (opt_of p (opt_text_at b 7)) (bytes "u8")) → r ≡ capped y → r ≡ capped (shape_size (schema_of (rec s p w)) (field_of p (field_at b) None))
  unfolding size_as scalar_size schema_of schema_from
  shape-scalar y r h a c = c ∙ ap capped (a ∙ sym (shape_is K.Scalar h))

  pub shape-enum : (o : Option Text) (z y r : ℕ) → k ≡ K.Enum → o ≡ opt_text_at b 7 → z ≡ sized (opt_of p o) (enum_size (enums_at s p 0)) 1 → y ≡ z → r ≡ capped y → r ≡ capped (shape_size (schema_of (rec s p w)) (field_of p (field_at b) None))
  unfolding size_as schema_of schema_from enums_at
  shape-enum o z y r h j a v c = c ∙ ap capped (v ∙ a ∙ ap (λ (i : Option Text). sized (opt_of p i) (enum_size (enums_at s p 0)) 1) j ∙ sym (shape_is K.Enum h))

  pub shape-alias : (o : Option Text) (z y r : ℕ) → k ≡ K.TypeAlias → o ≡ opt_text_at b 7 → z ≡ sized (opt_of p o) (alias_size w (aliases_at s p 0)) 2 → y ≡ z → r ≡ capped y → r ≡ capped (shape_size (schema_of (rec s p w)) (field_of p (field_at b) None))
  unfolding size_as schema_of schema_from aliases_at
  shape-alias o z y r h j a v c = c ∙ ap capped (v ∙ a ∙ ap (λ (i : Option Text). sized (opt_of p i) (alias_size w (aliases_at s p 0)) 2) j ∙ sym (shape_is K.TypeAlias h))

  pub shape-bitfield : (o : Option Text) (z y r : ℕ) → k ≡ K.Bitfield → o ≡ opt_text_at b 7 → z ≡ sized (opt_of p o) (bitfield_size (bitfields_at s p 0)) 0 → y ≡ z → r ≡ capped y → r ≡ capped (shape_size (schema_of (rec s p w)) (field_of p (field_at b) None))
  unfolding size_as schema_of schema_from bitfields_at
  shape-bitfield o z y r h j a v c = c ∙ ap capped (v ∙ a ∙ ap (λ (i : Option Text). sized (opt_of p i) (bitfield_size (bitfields_at s p 0)) 0) j ∙ sym (shape_is K.Bitfield h))

  pub shape-array : (y n r : ℕ) → k ≡ K.InlineArray → y ≡ prim_size w (or_else (opt_of p (opt_text_at b 10)) (bytes "u8")) → n ≡ or_else (opt_number_at b 13) 0 → r ≡ capped (y * n) → r ≡ capped (shape_size (schema_of (rec s p w)) (field_of p (field_at b) None))
  unfolding size_as scalar_size schema_of schema_from
  shape-array y n r h a g c = c ∙ ap capped (ap₂ ◌*◌ a g ∙ sym (shape_is K.InlineArray h))

  pub shape-array2d : (r : ℕ) → k ≡ K.InlineArray2d → r ≡ capped (prim_size w (or_else (opt_of p (opt_text_at b 10)) (bytes "u8")) * or_else (opt_number_at b 18) 0 * or_else (opt_number_at b 23) 0) → r ≡ capped (shape_size (schema_of (rec s p w)) (field_of p (field_at b) None))
  unfolding size_as scalar_size schema_of schema_from
  shape-array2d r h c = c ∙ ap capped (sym (shape_is K.InlineArray2d h))

  pub shape-padding : (y r : ℕ) → k ≡ K.Padding → y ≡ or_else (opt_number_at b 28) 0 → r ≡ capped y → r ≡ capped (shape_size (schema_of (rec s p w)) (field_of p (field_at b) None))
  unfolding size_as
  shape-padding y r h a c = c ∙ ap capped (a ∙ sym (shape_is K.Padding h))

  pub shape-CstrPtr : k ≡ K.CstrPtr → 4 ≡ capped (shape_size (schema_of (rec s p w)) (field_of p (field_at b) None))
  unfolding size_as
  shape-CstrPtr h = rw (shape_is K.CstrPtr h) (cap-low 4 (omega arith))

  pub shape-StructPtr : k ≡ K.StructPtr → 4 ≡ capped (shape_size (schema_of (rec s p w)) (field_of p (field_at b) None))
  unfolding size_as
  shape-StructPtr h = rw (shape_is K.StructPtr h) (cap-low 4 (omega arith))

  pub shape-StructArrayPtr : k ≡ K.StructArrayPtr → 4 ≡ capped (shape_size (schema_of (rec s p w)) (field_of p (field_at b) None))
  unfolding size_as
  shape-StructArrayPtr h = rw (shape_is K.StructArrayPtr h) (cap-low 4 (omega arith))

  pub shape-StructPtrArrayPtr : k ≡ K.StructPtrArrayPtr → 4 ≡ capped (shape_size (schema_of (rec s p w)) (field_of p (field_at b) None))
  unfolding size_as
  shape-StructPtrArrayPtr h = rw (shape_is K.StructPtrArrayPtr h) (cap-low 4 (omega arith))

  pub shape-TaggedFamPtr : k ≡ K.TaggedFamPtr → 4 ≡ capped (shape_size (schema_of (rec s p w)) (field_of p (field_at b) None))
  unfolding size_as
  shape-TaggedFamPtr h = rw (shape_is K.TaggedFamPtr h) (cap-low 4 (omega arith))

  pub shape-SimpleFamPtr : k ≡ K.SimpleFamPtr → 4 ≡ capped (shape_size (schema_of (rec s p w)) (field_of p (field_at b) None))
  unfolding size_as
  shape-SimpleFamPtr h = rw (shape_is K.SimpleFamPtr h) (cap-low 4 (omega arith))

  pub shape-OpaquePtr : k ≡ K.OpaquePtr → 4 ≡ capped (shape_size (schema_of (rec s p w)) (field_of p (field_at b) None))
  unfolding size_as
  shape-OpaquePtr h = rw (shape_is K.OpaquePtr h) (cap-low 4 (omega arith))

  pub shape-FnPtr : k ≡ K.FnPtr → 4 ≡ capped (shape_size (schema_of (rec s p w)) (field_of p (field_at b) None))
  unfolding size_as
  shape-FnPtr h = rw (shape_is K.FnPtr h) (cap-low 4 (omega arith))

  pub shape-Text : k ≡ K.Text → 0 ≡ capped (shape_size (schema_of (rec s p w)) (field_of p (field_at b) None))
  unfolding size_as
  shape-Text h = rw (shape_is K.Text h) (cap-low 0 (omega arith))

  pub shape-Other : k ≡ K.Other → 0 ≡ capped (shape_size (schema_of (rec s p w)) (field_of p (field_at b) None))
  unfolding size_as
  shape-Other h = rw (shape_is K.Other h) (cap-low 0 (omega arith))

pub array2d-is : (z y a n l c m r : ℕ) → y ≡ z → n ≡ a → l ≡ capped (y * n) → m ≡ c → r ≡ capped (l * m) → r ≡ capped (z * a * c)
array2d-is z y a n l c m r y1 n1 l1 m1 r1 = r1 ∙ rw (l1, y1, n1, m1) (product-capped (z * a) c)

-- the plugin key plays no part
pub keyless : (m : Kind) (t : Schema) (p : Str) (f : D.Field.Field) (k : Option Key) → size_as m t (field_of p f k) ≡ size_as m t (field_of p f None)
unfolding size_as
keyless K.Scalar t p f k = refl
keyless K.Enum t p f k = refl
keyless K.TypeAlias t p f k = refl
keyless K.Bitfield t p f k = refl
keyless K.InlineArray t p f k = refl
keyless K.InlineArray2d t p f k = refl
keyless K.CstrPtr t p f k = refl
keyless K.StructPtr t p f k = refl
keyless K.StructArrayPtr t p f k = refl
keyless K.StructPtrArrayPtr t p f k = refl
keyless K.TaggedFamPtr t p f k = refl
keyless K.SimpleFamPtr t p f k = refl
keyless K.OpaquePtr t p f k = refl
keyless K.FnPtr t p f k = refl
keyless K.Padding t p f k = refl
keyless K.Text t p f k = refl
keyless K.Other t p f k = refl
