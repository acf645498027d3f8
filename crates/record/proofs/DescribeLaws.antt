-- The cases of a field's description, as the code's branches need them. Assumes nothing.
use Rattle.std.specs.Prelude.{Option, Some, None}
use mathlib.Core.Path.{◌≡◌, refl, sym, ap, ap₂, ◌∙◌}
use mathlib.Core.List.{List, [], ◌∷◌, ◌++◌, append-nil, append_assoc}
use mathlib.Core.Bool.{Bool, true, false}
use Prim.Native.Nat.{ℕ, ◌+◌}
use native.Mathlib.Omega.{arith}
use lib.ListN.{length, length-append}
use types.Run.{OneOf, miss}
use denote.Enum.Declared.{tag_of}
use Rattle.record.specs.Base.{Str, bytes, decimal, or_else, or_option}
use Rattle.record.specs.Schema.{Field, Key}
use Rattle.record.specs.Stretch.{text_of}
use Rattle.record.specs.Lists.{field_of}
use Rattle.record.specs.Operands.{text_at, opt_text_at, opt_number_at}
use Rattle.record.specs.Commands.{field_at}
use Rattle.record.specs.Kind.{kind_of, is_padding}
use Rattle.record.specs.Write.{Puts}
use Rattle.record.specs.Shapes.{spaced, named, rest_as, shape_type}
use Rattle.record.specs.declared.text.Text.{Text}
use Rattle.record.specs.declared.command as D
use Rattle.record.specs.declared.kind.Kind.{Kind}
use Rattle.record.specs.declared.kind.Kind.TheVariants as K
use Rattle.record.specs.declared.describe.Description.{Description}
use Rattle.record.specs.declared.describe.Description.TheVariants.{Plain, Named, Array, Array2d, Discriminant, Length}
use Rattle.record.specs.Describe.{element_of, times, described_as, Shaped}
use Rattle.record.specs.contracts.kind.Kind.{the_type}
use Rattle.record.proofs.WriterLaws.{puts_then, puts-as}

-- the tags of all kinds but the arrays and padding
abbrev pub named-tags : List ℕ
named-tags = 0 ∷ 1 ∷ 2 ∷ 3 ∷ 6 ∷ 7 ∷ 8 ∷ 9 ∷ 10 ∷ 11 ∷ 12 ∷ 13 ∷ 15 ∷ 16 ∷ []

-- what all these have in common
record PlainKind (m : Kind) (f : Field) : Type 0 where
  pub rest : named f ≡ rest_as m f
  pub no-padding : false ≡ is_padding m

plain-kind : (m : Kind) (f : Field) → OneOf named-tags (tag_of the_type m) → PlainKind m f
unfolding rest_as
plain-kind K.Scalar f h = record { rest = refl; no-padding = refl }
plain-kind K.Enum f h = record { rest = refl; no-padding = refl }
plain-kind K.TypeAlias f h = record { rest = refl; no-padding = refl }
plain-kind K.Bitfield f h = record { rest = refl; no-padding = refl }
plain-kind K.InlineArray f h = absurd (miss named-tags 4 tt h)
plain-kind K.InlineArray2d f h = absurd (miss named-tags 5 tt h)
plain-kind K.CstrPtr f h = record { rest = refl; no-padding = refl }
plain-kind K.StructPtr f h = record { rest = refl; no-padding = refl }
plain-kind K.StructArrayPtr f h = record { rest = refl; no-padding = refl }
plain-kind K.StructPtrArrayPtr f h = record { rest = refl; no-padding = refl }
plain-kind K.TaggedFamPtr f h = record { rest = refl; no-padding = refl }
plain-kind K.SimpleFamPtr f h = record { rest = refl; no-padding = refl }
plain-kind K.OpaquePtr f h = record { rest = refl; no-padding = refl }
plain-kind K.FnPtr f h = record { rest = refl; no-padding = refl }
plain-kind K.Padding f h = absurd (miss named-tags 14 tt h)
plain-kind K.Text f h = record { rest = refl; no-padding = refl }
plain-kind K.Other f h = record { rest = refl; no-padding = refl }

-- the type that a field names, or else its element
module _ (s p : Str) (k : Text) (o : Option Text) (e : o ≡ opt_text_at s 7) where
  pub type-named : (t : Text) → o ≡ Some t → described_as p (Named k t) ≡ text_of p k ++ named (field_of p (field_at s) None)
  unfolding named spaced or_option
  type-named t a = rw (← e, a)

  module _ (a : o ≡ None) (q : Option Text) (g : q ≡ opt_text_at s 10) where
    pub element-named : (t : Text) → q ≡ Some t → described_as p (Named k t) ≡ text_of p k ++ named (field_of p (field_at s) None)
    unfolding named spaced or_option
    element-named t b = rw (← e, a, ← g, b)

    pub none_named : q ≡ None → described_as p (Plain k) ≡ text_of p k ++ named (field_of p (field_at s) None)
    unfolding named spaced or_option
    none_named b = rw (← e, a, ← g, b) (sym (append-nil (text_of p k)))

pub ruleset named-laws = (type-named, element-named, none_named)

module _ (p s : Str) (t : Text) (x : Str) (k : Kind) (d : t ≡ text_at s 4) (e : x ≡ text_of p t) (q : k ≡ kind_of x) where
  kind-is : k ≡ kind_of (text_of p (text_at s 4))
  kind-is = q ∙ ap kind_of (e ∙ ap (text_of p) d)

  shaped : (v : Description) (b : Bool) → described_as p v ≡ text_of p t ++ rest_as k (field_of p (field_at s) None) → b ≡ is_padding k → Shaped p s (record { described = v; padding = b })
  unfolding shape_type
  shaped v b u a = record {
    text = u ∙ ap₂ (λ (i : Text) (m : Kind). text_of p i ++ rest_as m (field_of p (field_at s) None)) d kind-is;
    padded = a ∙ ap is_padding kind-is;
  }

  pub array-shaped : (o : Option Text) (c : Option ℕ) (n : ℕ) → k ≡ K.InlineArray → o ≡ opt_text_at s 10 → c ≡ opt_number_at s 13 → n ≡ or_else c 0
      → Shaped p s (record { described = Array t o n; padding = false })
  unfolding rest_as
  array-shaped o c n h a b g = shaped (Array t o n) false (rw (h, g, a, b)) (rw h)

  pub array2d-shaped : (o : Option Text) (c i : Option ℕ) (m n : ℕ) → k ≡ K.InlineArray2d → o ≡ opt_text_at s 10 → c ≡ opt_number_at s 18 → m ≡ or_else c 0 → i ≡ opt_number_at s 23
      → n ≡ or_else i 0 → Shaped p s (record { described = Array2d t o m n; padding = false })
  unfolding rest_as
  array2d-shaped o c i m n h a b g j l = shaped (Array2d t o m n) false (rw (h, g, l, a, b, j)) (rw h)

  module _ (v : Description) (g : (p : Str) → described_as p v ≡ text_of p t ++ named (field_of p (field_at s) None)) where
    pub padding-shaped : k ≡ K.Padding → Shaped p s (record { described = v; padding = true })
    unfolding rest_as
    padding-shaped h = shaped v true (g p ∙ rw h) (rw h)

    pub other-shaped : OneOf named-tags (tag_of the_type k) → Shaped p s (record { described = v; padding = false })
    other-shaped h =
        let l = plain-kind k (field_of p (field_at s) None) h in
        shaped v false (g p ∙ ap (λ (i : Str). text_of p t ++ i) l.rest) l.no-padding

pub ruleset shape-laws = (array-shaped, array2d-shaped, padding-shaped, other-shaped)

-- the plugin key plays no part
rest-keyless : (m : Kind) (p : Str) (f : D.Field.Field) (k : Option Key) → rest_as m (field_of p f k) ≡ rest_as m (field_of p f None)
unfolding rest_as named
rest-keyless K.Scalar p f k = refl
rest-keyless K.Enum p f k = refl
rest-keyless K.TypeAlias p f k = refl
rest-keyless K.Bitfield p f k = refl
rest-keyless K.InlineArray p f k = refl
rest-keyless K.InlineArray2d p f k = refl
rest-keyless K.CstrPtr p f k = refl
rest-keyless K.StructPtr p f k = refl
rest-keyless K.StructArrayPtr p f k = refl
rest-keyless K.StructPtrArrayPtr p f k = refl
rest-keyless K.TaggedFamPtr p f k = refl
rest-keyless K.SimpleFamPtr p f k = refl
rest-keyless K.OpaquePtr p f k = refl
rest-keyless K.FnPtr p f k = refl
rest-keyless K.Padding p f k = refl
rest-keyless K.Text p f k = refl
rest-keyless K.Other p f k = refl

pub described-keyless : (p : Str) (f : D.Field.Field) (k : Option Key) → shape_type (field_of p f k) ≡ shape_type (field_of p f None)
unfolding shape_type
described-keyless p f k = ap (λ (r : Str). text_of p f.kind ++ r) (rest-keyless (kind_of (text_of p f.kind)) p f k)

-- lengths ----------------------------------------------------------------------------------------------------------------

-- the tags of all kinds but the arrays
abbrev pub no-array-tags : List ℕ
no-array-tags = 0 ∷ 1 ∷ 2 ∷ 3 ∷ 6 ∷ 7 ∷ 8 ∷ 9 ∷ 10 ∷ 11 ∷ 12 ∷ 13 ∷ 14 ∷ 15 ∷ 16 ∷ []

rest-named : (m : Kind) (f : Field) → OneOf no-array-tags (tag_of the_type m) → named f ≡ rest_as m f
unfolding rest_as
rest-named K.Scalar f h = refl
rest-named K.Enum f h = refl
rest-named K.TypeAlias f h = refl
rest-named K.Bitfield f h = refl
rest-named K.InlineArray f h = absurd (miss no-array-tags 4 tt h)
rest-named K.InlineArray2d f h = absurd (miss no-array-tags 5 tt h)
rest-named K.CstrPtr f h = refl
rest-named K.StructPtr f h = refl
rest-named K.StructArrayPtr f h = refl
rest-named K.StructPtrArrayPtr f h = refl
rest-named K.TaggedFamPtr f h = refl
rest-named K.SimpleFamPtr f h = refl
rest-named K.OpaquePtr f h = refl
rest-named K.FnPtr f h = refl
rest-named K.Padding f h = refl
rest-named K.Text f h = refl
rest-named K.Other f h = refl

module _ (p : Str) (o : Option Text) where
  pub element-none-long : o ≡ None → 2 ≡ length (element_of p o)
  unfolding or_else bytes
  element-none-long e = rw e

  pub element-some-long : (t : Text) (x : Str) → o ≡ Some t → x ≡ text_of p t → length x ≡ length (element_of p o)
  unfolding or_else
  element-some-long t x e g = rw (e, g)

pub times_long : (n m : ℕ) → m ≡ length (decimal n) → 3 + m ≡ length (times n)
unfolding bytes
times_long n m e = rw e (simp length-append (omega arith))

module _ (s p : Str) (o : Option Text) (e : o ≡ opt_text_at s 7) where
  pub type-long : (t : Text) (x : Str) → o ≡ Some t → x ≡ text_of p t → 1 + length x ≡ length (named (field_of p (field_at s) None))
  unfolding named spaced or_option
  type-long t x a g = rw (← e, a, g) (omega arith)

  module _ (a : o ≡ None) (q : Option Text) (i : q ≡ opt_text_at s 10) where
    pub element-long : (t : Text) (x : Str) → q ≡ Some t → x ≡ text_of p t → 1 + length x ≡ length (named (field_of p (field_at s) None))
    unfolding named spaced or_option
    element-long t x b g = rw (← e, a, ← i, b, g) (omega arith)

    pub none-long : q ≡ None → 0 ≡ length (named (field_of p (field_at s) None))
    unfolding named spaced or_option
    none-long b = rw (← e, a, ← i, b)

module _ (s p : Str) (k : Kind) where
  module _ (o : Option Text) (a : ℕ) (e : o ≡ opt_text_at s 10) (g : a ≡ length (element_of p o)) where
    pub array_long : (c : Option ℕ) (n b : ℕ) → k ≡ K.InlineArray → c ≡ opt_number_at s 13 → n ≡ or_else c 0 → b ≡ length (times n)
        → 1 + a + b ≡ length (rest_as k (field_of p (field_at s) None))
    unfolding rest_as
    array_long c n b h i j l = rw (h, l, j, i, g, e) (simp length-append (omega arith))

    pub array2d-long : (c d : Option ℕ) (m n u v : ℕ) → k ≡ K.InlineArray2d → c ≡ opt_number_at s 18 → m ≡ or_else c 0 → u ≡ length (times m) → d ≡ opt_number_at s 23
        → n ≡ or_else d 0 → v ≡ length (times n) → 1 + a + u + v ≡ length (rest_as k (field_of p (field_at s) None))
    unfolding rest_as
    array2d-long c d m n u v h i j l x y z = rw (h, l, j, i, z, y, x, g, e) (simp length-append (omega arith))

  pub named-long : (r : ℕ) → r ≡ length (named (field_of p (field_at s) None)) → OneOf no-array-tags (tag_of the_type k) → r ≡ length (rest_as k (field_of p (field_at s) None))
  named-long r e h = e ∙ ap length (rest-named k (field_of p (field_at s) None) h)

  pub shape-long : (t : Text) (x : Str) (r : ℕ) → t ≡ text_at s 4 → x ≡ text_of p t → k ≡ kind_of x → r ≡ length (rest_as k (field_of p (field_at s) None))
      → length x + r ≡ length (shape_type (field_of p (field_at s) None))
  unfolding shape_type
  shape-long t x r d e g h = rw (h, g, e, d) (simp length-append)

-- puts -------------------------------------------------------------------------------------------------------------------

module _ (p : Str) {out after : Str} {at r : ℕ} where
  module _ {mid : Str} {q : ℕ} where
    pub times-put : (n : ℕ) → Puts out at (bytes " x ") mid q → Puts mid q (decimal n) after r → Puts out at (times n) after r
    times-put n a b = puts_then a b

    pub kind-put : (k : Text) → Puts out at (text_of p k) mid q → Puts mid q (bytes " ") after r → Puts out at (text_of p k ++ bytes " ") after r
    kind-put k a b = puts_then a b

  module _ (o : Option Text) where
    pub element-none : o ≡ None → Puts out at (bytes "u8") after r → Puts out at (element_of p o) after r
    unfolding or_else
    element-none e a = rw e a

    pub element-some : (t : Text) → o ≡ Some t → Puts out at (text_of p t) after r → Puts out at (element_of p o) after r
    unfolding or_else
    element-some t e a = rw e a

  module _ (d : Description) where
    pub put-plain : (k : Text) → d ≡ Plain k → Puts out at (text_of p k) after r → Puts out at (described_as p d) after r
    put-plain k e a = rw e a

    pub put-discriminant : (t : Text) → d ≡ Discriminant t → Puts out at (bytes "enum " ++ text_of p t) after r → Puts out at (described_as p d) after r
    put-discriminant t e a = rw e a

    pub put_same : (e : Description) → d ≡ e → Puts out at (described_as p e) after r → Puts out at (described_as p d) after r
    put_same e g a = rw g a

    module _ {mid : Str} {q : ℕ} where
      pub put-length : (o : Option Text) → d ≡ Length o → Puts out at (bytes "scalar ") mid q → Puts mid q (element_of p o) after r
          → Puts out at (described_as p d) after r
      put-length o e a b = rw e (puts_then a b)

      pub put-array2d : (k : Text) (o : Option Text) (m n : ℕ) → d ≡ Array2d k o m n → Puts out at (described_as p (Array k o m)) mid q → Puts mid q (times n) after r
          → Puts out at (described_as p d) after r
      put-array2d k o m n e a b = rw e (puts-as (puts_then a b) (simp append_assoc))

  module _ (k : Text) {mid : Str} {q : ℕ} (a : Puts out at (text_of p k ++ bytes " ") mid q) where
    pub put-named : (t : Text) → Puts mid q (text_of p t) after r → Puts out at (described_as p (Named k t)) after r
    unfolding bytes
    put-named t b = puts-as (puts_then a b) (simp append_assoc)

    pub put-array : (o : Option Text) (n : ℕ) {mid₂ : Str} {q₂ : ℕ} → Puts mid q (element_of p o) mid₂ q₂ → Puts mid₂ q₂ (times n) after r
        → Puts out at (described_as p (Array k o n)) after r
    unfolding bytes
    put-array o n b c = puts-as (puts_then (puts_then a b) c) (simp append_assoc)

-- by the bytes that begin with a field's command
module _ (p s : Str) (t : Text) (x : Str) (k : Kind) (d : t ≡ text_at s 4) (e : x ≡ text_of p t) (q : k ≡ kind_of x) {out after : Str} {at r : ℕ} where
  pub shape-array : (o : Option Text) (c : Option ℕ) (n : ℕ) → k ≡ K.InlineArray → o ≡ opt_text_at s 10 → c ≡ opt_number_at s 13 → n ≡ or_else c 0
      → Puts out at (described_as p (Array t o n)) after r → Puts out at (shape_type (field_of p (field_at s) None)) after r
  shape-array o c n h a b g u = puts-as u (array-shaped p s t x k d e q o c n h a b g).text

  pub shape-array2d : (o : Option Text) (c i : Option ℕ) (m n : ℕ) {mid : Str} {y : ℕ} → k ≡ K.InlineArray2d → o ≡ opt_text_at s 10 → c ≡ opt_number_at s 18 → m ≡ or_else c 0
      → i ≡ opt_number_at s 23 → n ≡ or_else i 0 → Puts out at (described_as p (Array t o m)) mid y → Puts mid y (times n) after r
      → Puts out at (shape_type (field_of p (field_at s) None)) after r
  shape-array2d o c i m n h a b g j l u v = puts-as (put-array2d p (Array2d t o m n) t o m n refl u v) (array2d-shaped p s t x k d e q o c i m n h a b g j l).text

  pub shape-named : OneOf no-array-tags (tag_of the_type k) → Puts out at (text_of p t ++ named (field_of p (field_at s) None)) after r
      → Puts out at (shape_type (field_of p (field_at s) None)) after r
  unfolding shape_type
  shape-named h u =
      puts-as u
      (ap (λ (i : Str). text_of p t ++ i) (rest-named k (field_of p (field_at s) None) h)
      ∙ ap₂ (λ (i : Text) (m : Kind). text_of p i ++ rest_as m (field_of p (field_at s) None)) d (kind-is p s t x k d e q))
