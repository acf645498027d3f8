-- Fields that are alike are the same, and what is passed over does not count. p is the first pool and q the second. Assumes nothing.
use Rattle.std.specs.Prelude.{Option, Some, None}
use Prim.Native.Nat.{ℕ, ◌+◌, ◌-◌, ◌/◌, ◌≤◌, ◌<◌}
use mathlib.Core.Path.{◌≡◌, refl, sym, ap, ap₂, subst, ◌∙◌}
use mathlib.Core.List.{List, ◌∷◌}
use mathlib.Core.Bool.{Bool, true, false, ◌&&◌, beq}
use native.Mathlib.Omega.{arith}
use borrow.Author.Tests.{eq-eqb}
use lib.ListN.{length, get_or, take, drop}
use lib.Seq.{get_or-take, get_or-drop}
use Rattle.record.specs.Base.{Str, bytes, eqs}
use Rattle.record.specs.Operands.{text_at, opt_text, opt_text_at}
use Rattle.record.specs.Stretch.{text_of}
use Rattle.record.specs.Scalars.{Scalar}
use Rattle.record.specs.Schema.{Field}
use Rattle.record.specs.Commands.{operands, wide, widths, width_with, width_of, place, field_at}
use Rattle.record.specs.Lists.{opt_of, field_of}
use Rattle.record.specs.Seek.{SoughtFrom}
use Rattle.record.specs.Kind.{kind_of, is_padding}
use Rattle.record.specs.Shapes.{FieldLayout, shape_type, capped}
use Rattle.record.specs.Reading.{rec}
use Rattle.record.specs.declared.command as C
use Rattle.record.specs.declared.command.Cursor.{Cursor}
use Rattle.record.specs.declared.text.Text.{Text}
use Rattle.record.specs.declared.seek.Between.TheVariants.{Keys}
use Rattle.record.proofs.Basics.{eqs-refl}
use Rattle.record.proofs.CommandLaws.{text_same, number_same}
use Rattle.record.proofs.SeekLaws.{sought-stands, sought-nearer}
use Rattle.layout.specs.Handles.{name_at}
use Rattle.layout.specs.Spots.{place_at, cursor_at, places_from, SoundCursor}
use Rattle.layout.specs.declared.spots.Ahead.{Ahead}
use Rattle.layout.specs.declared.spots.Ahead.TheVariants.{Body}
use Rattle.layout.specs.declared.spots.SpotCursor.{SpotCursor}
use Rattle.layout.proofs.SpotLaws.{place-passed, place-sound}
use Rattle.definition.specs.Fields.{eq_place, eq_places}
use Rattle.compare.proofs.LayoutLaws.{same_word}
use Rattle.compare.specs.Alike.{SameNumbers, SameTexts, AlikePassed, Begins, AlikeNext, AlikeFrom}

-- parts ---------------------------------------------------------------------------------------------------------------------

-- bytes that are the same from place 13 on
byte-after : (s t : Str) → drop 13 s ≡ drop 13 t → (i : ℕ) → 13 ≤ i → get_or s i 0 ≡ get_or t i 0
byte-after s t e i h =
    let j : 13 + (i - 13) ≡ i = omega arith in
    subst (λ (n : ℕ). get_or s n 0 ≡ get_or t n 0) j (sym (get_or-drop 13 s (i - 13) 0) ∙ ap (λ (l : Str). get_or l (i - 13) 0) e ∙ get_or-drop 13 t (i - 13) 0)

pub numbers-alike : (s t x y : Str) (b : Bool) → x ≡ drop 13 s → y ≡ drop 13 t → b ≡ eqs x y → b ≡ true → SameNumbers (field_at s) (field_at t)
numbers-alike s t x y b f g h e =
    let d = byte-after s t (same_word x y _ _ b f g h e) in
    record {
      count = number_same s t 13 (λ i k l. d i k);
      rows = number_same s t 18 (λ i k l. d i (omega arith));
      cols = number_same s t 23 (λ i k l. d i (omega arith));
      size = number_same s t 28 (λ i k l. d i (omega arith));
    }

pub texts-alike : (p q s t : Str) (f g h i : Text) (k l m n : Option Text) (x y u v : Str) (a b c d : Bool) → f ≡ text_at s 1 → g ≡ text_at t 1 → x ≡ text_of p f → y ≡ text_of q g → a ≡ eqs x y → a ≡ true
    → h ≡ text_at s 4 → i ≡ text_at t 4 → u ≡ text_of p h → v ≡ text_of q i → b ≡ eqs u v → b ≡ true → k ≡ opt_text_at s 7 → l ≡ opt_text_at t 7 → (c ≡ true → opt_of p k ≡ opt_of q l) → c ≡ true
    → m ≡ opt_text_at s 10 → n ≡ opt_text_at t 10 → (d ≡ true → opt_of p m ≡ opt_of q n) → d ≡ true → SameTexts p q (field_at s) (field_at t)
texts-alike p q s t f g h i k l m n x y u v a b c d f1 g1 x1 y1 a1 a2 h1 i1 u1 v1 b1 b2 k1 l1 c1 c2 m1 n1 d1 d2 =
    record {
      name = same_word x y _ _ a (x1 ∙ ap (text_of p) f1) (y1 ∙ ap (text_of q) g1) a1 a2;
      kind = same_word u v _ _ b (u1 ∙ ap (text_of p) h1) (v1 ∙ ap (text_of q) i1) b1 b2;
      typ = ap (opt_of p) (sym k1) ∙ c1 c2 ∙ ap (opt_of q) l1;
      element = ap (opt_of p) (sym m1) ∙ d1 d2 ∙ ap (opt_of q) n1;
    }

fields-alike : (p q : Str) (f g : C.Field.Field) → SameNumbers f g → SameTexts p q f g → field_of p f None ≡ field_of q g None
fields-alike p q f g n t = λ x. record {
  name = t.name x;
  kind = t.kind x;
  typ = t.typ x;
  element = t.element x;
  count = n.count x;
  rows = n.rows x;
  cols = n.cols x;
  size = n.size x;
  key = None;
}

-- a field is in its 33 bytes
field_cut : (l : Str) → field_at (take 33 l) ≡ field_at l
unfolding opt_text_at
field_cut l =
    let t = text_same (take 33 l) l in
    let n = number_same (take 33 l) l in
    let d : (i : ℕ) → i < 33 → get_or (take 33 l) i 0 ≡ get_or l i 0 = λ i h. get_or-take 33 l i 0 h in
    let name = t 1 (λ i g h. d i (omega arith)) in
    let kind = t 4 (λ i g h. d i (omega arith)) in
    let typ = t 7 (λ i g h. d i (omega arith)) in
    let element = t 10 (λ i g h. d i (omega arith)) in
    let count = n 13 (λ i g h. d i (omega arith)) in
    let rows = n 18 (λ i g h. d i (omega arith)) in
    let cols = n 23 (λ i g h. d i (omega arith)) in
    let size = n 28 (λ i g h. d i (omega arith)) in
    λ x. record {
      name = name x;
      kind = kind x;
      type_name = opt_text (typ x);
      element = opt_text (element x);
      count = count x;
      rows = rows x;
      cols = cols x;
      size = size x;
    }

part_cut : (s : Str) (a : ℕ) → field_at (take (a + 33 - a) (drop a s)) ≡ field_at (drop a s)
part_cut s a = let e : a + 33 - a ≡ 33 = omega arith in ap (λ (n : ℕ). field_at (take n (drop a s))) e ∙ field_cut (drop a s)

pub alike-there : (s p b q : Str) (a c : ℕ) (t u : Bool) → (t ≡ true → SameNumbers (field_at (take (a + 33 - a) (drop a s))) (field_at (take (c + 33 - c) (drop c b)))) → t ≡ true
    → (u ≡ true → SameTexts p q (field_at (take (a + 33 - a) (drop a s))) (field_at (take (c + 33 - c) (drop c b)))) → u ≡ true
    → field_of p (field_at (drop a s)) None ≡ field_of q (field_at (drop c b)) None
alike-there s p b q a c t u f g h i =
    ap (λ (v : C.Field.Field). field_of p v None) (sym (part_cut s a)) ∙ fields-alike p q _ _ (f g) (h i) ∙ ap (λ (v : C.Field.Field). field_of q v None) (part_cut b c)

-- a field's command is in the stream
pub field-inside : (s : Str) (at : ℕ) (r : Option (ℕ × ℕ)) (a k : ℕ) → SoughtFrom s Keys 11 at r → r ≡ Some (a, k) → a + 33 ≤ length s
unfolding width_of width_with operands widths wide bytes
field-inside s at r a k i m = let h = sought-stands s Keys 11 at r i a k m in let e = h.after in let l = h.within in omega arith

-- a field -------------------------------------------------------------------------------------------------------------------

beq-self : (b : Bool) → beq b b ≡ true
beq-self true = refl
beq-self false = refl

place-self : (x : FieldLayout) → eq_place x x ≡ true
unfolding eq_place
place-self x = rw (eqs-refl x.name, eq-eqb x.offset x.offset refl, eq-eqb x.size x.size refl, eqs-refl x.described, beq-self x.padding)

heads-same : (x : FieldLayout) (l m : List FieldLayout) → eq_places (x ∷ l) (x ∷ m) ≡ eq_places l m
unfolding eq_places
heads-same x l m = ap (λ (t : Bool). t && eq_places l m) (place-self x)

module _ (s p : Str) (z : List ℕ) (at : ℕ) (b q : Str) (y : List ℕ) (to : ℕ) (r : Option (ℕ × ℕ)) (i : SoughtFrom s Keys 11 at r) (a k : ℕ) (m : r ≡ Some (a, k))
    (r₀ : Option (ℕ × ℕ)) (i₀ : SoughtFrom b Keys 11 to r₀) (a₀ k₀ : ℕ) (m₀ : r₀ ≡ Some (a₀, k₀)) where
  abbrev F : C.Field.Field
  F = field_at (drop a s)

  abbrev G : C.Field.Field
  G = field_at (drop a₀ b)

  module _ (size : ℕ) (u : size ≡ get_or z (k / 33) 0) (u₀ : size ≡ get_or y (k₀ / 33) 0) (e : field_of p F None ≡ field_of q G None) where
    one_place : (offset : ℕ) → place_at p (drop a s) offset size ≡ place_at q (drop a₀ b) offset size
    one_place offset =
        let n : text_of p F.name ≡ text_of q G.name = ap (λ (x : Field). x.name) e in
        let t : shape_type (field_of p F None) ≡ shape_type (field_of q G None) = ap shape_type e in
        let g : is_padding (kind_of (text_of p F.kind)) ≡ is_padding (kind_of (text_of q G.kind)) = ap (λ (x : Field). is_padding (kind_of x.kind)) e in
        λ x. record { name = n x; offset = offset; size = size; described = t x; padding = g x }

    begins : (w : List Scalar) (offset end : ℕ) → end ≡ capped (offset + size) → SoundCursor (rec s p w) z (cursor_at (Body (place at)) offset) → SoundCursor (rec b q w) y (cursor_at (Body (place to)) offset)
        → Begins (rec s p w) z (rec b q w) y (name_at s p a) (cursor_at (Body (place at)) offset) (cursor_at (Body (place to)) offset) (cursor_at (Body (place k)) end) (cursor_at (Body (place k₀)) end)
    unfolding name_at
    begins w offset end v d d₀ =
        record {
          field = place_at p (drop a s) offset size;
          named = refl;
          first = place-passed s p w z at offset r i a k m size end u v d;
          second = place-passed b q w y to offset r₀ i₀ a₀ k₀ m₀ size end u₀ v d₀
              ∙ ap (λ (x : FieldLayout). x ∷ places_from (rec b q w) (cursor_at (Body (place k₀)) end)) (sym (one_place offset));
          sound = place-sound s p w z at offset r i a k m size end u v d;
          sound₀ = place-sound b q w y to offset r₀ i₀ a₀ k₀ m₀ size end u₀ v d₀;
        }

  pub alike_next : (x x₀ : ℕ) (t : Bool) → x ≡ get_or z (k / 33) 0 → x₀ ≡ get_or y (k₀ / 33) 0 → x ≡ x₀ → (t ≡ true → field_of p (field_at (drop a s)) None ≡ field_of q (field_at (drop a₀ b)) None) → t ≡ true
      → AlikeNext s p z at b q y to a k k₀ x
  alike_next x x₀ t u u₀ o h e =
      record {
        passed = begins x u (o ∙ u₀) (h e);
        sought = subst (λ (f : Option (ℕ × ℕ)). SoughtFrom s Keys 11 at f) m i;
        sized = u;
      }

pub body_is : (at offset : ℕ) (k : Cursor) → k ≡ place at → cursor_at (Body k) offset ≡ cursor_at (Body (place at)) offset
body_is at offset k e = ap (λ (x : Cursor). cursor_at (Body x) offset) e

-- a pass over fields -----------------------------------------------------------------------------------------------------------

module _ (s p : Str) (z : List ℕ) (b q : Str) (y : List ℕ) (c c₀ : SpotCursor) where
  pub alike-here : AlikePassed s p z b q y c c₀ c c₀
  alike-here = record { same = λ w d d₀. refl; sound = λ w d d₀. d; sound₀ = λ w d d₀. d₀ }

  module _ (at to offset : ℕ) (o : AlikePassed s p z b q y c c₀ (cursor_at (Body (place at)) offset) (cursor_at (Body (place to)) offset)) where
    pub alike-so-far : (d d₀ : SpotCursor) → d ≡ cursor_at (Body (place at)) offset → d₀ ≡ cursor_at (Body (place to)) offset → AlikePassed s p z b q y c c₀ d d₀
    alike-so-far d d₀ e f = rw (e, f) o

    pub alike-on : (t : Option (ℕ × ℕ × ℕ × ℕ)) (a k l size e : ℕ) → AlikeFrom s p z at b q y to t → t ≡ Some (a, k, l, size) → e ≡ capped (offset + size)
        → AlikePassed s p z b q y c c₀ (cursor_at (Body (place k)) e) (cursor_at (Body (place l)) e)
    alike-on t a k l size e f m v =
        let n = subst (λ (x : Option (ℕ × ℕ × ℕ × ℕ)). AlikeFrom s p z at b q y to x) m f in
        record {
          same = λ w d d₀.
              let h = n.passed w offset e v (o.sound w d d₀) (o.sound₀ w d d₀) in
              o.same w d d₀ ∙ ap₂ eq_places h.first h.second ∙ heads-same h.field _ _;
          sound = λ w d d₀. (n.passed w offset e v (o.sound w d d₀) (o.sound₀ w d d₀)).sound;
          sound₀ = λ w d d₀. (n.passed w offset e v (o.sound w d d₀) (o.sound₀ w d d₀)).sound₀;
        }

  -- of cursors at the record's fields only the places count
  pub alike-bodies : (k l : Cursor) (d d₀ : SpotCursor) → c.ahead ≡ Body k → c₀.ahead ≡ Body l → c.offset ≡ c₀.offset
      → AlikePassed s p z b q y (cursor_at (Body (place k.at)) c.offset) (cursor_at (Body (place l.at)) c.offset) d d₀ → AlikePassed s p z b q y c c₀ d d₀
  unfolding places_from
  alike-bodies k l d d₀ m n e o =
      subst (λ (h : Ahead). AlikePassed s p z b q y (cursor_at h c.offset) c₀ d d₀) (sym m)
      (subst (λ (h : Ahead). AlikePassed s p z b q y (cursor_at (Body k) c.offset) (cursor_at h c₀.offset) d d₀) (sym n)
      (subst (λ (x : ℕ). AlikePassed s p z b q y (cursor_at (Body k) c.offset) (cursor_at (Body l) x) d d₀) e
      (record {
        same = λ w f f₀. o.same w (record { sizes = f.sizes; ends = f.ends }) (record { sizes = f₀.sizes; ends = f₀.ends });
        sound = λ w f f₀. o.sound w (record { sizes = f.sizes; ends = f.ends }) (record { sizes = f₀.sizes; ends = f₀.ends });
        sound₀ = λ w f f₀. o.sound₀ w (record { sizes = f.sizes; ends = f.ends }) (record { sizes = f₀.sizes; ends = f₀.ends });
      })))

pub alike-nearer : (s p : Str) (z : List ℕ) (at : ℕ) (b q : Str) (y : List ℕ) (to : ℕ) (t : Option (ℕ × ℕ × ℕ × ℕ)) (a k l size : ℕ) → AlikeFrom s p z at b q y to t → t ≡ Some (a, k, l, size) → length s - k < length s - at
alike-nearer s p z at b q y to t a k l size f m = sought-nearer s Keys 11 at (Some (a, k)) (subst (λ (x : Option (ℕ × ℕ × ℕ × ℕ)). AlikeFrom s p z at b q y to x) m f).sought a k refl

module _ (s p : Str) (z : List ℕ) (b q : Str) (y : List ℕ) (c c₀ d d₀ : SpotCursor) (w : List Scalar) (f : SoundCursor (rec s p w) z c) (f₀ : SoundCursor (rec b q w) y c₀) (o : AlikePassed s p z b q y c c₀ d d₀) where
  pub ahead-sound : SoundCursor (rec s p w) z d
  ahead-sound = o.sound w f f₀

  pub ahead-sound₀ : SoundCursor (rec b q w) y d₀
  ahead-sound₀ = o.sound₀ w f f₀

  pub ahead-same : (t : Bool) → t ≡ eq_places (places_from (rec s p w) d) (places_from (rec b q w) d₀) → t ≡ eq_places (places_from (rec s p w) c) (places_from (rec b q w) c₀)
  ahead-same t e = e ∙ sym (o.same w f f₀)
