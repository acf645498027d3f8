-- The fields of types compared with one another, and looked up by name. p is the first pool and q the second. Assumes nothing.
use Rattle.std.specs.Prelude.{Option, Some, None}
use Prim.Native.Nat.{ℕ, suc, ◌+◌, ◌≤◌, ◌<◌}
use mathlib.Core.Path.{◌≡◌, refl, sym, ap, ap₂, subst, ◌∙◌}
use mathlib.Core.List.{List, [], ◌∷◌, ◌++◌}
use mathlib.Core.Bool.{Bool, true, false, ◌&&◌, not, and-true, and-false, false≢true, beq}
use native.Mathlib.Omega.{arith}
use borrow.Author.Tests.{eq-eqb, not-true, not-false}
use lib.ListN.{length, take, drop}
use lib.Seq.{take_at}
use Rattle.record.specs.Base.{Str, bytes, eqs, or_else, decimal}
use Rattle.record.specs.Stretch.{text_of}
use Rattle.record.specs.Scalars.{Scalar}
use Rattle.record.specs.Shapes.{FieldLayout, places}
use Rattle.record.specs.Seek.{SoughtFrom}
use Rattle.record.specs.Fill.{fronted}
use Rattle.record.specs.Write.{largest, Puts}
use Rattle.record.specs.Lists.{opt_of}
use Rattle.record.specs.Describe.{described_as}
use Rattle.record.specs.Reading.{Rec, rec, schema_of}
use Rattle.record.specs.declared.text.Text.{Text}
use Rattle.record.specs.declared.describe.Description.{Description}
use Rattle.record.specs.declared.describe.Description.TheVariants.{Named, Array}
use Rattle.record.specs.declared.command.Cursor.{Cursor}
use Rattle.record.specs.declared.seek.Between.TheVariants.{Keys}
use Rattle.record.proofs.Basics.{eqs→eq, eqs-refl}
use Rattle.record.proofs.ListLaws.{find_none, find-hit, find-miss}
use Rattle.record.specs.Listings.{field_list}
use Rattle.record.proofs.ListingLaws.{listing-over}
use Rattle.record.proofs.StepLaws.{fields-over-now}
use Rattle.record.proofs.WriterLaws.{puts-exact, puts-front}
use Rattle.layout.specs.Handles.{layout_of}
use Rattle.layout.specs.Table.{Typed}
use Rattle.layout.specs.Spots.{spot_of, fields_ahead, places_from, spots_left, SoundCursor, step_left, SpotsFrom, TypeSpots, OthersPassed}
use Rattle.layout.specs.declared.spots.Spot.{Spot}
use Rattle.layout.specs.declared.spots.Ahead.{Ahead}
use Rattle.layout.specs.declared.spots.Ahead.TheVariants.{Body}
use Rattle.layout.specs.declared.spots.SpotCursor.{SpotCursor}
use Rattle.layout.proofs.SpotLaws.{spots-over-now, spots-now, spots-sound}
use Rattle.definition.specs.Fields.{place_in, eq_place, eq_places}
use Rattle.compare.specs.Layouts.{spot_found}
use Rattle.definition.proofs.Same.{eq_place→eq}

-- descriptions --------------------------------------------------------------------------------------------------------------

-- what is put at the front of a buffer that holds it is read back
pub read_back : {out xs after : Str} {r n : ℕ} → Puts out 0 xs after r → r ≤ n → length out ≡ n → n < largest → take r after ≡ xs
unfolding fronted
read_back {out} {xs} {after} {r} p h l m =
    let e : r ≡ length xs = puts-exact p (omega arith) ∙ omega arith in
    let q : after ≡ xs ++ drop (length xs) out = puts-front p (omega arith) in
    ap₂ take e q ∙ take_at xs (drop (length xs) out) (length xs) refl

pub same-described : (p q : Str) (d e : Description) {a b a' b' : Str} {m n : ℕ} (t : Bool) → Puts a 0 (described_as p d) a' m → m ≤ 0 + 559 → length a ≡ 559
    → Puts b 0 (described_as q e) b' n → n ≤ 0 + 559 → length b ≡ 559 → t ≡ eqs (take m a') (take n b') → t ≡ eqs (described_as p d) (described_as q e)
same-described p q d e t f g h i j k z = z ∙ ap₂ eqs (read_back f (omega arith) h (omega arith)) (read_back i (omega arith) k (omega arith))

-- descriptions that are alike part by part
pub same_word : (x y u v : Str) (b : Bool) → x ≡ u → y ≡ v → b ≡ eqs x y → b ≡ true → u ≡ v
same_word x y u v b f g h e = sym f ∙ eqs→eq x y (sym h ∙ e) ∙ g

module _ (p q : Str) where
  module _ (a b : Option Text) where
    pub words-absent : a ≡ None → b ≡ None → opt_of p a ≡ opt_of q b
    words-absent m n = rw (m, n)

    pub words-given : (t u : Text) (x y : Str) (r : Bool) → a ≡ Some t → b ≡ Some u → x ≡ text_of p t → y ≡ text_of q u → r ≡ eqs x y → r ≡ true → opt_of p a ≡ opt_of q b
    words-given t u x y r m n f g h e = rw (m, n) (ap Some (same_word x y (text_of p t) (text_of q u) r f g h e))

  module _ (d e : Description) where
    pub named-alike : (k n l m : Text) (x y u v : Str) (b c : Bool) → d ≡ Named k n → e ≡ Named l m → x ≡ text_of p k → y ≡ text_of q l → b ≡ eqs x y → b ≡ true
        → u ≡ text_of p n → v ≡ text_of q m → c ≡ eqs u v → c ≡ true → described_as p d ≡ described_as q e
    named-alike k n l m x y u v b c i j f g h t f2 g2 h2 t2 =
        rw (i, j) (ap₂ (λ (z w : Str). z ++ (32 ∷ w)) (same_word x y (text_of p k) (text_of q l) b f g h t) (same_word u v (text_of p n) (text_of q m) c f2 g2 h2 t2))

    pub array-alike : (k l : Text) (a b : Option Text) (n m : ℕ) (x y : Str) (r c : Bool) → d ≡ Array k a n → e ≡ Array l b m → n ≡ m → x ≡ text_of p k → y ≡ text_of q l → r ≡ eqs x y → r ≡ true
        → (c ≡ true → opt_of p a ≡ opt_of q b) → c ≡ true → described_as p d ≡ described_as q e
    array-alike k l a b n m x y r c i j o f g h t z t2 =
        rw (i, j, o) (ap₂ (λ (v : Str) (w : Option Str). v ++ (32 ∷ or_else w (bytes "u8") ++ bytes " x " ++ decimal m)) (same_word x y (text_of p k) (text_of q l) r f g h t) (z t2))

pub ruleset words-laws = (words-absent, words-given)

pub ruleset alike-laws = (named-alike, array-alike)

pub alike_same : (p q : Str) (d e : Description) (b : Bool) → (b ≡ true → described_as p d ≡ described_as q e) → b ≡ true → b ≡ eqs (described_as p d) (described_as q e)
alike_same p q d e b f t = t ∙ sym (eqs-refl (described_as p d)) ∙ ap (eqs (described_as p d)) (f t)

-- one field ----------------------------------------------------------------------------------------------------------------

not-self : (t u : Bool) → not t ≡ u → t ≡ not u
not-self true u h = ap not h
not-self false u h = ap not h

other-true : (t : Bool) → (t ≡ true → ⊥) → false ≡ t
other-true true h = absurd (h refl)
other-true false h = refl

module _ (p q : Str) (x y : Spot) where
  abbrev is : FieldLayout
  is = spot_of p x

  abbrev was : FieldLayout
  was = spot_of q y

  other : (is ≡ was → ⊥) → false ≡ eq_place is was
  other h = other-true (eq_place is was) (λ e. h (eq_place→eq is was e))

  pub spot-moved : (x.offset ≡ y.offset → ⊥) → false ≡ eq_place is was
  spot-moved h = other (λ e. h (ap (λ (a : FieldLayout). a.offset) e))

  pub spot-resized : (x.size ≡ y.size → ⊥) → false ≡ eq_place is was
  spot-resized h = other (λ e. h (ap (λ (a : FieldLayout). a.size) e))

  pub spot-repadded : not (beq x.padding y.padding) ≡ true → false ≡ eq_place is was
  unfolding eq_place
  spot-repadded h = rw (not-self (beq x.padding y.padding) true h, and-false)

  module _ (u v : Str) (b : Bool) (f : u ≡ text_of p x.name) (g : v ≡ text_of q y.name) (h : b ≡ eqs u v) where
    pub spot-renamed : b ≡ false → false ≡ eq_place is was
    spot-renamed e = other (λ (i : is ≡ was). false≢true (sym e ∙ h ∙ ap (eqs u) (g ∙ sym (ap (λ (a : FieldLayout). a.name) i) ∙ sym f) ∙ eqs-refl u))

    pub spot-same : (t : Bool) → b ≡ true → x.offset ≡ y.offset → x.size ≡ y.size → not (beq x.padding y.padding) ≡ false
        → t ≡ eqs (described_as p x.described) (described_as q y.described) → t ≡ eq_place is was
    unfolding eq_place
    spot-same t e i j k d =
        rw (← f, ← g, ← h, e, eq-eqb x.offset y.offset i, eq-eqb x.size y.size j, ← d, not-self (beq x.padding y.padding) false k, and-true)

-- the fields of two types ----------------------------------------------------------------------------------------------------

-- the fields from two cursors on agree so far: they are the same where those still ahead are
pub record Agreed (r r₀ : Rec) (z z₀ : List ℕ) (v v₀ c c₀ : SpotCursor) : Type 0 where
  pub sound : SoundCursor r z c
  pub sound₀ : SoundCursor r₀ z₀ c₀
  pub same : eq_places (places_from r v) (places_from r₀ v₀) ≡ eq_places (places_from r c) (places_from r₀ c₀)

pub agreed-start : (r r₀ : Rec) (z z₀ : List ℕ) (c c₀ : SpotCursor) → SoundCursor r z c → SoundCursor r₀ z₀ c₀ → Agreed r r₀ z z₀ c c₀ c c₀
agreed-start r r₀ z z₀ c c₀ d d₀ = record { sound = d; sound₀ = d₀; same = refl }

module _ (s p b q : Str) (w : List Scalar) (z z₀ : List ℕ) (v v₀ c c₀ : SpotCursor) where
  abbrev R : Rec
  R = rec s p w

  abbrev R₀ : Rec
  R₀ = rec b q w

  module _ (a : Agreed R R₀ z z₀ v v₀ c c₀) (o o₀ : Option (Spot × SpotCursor)) (f : SpotsFrom R z c o) (f₀ : SpotsFrom R₀ z₀ c₀ o₀) where
    abbrev all : Bool
    all = eq_places (places_from R v) (places_from R₀ v₀)

    pub agreed-end : o ≡ None → o₀ ≡ None → true ≡ all
    unfolding eq_places
    agreed-end m m₀ = sym (a.same ∙ ap₂ eq_places (spots-over-now s p w z c o f a.sound m) (spots-over-now b q w z₀ c₀ o₀ f₀ a.sound₀ m₀))

    pub agreed-fewer : (y : Spot) (k₀ : SpotCursor) → o ≡ None → o₀ ≡ Some (y, k₀) → false ≡ all
    unfolding eq_places
    agreed-fewer y k₀ m m₀ = sym (a.same ∙ ap₂ eq_places (spots-over-now s p w z c o f a.sound m) (spots-now b q w z₀ c₀ o₀ f₀ y k₀ m₀ a.sound₀))

    module _ (x : Spot) (k : SpotCursor) (m : o ≡ Some (x, k)) where
      pub agreed-more : o₀ ≡ None → false ≡ all
      unfolding eq_places
      agreed-more m₀ = sym (a.same ∙ ap₂ eq_places (spots-now s p w z c o f x k m a.sound) (spots-over-now b q w z₀ c₀ o₀ f₀ a.sound₀ m₀))

      module _ (y : Spot) (k₀ : SpotCursor) (m₀ : o₀ ≡ Some (y, k₀)) (t : Bool) (e : t ≡ eq_place (spot_of p x) (spot_of q y)) where
        next : all ≡ (t && eq_places (places_from R k) (places_from R₀ k₀))
        unfolding eq_places
        next =
            a.same ∙ ap₂ eq_places (spots-now s p w z c o f x k m a.sound) (spots-now b q w z₀ c₀ o₀ f₀ y k₀ m₀ a.sound₀)
            ∙ ap (λ (i : Bool). i && eq_places (places_from R k) (places_from R₀ k₀)) (sym e)

        pub agreed-other : not t ≡ true → false ≡ all
        agreed-other g = sym (next ∙ ap (λ (i : Bool). i && eq_places (places_from R k) (places_from R₀ k₀)) (not-true t g))

        pub agreed-on : not t ≡ false → Agreed R R₀ z z₀ v v₀ k k₀
        agreed-on g =
            record {
              sound = spots-sound s p w z c o f x k m a.sound;
              sound₀ = spots-sound b q w z₀ c₀ o₀ f₀ y k₀ m₀ a.sound₀;
              same = next ∙ ap (λ (i : Bool). i && eq_places (places_from R k) (places_from R₀ k₀)) (not-false t g);
            }

-- all fields of two types, by their handles
pub fields-same : (s p b q : Str) (w : List Scalar) (h h₀ : ℕ) (c c₀ : SpotCursor) (t : Bool) → Typed s h → Typed b h₀ → TypeSpots s h c → TypeSpots b h₀ c₀
    → t ≡ eq_places (places_from (rec s p w) c) (places_from (rec b q w) c₀) → t ≡ eq_places (layout_of (rec s p w) h).fields (layout_of (rec b q w) h₀).fields
fields-same s p b q w h h₀ c c₀ t y y₀ k k₀ e = e ∙ ap₂ eq_places (k.list y p w) (k₀.list y₀ q w)

-- types without fields ------------------------------------------------------------------------------------------------------

pub bare-is : (s : Str) (c : SpotCursor) (k : Cursor) (r : Option (ℕ × ℕ)) → c.ahead ≡ Body k → SoughtFrom s Keys 11 k.at r → r ≡ None → (p : Str) (w : List Scalar) → places_from (rec s p w) c ≡ []
unfolding places_from places
bare-is s c k r m i n p w =
    ap (λ (a : Ahead). places (schema_of (rec s p w)) c.offset (fields_ahead s p a)) m
    ∙ ap (places (schema_of (rec s p w)) c.offset) (fields-over-now s k.at None (listing-over field_list s k.at r i n) p refl)

pub bare-both : (s b : Str) (c c₀ : SpotCursor) (t u : Bool) → (t ≡ true → (p : Str) (w : List Scalar) → places_from (rec s p w) c ≡ []) → t ≡ true
    → (u ≡ true → (p : Str) (w : List Scalar) → places_from (rec b p w) c₀ ≡ []) → u ≡ true → (p q : Str) (w : List Scalar) → eq_places (places_from (rec s p w) c) (places_from (rec b q w) c₀) ≡ true
unfolding eq_places
bare-both s b c c₀ t u f e g h p q w = ap₂ eq_places (f e p w) (g h q w)

pub bare-same : (s p b q : Str) (w : List Scalar) (h h₀ : ℕ) (c c₀ : SpotCursor) (t : Bool) → Typed s h → Typed b h₀ → TypeSpots s h c → TypeSpots b h₀ c₀
    → (t ≡ true → (p₀ q₀ : Str) (w₀ : List Scalar) → eq_places (places_from (rec s p₀ w₀) c) (places_from (rec b q₀ w₀) c₀) ≡ true) → t ≡ true
    → true ≡ eq_places (layout_of (rec s p w) h).fields (layout_of (rec b q w) h₀).fields
bare-same s p b q w h h₀ c c₀ t y y₀ k k₀ f e = fields-same s p b q w h h₀ c c₀ true y y₀ k k₀ (sym (f e p q w))

-- a field by its name ------------------------------------------------------------------------------------------------------

-- none of that name so far: the first is the first of those still ahead
pub record PlaceOn (r : Rec) (z : List ℕ) (n : Str) (a c : SpotCursor) : Type 0 where
  pub sound : SoundCursor r z c
  pub same : place_in n (places_from r a) ≡ place_in n (places_from r c)

pub place_here : (r : Rec) (z : List ℕ) (n : Str) (c : SpotCursor) → SoundCursor r z c → PlaceOn r z n c c
place_here r z n c d = record { sound = d; same = refl }

module _ (s p : Str) (w : List Scalar) (z : List ℕ) (n : Str) (a l c : SpotCursor) (j : PlaceOn (rec s p w) z n a l) (v : OthersPassed s p z n l c) (o : Option (Spot × SpotCursor)) (f : SpotsFrom (rec s p w) z c o) where
  i : PlaceOn (rec s p w) z n a c
  unfolding place_in
  i = record { sound = v.sound w j.sound; same = j.same ∙ v.same w j.sound }

  pub place-nearer : (x : Spot) (k : SpotCursor) → o ≡ Some (x, k) → spots_left s k < spots_left s l
  place-nearer x k m = let h : suc (spots_left s k) ≤ spots_left s c = subst (λ (y : Option (Spot × SpotCursor)). step_left s y ≤ spots_left s c) m f.left in let g = v.left in omega arith

  pub place_none : o ≡ None → place_in n (places_from (rec s p w) a) ≡ spot_found p None
  unfolding place_in
  place_none m = i.same ∙ find_none (λ (g : FieldLayout). eqs g.name n) _ (spots-over-now s p w z c o f i.sound m)

  module _ (x : Spot) (k : SpotCursor) (m : o ≡ Some (x, k)) (u : Str) (b : Bool) (g : u ≡ text_of p x.name) (h : b ≡ eqs u n) where
    pub place-hit : b ≡ true → place_in n (places_from (rec s p w) a) ≡ spot_found p (Some (x, k))
    unfolding place_in
    place-hit e = i.same ∙ find-hit (λ (g : FieldLayout). eqs g.name n) _ _ _ (spots-now s p w z c o f x k m i.sound) (ap (λ (y : Str). eqs y n) (sym g) ∙ sym h ∙ e)

    pub place-miss : b ≡ false → PlaceOn (rec s p w) z n a k
    unfolding place_in
    place-miss e =
        record {
          sound = spots-sound s p w z c o f x k m i.sound;
          same = i.same ∙ find-miss (λ (g : FieldLayout). eqs g.name n) _ _ _ (spots-now s p w z c o f x k m i.sound) (ap (λ (y : Str). eqs y n) (sym g) ∙ sym h ∙ e);
        }
