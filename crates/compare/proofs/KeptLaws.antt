-- Released fields that are passed over stand as they were. s and p are the current stream and pool, b and q the released ones. Assumes nothing.
use Rattle.std.specs.Prelude.{Option, Some}
use Prim.Native.Nat.{ℕ, ◌+◌, ◌-◌, ◌≤◌, ◌<◌}
use mathlib.Core.Path.{◌≡◌, refl, sym, ap, subst, ◌∙◌}
use mathlib.Core.List.{List, ◌∷◌}
use mathlib.Core.Bool.{Bool, true, false}
use native.Mathlib.Omega.{arith}
use lib.Dec.{eqb}
use borrow.Author.Tests.{eq-eqb, eqb-true}
use lib.ListN.{length, get_or, set}
use lib.Seq.{get_or-set_same, get_or-set_other}
use Rattle.record.specs.Base.{Str, eqs}
use Rattle.record.specs.Scalars.{Scalar}
use Rattle.record.specs.Commands.{place}
use Rattle.record.specs.Shapes.{FieldLayout, capped}
use Rattle.record.specs.Reading.{rec}
use Rattle.record.specs.declared.command.Cursor.{Cursor}
use Rattle.record.proofs.Basics.{eqs-refl, eqs→eq}
use Rattle.record.proofs.ListLaws.{find-hit}
use Rattle.layout.specs.Handles.{name_at}
use Rattle.layout.specs.Spots.{cursor_at, places_from, SoundCursor, OthersPassed}
use Rattle.layout.specs.declared.spots.Ahead.{Ahead}
use Rattle.layout.specs.declared.spots.Ahead.TheVariants.{Body}
use Rattle.layout.specs.declared.spots.SpotCursor.{SpotCursor}
use Rattle.layout.proofs.SpotLaws.{others-here, others-body, others-on}
use Rattle.definition.specs.Verdicts.{Verdict, pass}
use Rattle.definition.specs.Pass.{◌then◌, ensure, each, on_found}
use Rattle.definition.specs.Fields.{place_in, check_kept, check_place, check_places}
use Rattle.compare.proofs.AlikeLaws.{alike-here, alike-so-far, alike-on, alike-nearer}
use Rattle.compare.specs.Near.{key_of}
use Rattle.compare.specs.Alike.{AlikePassed, AlikeNext, AlikeFrom}
use Rattle.compare.specs.Kept.{PlacesKept, Noted, Noting, KeptNext, KeptFrom}

-- one field --------------------------------------------------------------------------------------------------------------------

-- a field against itself
kept_self : (n : Str) (x : FieldLayout) → check_kept n x x ≡ pass
unfolding check_kept ensure ◌then◌
kept_self n x = rw (eq-eqb x.offset x.offset refl, eq-eqb x.size x.size refl, eqs-refl x.described)

ensure-passed : (b : Bool) (v : Verdict) → v ≡ pass → ensure b v ≡ pass
unfolding ensure
ensure-passed true v e = refl
ensure-passed false v e = e

-- a field that is the first of its name
first-kept : (n : Str) (is : List FieldLayout) (x : FieldLayout) → place_in x.name is ≡ Some x → check_place n is x ≡ pass
unfolding check_place on_found
first-kept n is x e = ensure-passed x.padding _ (rw e (kept_self n x))

field-kept : (n : Str) (is l m : List FieldLayout) (x : FieldLayout) → l ≡ x ∷ m → place_in x.name is ≡ Some x → check_places n is l ≡ check_places n is m
unfolding check_places each ◌then◌
field-kept n is l m x e f = ap (each (check_place n is)) e ∙ ap (λ (v : Verdict). v then each (check_place n is) m) (first-kept n is x f)

-- the numbers of names -----------------------------------------------------------------------------------------------------------

module _ (t : List ℕ) (n : Str) (k : ℕ) (y : k ≡ key_of n) where
  pub note-seen : (get_or t k 0 ≡ 0 → ⊥) → Noting t n t
  note-seen h = record { noted = λ e. h (ap (λ (i : ℕ). get_or t i 0) y ∙ e); others = λ i g. refl }

  pub note-new : k < 1024 → 1024 ≤ length t → Noting t n (set t k 1)
  note-new l m =
      let e : get_or (set t k 1) (key_of n) 0 ≡ 1 = ap (λ (i : ℕ). get_or (set t k 1) i 0) (sym y) ∙ get_or-set_same t k 1 0 (omega arith) in
      record { noted = λ z. omega arith; others = λ i g. get_or-set_other t k i 1 0 (λ j. g (j ∙ y)) }

  pub note-none : get_or t k 0 ≡ 0 → get_or t (key_of n) 0 ≡ 0
  note-none h = ap (λ (i : ℕ). get_or t i 0) (sym y) ∙ h

module _ (s p : Str) (z : List ℕ) (c : SpotCursor) (t : List ℕ) (at offset : ℕ) where
  -- of a cursor at the record's fields only the place and the offset count
  pub first-there : (n : Str) (d : SpotCursor) (k : Cursor) → OthersPassed s p z n c d → d.ahead ≡ Body k → k.at ≡ at → eqb d.offset offset ≡ true
      → OthersPassed s p z n c (cursor_at (Body (place at)) offset)
  unfolding places_from
  first-there n d k o m e f =
      let g : OthersPassed s p z n c (cursor_at (Body k) d.offset) = subst (λ (a : Ahead). OthersPassed s p z n c (cursor_at a d.offset)) m o in
      let h : OthersPassed s p z n c (cursor_at (Body (place k.at)) d.offset) =
      record { same = λ w y. g.same w y; sound = λ w y. let x = g.sound w y in record { sizes = x.sizes; ends = x.ends }; left = g.left } in
      subst (λ (i : ℕ). OthersPassed s p z n c (cursor_at (Body (place at)) i)) (eqb-true d.offset offset f) (subst (λ (i : ℕ). OthersPassed s p z n c (cursor_at (Body (place i)) d.offset)) e h)

  pub first-new : (n : Str) (r : Bool) → Noted s p z c t at offset → (r ≡ false → get_or t (key_of n) 0 ≡ 0) → r ≡ false → OthersPassed s p z n c (cursor_at (Body (place at)) offset)
  first-new n r i h e = i.others n (h e)

-- at the front nothing is before a place
pub noted-front : (s p : Str) (z : List ℕ) (c : SpotCursor) (t : List ℕ) (k : Cursor) → c.ahead ≡ Body k → Noted s p z c t k.at c.offset
noted-front s p z c t k m = record { others = λ n g. others-body s p z n c k (cursor_at (Body (place k.at)) c.offset) m (others-here s p z n (cursor_at (Body (place k.at)) c.offset)) }

-- a pass over fields --------------------------------------------------------------------------------------------------------------

module _ (s p : Str) (z : List ℕ) (c : SpotCursor) (t : List ℕ) (at : ℕ) (b q : Str) (y : List ℕ) (to offset a k l size : ℕ) (i : Noted s p z c t at offset) (f : AlikeNext s p z at b q y to a k l size)
    (n : Str) (g : n ≡ name_at s p a) (u : List ℕ) (j : Noting t n u) where
  noted-on : (e : ℕ) → e ≡ capped (offset + size) → Noted s p z c u k e
  noted-on e v =
      record {
        others = λ m h.
            let d : (key_of m ≡ key_of n) → ⊥ = λ x. j.noted (ap (λ (o : ℕ). get_or u o 0) (sym x) ∙ h) in
            let o = i.others m (sym (j.others (key_of m) d) ∙ h) in
            others-on s p z m c at offset o (Some (a, k)) f.sought a k refl n (eqs n m) size e g refl (differ m d (eqs n m) refl) f.sized v;
      }
    where
      differ : (m : Str) → (key_of m ≡ key_of n → ⊥) → (same : Bool) → eqs n m ≡ same → same ≡ false
      differ m d false x = refl
      differ m d true x = absurd (d (ap key_of (sym (eqs→eq n m x))))

  module _ (o : OthersPassed s p z n c (cursor_at (Body (place at)) offset)) where
    kept_on : (e : ℕ) → e ≡ capped (offset + size) → PlacesKept s p z c b q y (cursor_at (Body (place to)) offset) (cursor_at (Body (place l)) e)
    unfolding place_in
    kept_on e v =
        record {
          same = λ w d d₀ m.
              let h = f.passed w offset e v (o.sound w d) d₀ in
              let x : h.field.name ≡ n = h.named ∙ sym g in
              field-kept m _ _ _ h.field h.second
              (ap (λ (k0 : Str). place_in k0 (places_from (rec s p w) c)) x ∙ o.same w d
              ∙ find-hit (λ (r : FieldLayout). eqs r.name n) _ h.field _ h.first (ap (λ (k0 : Str). eqs k0 n) x ∙ eqs-refl n));
          sound = λ w d d₀. (f.passed w offset e v (o.sound w d) d₀).sound₀;
        }

pub kept_next : (s p : Str) (z : List ℕ) (c : SpotCursor) (t : List ℕ) (at : ℕ) (b q : Str) (y : List ℕ) (to offset a k l size : ℕ) (r : Option (ℕ × ℕ × ℕ × ℕ)) (n : Str) (u : List ℕ) (v : Bool)
    → Noted s p z c t at offset → AlikeFrom s p z at b q y to r → r ≡ Some (a, k, l, size) → n ≡ name_at s p a → Noting t n u → (v ≡ true → OthersPassed s p z n c (cursor_at (Body (place at)) offset)) → v ≡ true
    → KeptNext s p z c u at b q y to offset a k l size
kept_next s p z c t at b q y to offset a k l size r n u v i f m g j o e =
    let h = subst (λ (x : Option (ℕ × ℕ × ℕ × ℕ)). AlikeFrom s p z at b q y to x) m f in
    record {
      kept = kept_on s p z c t at b q y to offset a k l size i h n g u j (o e);
      noted = noted-on s p z c t at b q y to offset a k l size i h n g u j;
      alike = h;
    }

-- the fields so far are alike and stand as they were
pub record Keeping (s p : Str) (z : List ℕ) (c : SpotCursor) (o t : List ℕ) (f : SpotCursor) (at : ℕ) (b q : Str) (y : List ℕ) (d : SpotCursor) (to offset : ℕ) : Type 0 where
  pub noted : Noted s p z c t at offset
  pub room : 1024 ≤ length t
  pub long : length t ≡ length o
  pub kept : PlacesKept s p z c b q y d (cursor_at (Body (place to)) offset)
  pub alike : AlikePassed s p z b q y f d (cursor_at (Body (place at)) offset) (cursor_at (Body (place to)) offset)

pub kept_here : (s p : Str) (z : List ℕ) (c : SpotCursor) (b q : Str) (y : List ℕ) (d : SpotCursor) → PlacesKept s p z c b q y d d
kept_here s p z c b q y d = record { same = λ w f g n. refl; sound = λ w f g. g }

pub keeping_start : (s p : Str) (z : List ℕ) (c : SpotCursor) (t : List ℕ) (at : ℕ) (b q : Str) (y : List ℕ) (to offset : ℕ) → Noted s p z c t at offset → 1024 ≤ length t
    → Keeping s p z c t t (cursor_at (Body (place at)) offset) at b q y (cursor_at (Body (place to)) offset) to offset
keeping_start s p z c t at b q y to offset i l = record { noted = i; room = l; long = refl; kept = kept_here s p z c b q y _; alike = alike-here s p z b q y _ _ }

module _ (s p : Str) (z : List ℕ) (c : SpotCursor) (o t : List ℕ) (v : SpotCursor) (at : ℕ) (b q : Str) (y : List ℕ) (d : SpotCursor) (to offset : ℕ) (i : Keeping s p z c o t v at b q y d to offset) where
  pub keeping-noted : Noted s p z c t at offset
  keeping-noted = i.noted

  pub keeping-room : 1024 ≤ length t
  keeping-room = i.room

  pub keeping-end : (e : SpotCursor) → e ≡ cursor_at (Body (place to)) offset → PlacesKept s p z c b q y d e
  keeping-end e m = rw m i.kept

  pub keeping-alike : (g e : SpotCursor) → g ≡ cursor_at (Body (place at)) offset → e ≡ cursor_at (Body (place to)) offset → AlikePassed s p z b q y v d g e
  keeping-alike g e h m = alike-so-far s p z b q y v d at to offset i.alike g e h m

  module _ (u : List ℕ) (r : Option (ℕ × ℕ × ℕ × ℕ)) (a k l size : ℕ) (f : KeptFrom s p z c u at b q y to offset r) (m : r ≡ Some (a, k, l, size)) where
    here : KeptNext s p z c u at b q y to offset a k l size
    here = subst (λ (x : Option (ℕ × ℕ × ℕ × ℕ)). KeptFrom s p z c u at b q y to offset x) m f

    pub keeping-on : (e : ℕ) → e ≡ capped (offset + size) → length u ≡ length t → Keeping s p z c o u v k b q y d l e
    keeping-on e x0 j =
        let x = here.kept e x0 in
        record {
          noted = here.noted e x0;
          room = let m0 = i.room in omega arith;
          long = j ∙ i.long;
          kept = record {
            same = λ w g h n. i.kept.same w g h n ∙ x.same w g (i.kept.sound w g h) n;
            sound = λ w g h. x.sound w g (i.kept.sound w g h);
          };
          alike = alike-on s p z b q y v d at to offset i.alike (Some (a, k, l, size)) a k l size e here.alike refl x0;
        }

    pub keeping-nearer : length s - k < length s - at
    keeping-nearer = alike-nearer s p z at b q y to (Some (a, k, l, size)) a k l size here.alike refl

-- of a cursor at the record's fields only the place counts
pub kept-body : (s p : Str) (z : List ℕ) (c : SpotCursor) (b q : Str) (y : List ℕ) (d e : SpotCursor) (l : Cursor) → d.ahead ≡ Body l → c.offset ≡ d.offset
    → PlacesKept s p z c b q y (cursor_at (Body (place l.at)) c.offset) e → PlacesKept s p z c b q y d e
unfolding places_from
kept-body s p z c b q y d e l m n o =
    subst (λ (h : Ahead). PlacesKept s p z c b q y (cursor_at h d.offset) e) (sym m)
    (subst (λ (x : ℕ). PlacesKept s p z c b q y (cursor_at (Body l) x) e) n
    (record {
      same = λ w f g. o.same w f (record { sizes = g.sizes; ends = g.ends });
      sound = λ w f g. o.sound w f (record { sizes = g.sizes; ends = g.ends });
    }))

module _ (s p : Str) (z : List ℕ) (c : SpotCursor) (b q : Str) (y : List ℕ) (d e : SpotCursor) (w : List Scalar) (f : SoundCursor (rec s p w) z c) (g : SoundCursor (rec b q w) y d) (o : PlacesKept s p z c b q y d e) where
  pub kept-sound : SoundCursor (rec b q w) y e
  kept-sound = o.sound w f g

  pub kept_same : (n : Str) (v : Verdict) → v ≡ check_places n (places_from (rec s p w) c) (places_from (rec b q w) e) → v ≡ check_places n (places_from (rec s p w) c) (places_from (rec b q w) d)
  kept_same n v h = h ∙ sym (o.same w f g n)
