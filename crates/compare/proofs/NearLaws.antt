-- The table of where to look for the fields of a type: while it is filled, and what it says of a name. Assumes nothing.
use Rattle.std.specs.Prelude.{Option, Some}
use Prim.Native.Nat.{ℕ, ◌+◌, ◌-◌, ◌*◌, ◌/◌, ◌%◌, ◌≤◌, ◌<◌}
use mathlib.Core.Path.{◌≡◌, refl, sym, ap, subst, ◌∙◌}
use mathlib.Core.List.{List}
use mathlib.Core.Bool.{Bool, true, false, false≢true}
use native.Mathlib.Omega.{arith}
use lib.Dec.{eqb}
use borrow.Author.Tests.{eqb-true, eqb-false}
use lib.ListN.{length, get_or, take, set, length-take, get_or-eq_default}
use lib.Seq.{get_or-set_same, get_or-set_other}
use Rattle.record.specs.Base.{Str, eqs}
use Rattle.record.specs.Scalars.{Scalar}
use Rattle.record.specs.Shapes.{capped}
use Rattle.record.specs.Commands.{place}
use Rattle.record.specs.Marks.{Clear}
use Rattle.record.specs.Reading.{rec}
use Rattle.record.specs.Seek.{SoughtFrom}
use Rattle.record.specs.declared.command.Cursor.{Cursor}
use Rattle.record.specs.declared.seek.Between.TheVariants.{Keys}
use Rattle.record.proofs.Basics.{eqs→eq}
use Rattle.layout.specs.Handles.{name_at}
use Rattle.layout.specs.Spots.{cursor_at, places_from, SoundCursor, OthersPassed}
use Rattle.layout.specs.declared.spots.Ahead.TheVariants.{Body}
use Rattle.layout.specs.declared.spots.SpotCursor.{SpotCursor}
use Rattle.layout.proofs.SpotLaws.{others-here, others-body, others-on}
use Rattle.definition.specs.Fields.{place_in}
use Rattle.compare.specs.Layouts.{spot_found}
use Rattle.compare.specs.Near.{key_of, cursor_in, Near, NearPut, NearSpot}
use Rattle.layout.specs.declared.spots.Spot.{Spot}

-- the number of a name --------------------------------------------------------------------------------------------------------

pub end_short : (n : Str) (k x y : ℕ) → length n < k → y ≡ get_or n 0 0 → x ≡ y → x ≡ get_or n (length n - k) 0
end_short n k x y h e f = let q : 0 ≡ length n - k = omega arith in f ∙ e ∙ ap (λ (i : ℕ). get_or n i 0) q

pub key-is : (n : Str) (a b c d x : ℕ) → a ≡ get_or n (length n - 1) 0 → b ≡ get_or n (length n - 2) 0 → c ≡ get_or n (length n - 3) 0 → x ≡ get_or n 0 0 → d ≡ x
    → (a + 10 * b + 100 * c + 331 * d) % 1024 ≡ key_of n
unfolding key_of
key-is n a b c d x e f g h i = rw (e, f, g, i, h)

-- an entry --------------------------------------------------------------------------------------------------------------------

module _ (t : List ℕ) (k at offset : ℕ) where
  pub put-kept : (get_or t k 0 ≡ 0 → ⊥) → NearPut t k at offset t true
  put-kept h = record { others = λ i g. refl; kept = λ g. refl; put = λ z. absurd (h z); done = λ e. h }

  pub put_refused : get_or t k 0 ≡ 0 → NearPut t k at offset t false
  put_refused h = record { others = λ i g. refl; kept = λ g. refl; put = λ z n. absurd (n z); done = λ e. absurd (false≢true e) }

  entry_read : at < 65536 → cursor_in (offset * 65536 + at + 1) ≡ cursor_at (Body (place at)) offset
  unfolding cursor_in
  entry_read h =
      let a : (offset * 65536 + at + 1 - 1) % 65536 ≡ at = omega arith in
      let b : (offset * 65536 + at + 1 - 1) / 65536 ≡ offset = omega arith in
      rw (a, b)

  pub put-new : k < length t → get_or t k 0 ≡ 0 → at < 65536 → NearPut t k at offset (set t k (offset * 65536 + at + 1)) true
  put-new l h a =
      let x : ℕ = offset * 65536 + at + 1 in
      let e : get_or (set t k x) k 0 ≡ x = get_or-set_same t k x 0 l in
      record {
        others = λ i g. get_or-set_other t k i x 0 g;
        kept = λ g. absurd (g h);
        put = λ z n. ap cursor_in e ∙ entry_read a;
        done = λ i z. omega arith;
      }

-- the table while it is filled ---------------------------------------------------------------------------------------------------

-- a name that has no entry is of no field so far
pub record Nearing (s p : Str) (z : List ℕ) (c : SpotCursor) (o t : List ℕ) (at offset : ℕ) : Type 0 where
  pub near : Near s p z c t
  pub passed : (n : Str) → get_or t (key_of n) 0 ≡ 0 → OthersPassed s p z n c (cursor_at (Body (place at)) offset)
  pub room : 1024 ≤ length t
  pub long : length t ≡ length o

pub near-clear : (s p : Str) (z : List ℕ) (c : SpotCursor) (t : List ℕ) → Clear t → Near s p z c t
near-clear s p z c t h = record { right = λ n g. absurd (g (h.none (key_of n))) }

pub nearing-start : (s p : Str) (z : List ℕ) (t : List ℕ) (at offset : ℕ) → Clear t → 1024 ≤ length t → Nearing s p z (cursor_at (Body (place at)) offset) t t at offset
nearing-start s p z t at offset h l = record { near = near-clear s p z _ t h; passed = λ n g. others-here s p z n _; room = l; long = refl }

pub nearing-end : (s p : Str) (z : List ℕ) (c : SpotCursor) (o t : List ℕ) (at offset : ℕ) → Nearing s p z c o t at offset → Near s p z c t
nearing-end s p z c o t at offset i = i.near

pub key-inside : (s p : Str) (z : List ℕ) (c : SpotCursor) (o t : List ℕ) (at offset k : ℕ) → Nearing s p z c o t at offset → k < 1024 → k < length t
key-inside s p z c o t at offset k i h = let l = i.room in omega arith

module _ (s p : Str) (z : List ℕ) (c : SpotCursor) (w t : List ℕ) (at offset : ℕ) (i : Nearing s p z c w t at offset) (k : ℕ) (u : List ℕ) (b : Bool) (f : NearPut t k at offset u b) where
  pub nearing-put : Near s p z c u
  nearing-put = record { right = λ n g. go n (eqb (key_of n) k) refl g }
    where
      old : (n : Str) → get_or u (key_of n) 0 ≡ get_or t (key_of n) 0 → (get_or u (key_of n) 0 ≡ 0 → ⊥) → OthersPassed s p z n c (cursor_in (get_or u (key_of n) 0))
      old n e g = subst (λ (x : ℕ). OthersPassed s p z n c (cursor_in x)) (sym e) (i.near.right n (λ h. g (e ∙ h)))

      new : (n : Str) → key_of n ≡ k → (x : Bool) → eqb (get_or t (key_of n) 0) 0 ≡ x → (get_or u (key_of n) 0 ≡ 0 → ⊥) → OthersPassed s p z n c (cursor_in (get_or u (key_of n) 0))
      new n q true e g =
          let h : get_or t (key_of n) 0 ≡ 0 = eqb-true (get_or t (key_of n) 0) 0 e in
          let v : get_or t k 0 ≡ 0 = ap (λ (j : ℕ). get_or t j 0) (sym q) ∙ h in
          let y : cursor_in (get_or u (key_of n) 0) ≡ cursor_at (Body (place at)) offset = ap (λ (j : ℕ). cursor_in (get_or u j 0)) q ∙ f.put v (λ m. g (ap (λ (j : ℕ). get_or u j 0) q ∙ m)) in
          subst (λ (d : SpotCursor). OthersPassed s p z n c d) (sym y) (i.passed n h)
      new n q false e g =
          let h : (get_or t k 0 ≡ 0) → ⊥ = λ m. eqb-false (get_or t (key_of n) 0) 0 e (ap (λ (j : ℕ). get_or t j 0) q ∙ m) in
          old n (ap (λ (j : ℕ). get_or u j 0) q ∙ f.kept h ∙ ap (λ (j : ℕ). get_or t j 0) (sym q)) g

      go : (n : Str) (x : Bool) → eqb (key_of n) k ≡ x → (get_or u (key_of n) 0 ≡ 0 → ⊥) → OthersPassed s p z n c (cursor_in (get_or u (key_of n) 0))
      go n true e g = new n (eqb-true (key_of n) k e) (eqb (get_or t (key_of n) 0) 0) refl g
      go n false e g = old n (f.others (key_of n) (eqb-false (key_of n) k e)) g

  module _ (r : Option (ℕ × ℕ)) (j : SoughtFrom s Keys 11 at r) (a o : ℕ) (m : r ≡ Some (a, o)) (x : Str) (v : x ≡ name_at s p a) (y : k ≡ key_of x) where
    -- a name without an entry is another than the field's
    other : b ≡ true → (n : Str) → get_or u (key_of n) 0 ≡ 0 → (same : Bool) → eqs x n ≡ same → same ≡ false
    other d n g false e = refl
    other d n g true e = absurd (f.done d (ap (λ (l : ℕ). get_or u l 0) (y ∙ ap key_of (eqs→eq x n e)) ∙ g))

    pub nearing-on : (h e : ℕ) → b ≡ true → h ≡ get_or z (o / 33) 0 → e ≡ capped (offset + h) → length u ≡ length t → Nearing s p z c w u o e
    nearing-on h e d q v0 l =
        record {
          near = nearing-put;
          passed = λ n g.
              let k0 : (key_of n ≡ k) → ⊥ = λ e2. f.done d (ap (λ (i2 : ℕ). get_or u i2 0) (sym e2) ∙ g) in
              let g0 : get_or t (key_of n) 0 ≡ 0 = sym (f.others (key_of n) k0) ∙ g in
              others-on s p z n c at offset (i.passed n g0) r j a o m x (eqs x n) h e v refl (other d n g (eqs x n) refl) q v0;
          room = let l0 = i.room in omega arith;
          long = l ∙ i.long;
        }

-- of a cursor at the record's fields only the place counts
pub near-body : (s p : Str) (z : List ℕ) (c : SpotCursor) (t : List ℕ) (k : Cursor) → c.ahead ≡ Body k → Near s p z (cursor_at (Body (place k.at)) c.offset) t → Near s p z c t
near-body s p z c t k m f = record { right = λ n g. others-body s p z n c k (cursor_in (get_or t (key_of n) 0)) m (f.right n g) }

pub near_none : (s p : Str) (z : List ℕ) (c : SpotCursor) (t : List ℕ) → Near s p z c (take 0 t)
near_none s p z c t = record { right = λ n g. absurd (g (get_or-eq_default (take 0 t) 0 {n = key_of n} (let e = length-take 0 t in omega arith))) }

-- a look-up ------------------------------------------------------------------------------------------------------------------------

module _ (t : List ℕ) (c : SpotCursor) (n : Str) (k e : ℕ) (y : k ≡ key_of n) (g : e ≡ get_or t k 0) where
  pub near-entry : (e ≡ 0 → ⊥) → (at : ℕ) (d : SpotCursor) → at ≡ (e - 1) % 65536 → d ≡ cursor_at (Body (place at)) ((e - 1) / 65536) → NearSpot t c n d
  unfolding cursor_in
  near-entry h at d i j =
      let q : e ≡ get_or t (key_of n) 0 = g ∙ ap (λ (l : ℕ). get_or t l 0) y in
      record {
        passed = λ s p z f.
            rw (j, i, q) (f.right n (λ m. h (q ∙ m)));
      }

module _ (s p : Str) (w : List Scalar) (z : List ℕ) (c : SpotCursor) (t : List ℕ) (n : Str) (d : SpotCursor) (f : SoundCursor (rec s p w) z c) (g : Near s p z c t) (h : NearSpot t c n d) where
  pub near-sound : SoundCursor (rec s p w) z d
  near-sound = (h.passed s p z g).sound w f

  pub near-found : (r : Option (Spot × SpotCursor)) → place_in n (places_from (rec s p w) d) ≡ spot_found p r → place_in n (places_from (rec s p w) c) ≡ spot_found p r
  unfolding place_in
  near-found r e = (h.passed s p z g).same w f ∙ e
