-- A step along the fields of a type, and where the fields of a type begin. Assumes nothing.
use Rattle.std.specs.Prelude.{Option, Some, None}
use Prim.Native.Nat.{ℕ, suc, ◌+◌, ◌-◌, ◌/◌, ◌≤◌, ◌<◌}
use mathlib.Core.List.{List, [], ◌∷◌, ◌++◌, Memᴰ}
use mathlib.Core.Bool.{Bool, true, false}
use mathlib.Core.Path.{◌≡◌, refl, sym, ap, subst, ◌∙◌}
use native.Mathlib.Omega.{arith}
use types.Run.{OneOf}
use denote.Enum.Declared.{tag_of}
use lib.Dec.{eqb}
use borrow.Author.Tests.{eqb-true, eqb-false}
use lib.ListN.{length, get_or, drop}
use Rattle.record.specs.Base.{Str, bytes, eqs, or_else, or_option}
use Rattle.record.specs.Stretch.{text_of}
use Rattle.record.specs.Operands.{text_at}
use Rattle.record.specs.Scalars.{Scalar, prim_size}
use Rattle.record.specs.Schema.{Schema, Field}
use Rattle.record.specs.Commands.{operands, wide, widths, width_with, width_of, command_of, family_at, field_at, place, step_at}
use Rattle.record.specs.Seek.{after_at, SoughtFrom}
use Rattle.record.specs.declared.seek.Between.TheVariants.{Keys}
use Rattle.record.specs.Lists.{opt_of, field_of, family_of}
use Rattle.record.specs.Steps.{enums_at, field_key_at, fields_at, FieldsFrom, FieldPlace}
use Rattle.record.specs.Kind.{words, kind_among, kind_of, is_padding}
use Rattle.record.specs.Shapes.{enum_size, sized, scalar_size, size_as, shape_size, spaced, named, rest_as, shape_type, FieldLayout, place_of, places, plain, fam_prefix, limit, capped}
use Rattle.record.specs.Describe.{described_as, Shaped}
use Rattle.record.specs.Reading.{Rec, rec, schema_from, schema_of}
use Rattle.record.specs.declared.text.Text.{Text}
use Rattle.record.specs.declared.command as D
use Rattle.record.specs.declared.command.Cursor.{Cursor}
use Rattle.record.specs.declared.command.Command.{Command}
use Rattle.record.specs.declared.command.Command.TheVariants as C
use Rattle.record.specs.declared.describe.Shape.{Shape}
use Rattle.record.specs.declared.describe.Description.{Description}
use Rattle.record.specs.declared.describe.Description.TheVariants.{Discriminant, Length}
use Rattle.record.specs.contracts.command.Command.{the_type}
use Rattle.record.proofs.Stream.{step-found}
use Rattle.record.proofs.ListLaws.{byte_of, other, byte-is, operands-are, find-miss}
use Rattle.record.proofs.SeekLaws.{stepped as stepped-there, ended-there, sought-stands}
use Rattle.record.specs.Listings.{field_list}
use Rattle.record.proofs.ListingLaws.{listing-over, listing-next}
use Rattle.record.proofs.StepLaws.{fields-over-now, fields-now, fields-stand}
use Rattle.record.proofs.SizeLaws.{cap-low, keyless}
use Rattle.record.proofs.DescribeLaws.{described-keyless}
use Rattle.layout.specs.declared.spots.Spot.{Spot}
use Rattle.layout.specs.declared.spots.Ahead.{Ahead}
use Rattle.layout.specs.declared.spots.Ahead.TheVariants.{Front, Middle, Body}
use Rattle.layout.specs.declared.spots.SpotCursor.{SpotCursor}
use Rattle.layout.specs.Handles.{name_at, place_part, handle_fields, layout_of}
use Rattle.layout.specs.Table.{Typed}
use Rattle.layout.specs.FieldSizes.{field_size, SizesFrom}
use Rattle.layout.specs.Spots.{spot_of, place_at, cursor_at, body_place, fields_ahead, places_from, ahead_left, spots_left, SoundCursor, spots_of, SoundAfter, step_left, SpotsFrom, TypeSpots, OthersPassed}
use Rattle.layout.proofs.Along.{place-stands}
use Rattle.layout.proofs.Flattened.{own-fields, family-fields}
use Rattle.layout.proofs.Openings.{typed-place, typed-opened}
use Rattle.layout.proofs.FieldSizeLaws.{sizes-later, field-wide}
use Rattle.record.specs.Commands.{Step}

-- one field more ----------------------------------------------------------------------------------------------------------

-- what a cursor has ahead is a field and what another has ahead; where the first is sound the sizes are exact
module _ (r : Rec) (t : List ℕ) (a b : Ahead) (offset : ℕ) (f : Field) (more : fields_ahead r.stream r.pool a ≡ f ∷ fields_ahead r.stream r.pool b) where
  abbrev S : Schema
  S = schema_of r

  all-places : places_from r (cursor_at a offset) ≡ place_of S offset f ∷ places S (offset + shape_size S f) (fields_ahead r.stream r.pool b)
  unfolding places_from places
  all-places = ap (places S offset) more

  module _ (d : SoundCursor r t (cursor_at a offset)) where
    first_ends : offset + shape_size S f ≤ limit
    unfolding place_of
    first_ends = d.ends (place_of S offset f) (subst (λ (l : List FieldLayout). Memᴰ (place_of S offset f) l) (sym all-places) (Memᴰ.head refl))

    size_exact : (z : ℕ) → z ≡ capped (shape_size S f) → z ≡ shape_size S f
    size_exact z e = let l = first_ends in e ∙ sym (cap-low (shape_size S f) (omega arith))

    end-exact : (z e : ℕ) → z ≡ shape_size S f → e ≡ capped (offset + z) → e ≡ offset + shape_size S f
    end-exact z e q u = u ∙ ap (λ (n : ℕ). capped (offset + n)) q ∙ sym (cap-low (offset + shape_size S f) first_ends)

  module _ (z e : ℕ) (size : SoundCursor r t (cursor_at a offset) → z ≡ shape_size S f) (u : e ≡ capped (offset + z)) (kept : SizesFrom r t (body_place a) → SizesFrom r t (body_place b)) where
    one_more : SoundCursor r t (cursor_at a offset) → places_from r (cursor_at a offset) ≡ place_of S offset f ∷ places_from r (cursor_at b e)
    unfolding places_from
    one_more d = all-places ∙ ap (λ (n : ℕ). place_of S offset f ∷ places S n (fields_ahead r.stream r.pool b)) (sym (end-exact d z e (size d) u))

    still-sound : SoundCursor r t (cursor_at a offset) → SoundCursor r t (cursor_at b e)
    still-sound d = record { sizes = kept d.sizes; ends = λ g m. d.ends g (subst (λ (l : List FieldLayout). Memᴰ g l) (sym (one_more d)) (Memᴰ.tail m)) }

    stepped : (x : Spot) → (z ≡ shape_size S f → spot_of r.pool x ≡ place_of S offset f) → suc (ahead_left r.stream b) ≤ ahead_left r.stream a
        → SpotsFrom r t (cursor_at a offset) (Some (x, cursor_at b e))
    stepped x is left =
        record {
          list = λ d. one_more d ∙ ap (λ (y : FieldLayout). y ∷ places_from r (cursor_at b e)) (sym (is (size d)));
          sound = still-sound;
          left = left;
        }

-- the front of a family ---------------------------------------------------------------------------------------------------

module _ (s p : Str) (w : List Scalar) (t : List ℕ) (f : D.Family.Family) (k : Cursor) (offset : ℕ) where
  abbrev R : Rec
  R = rec s p w

  abbrev disc : Field
  disc = plain (text_of p f.discriminant_field) (bytes "enum") (text_of p f.discriminant_type)

  abbrev len : Field
  len = plain (text_of p f.param_len_field) (bytes "scalar") (or_else (opt_of p f.param_len_type) (bytes "u8"))

  disc-size : shape_size (schema_of R) disc ≡ sized (Some (text_of p f.discriminant_type)) (enum_size (enums_at s p 0)) 1
  unfolding shape_size plain kind_of kind_among words eqs bytes size_as schema_of schema_from enums_at
  disc-size = refl

  len-size : shape_size (schema_of R) len ≡ prim_size w (or_else (opt_of p f.param_len_type) (bytes "u8"))
  unfolding shape_size plain kind_of kind_among words eqs bytes size_as scalar_size or_else schema_of schema_from
  len-size = refl

  disc-place : (z : ℕ) → z ≡ shape_size (schema_of R) disc
      → ◌≡◌ {A = FieldLayout} (record { name = text_of p f.discriminant_field; offset = offset; size = z; described = described_as p (Discriminant f.discriminant_type); padding = false })
      (place_of (schema_of R) offset disc)
  unfolding place_of plain shape_type kind_of kind_among words eqs bytes rest_as named spaced or_option
  disc-place z e i = record { name = disc.name; offset = offset; size = e i; described = shape_type disc; padding = false }

  len-place : (z : ℕ) → z ≡ shape_size (schema_of R) len
      → ◌≡◌ {A = FieldLayout} (record { name = text_of p f.param_len_field; offset = offset; size = z; described = described_as p (Length f.param_len_type); padding = false })
      (place_of (schema_of R) offset len)
  unfolding place_of plain shape_type kind_of kind_among words eqs bytes rest_as named spaced or_option
  len-place z e i = record { name = len.name; offset = offset; size = e i; described = shape_type len; padding = false }

  pub spot-disc : (o : Option Text) (b z e : ℕ) → o ≡ Some f.discriminant_type → b ≡ sized (opt_of p o) (enum_size (enums_at s p 0)) 1 → z ≡ b → e ≡ capped (offset + z)
      → SpotsFrom R t (cursor_at (Front f k) offset)
      (Some (record { name = f.discriminant_field; offset = offset; size = z; described = Discriminant f.discriminant_type; padding = false }, cursor_at (Middle f k) e))
  unfolding fam_prefix
  spot-disc o b z e g h j u =
      stepped R t (Front f k) (Middle f k) offset disc refl z e
      (λ d. j ∙ h ∙ ap (λ (y : Option Text). sized (opt_of p y) (enum_size (enums_at s p 0)) 1) g ∙ sym disc-size) u (λ q. q) _ (disc-place z) (omega arith)

  pub spot-len : (b z e : ℕ) → b ≡ prim_size w (or_else (opt_of p f.param_len_type) (bytes "u8")) → z ≡ b → e ≡ capped (offset + z)
      → SpotsFrom R t (cursor_at (Middle f k) offset)
      (Some (record { name = f.param_len_field; offset = offset; size = z; described = Length f.param_len_type; padding = false }, cursor_at (Body k) e))
  unfolding fam_prefix
  spot-len b z e h j u = stepped R t (Middle f k) (Body k) offset len refl z e (λ d. j ∙ h ∙ sym len-size) u (λ q. q) _ (len-place z) (omega arith)

-- after a field the bound is less
pub field-nearer : (s : Str) (at : ℕ) (r : Option (ℕ × ℕ)) (i : SoughtFrom s Keys 11 at r) (a k : ℕ) → r ≡ Some (a, k) → (length s - k) / 33 < (length s - at) / 33
field-nearer s at r i a k m =
    let g = sought-stands s Keys 11 at r i a k m in
    let w = field-wide s Keys at r i a k m in
    let x = g.ahead in
    let y = g.within in
    omega arith

-- a field of the record ----------------------------------------------------------------------------------------------------

module _ (s p : Str) (w : List Scalar) (t : List ℕ) (k : Cursor) (offset : ℕ) (r : Step D.Field.Field) (h : FieldsFrom s k.at r) where
  spot-none : r ≡ None → SpotsFrom (rec s p w) t (cursor_at (Body k) offset) None
  unfolding places_from places
  spot-none m = record { list = λ d. rw (fields-over-now s k.at r h p m); sound = λ d. tt; left = omega arith }

  module _ (f : D.Field.Field) (j : Cursor) (m : r ≡ Some (f, j)) where
    abbrev T : Schema
    T = schema_of (rec s p w)

    abbrev whole : Field
    whole = field_of p f (field_key_at s p j.at)

    stands : FieldPlace s k.at f j
    stands = fields-stand s k.at r h f j m

    keyless-size : shape_size T whole ≡ shape_size T (field_of p f None)
    unfolding shape_size
    keyless-size = keyless (kind_of (text_of p f.kind)) T p f (field_key_at s p j.at)

    table-size : SizesFrom (rec s p w) t k.at → get_or t (j.at / 33) 0 ≡ capped (shape_size T whole)
    unfolding field_size
    table-size z =
        let y = stands in
        let l = y.past in
        let n : j.at - 33 + 33 ≡ j.at = omega arith in
        ap (λ (i : ℕ). get_or t (i / 33) 0) (sym n) ∙ z.sized (j.at - 33) y.in-stream y.number
        ∙ ap (λ (x : D.Field.Field). capped (shape_size T (field_of p x None))) (sym y.operands) ∙ ap capped (sym keyless-size)

    -- the table serves the fields after this one
    table_kept : SizesFrom (rec s p w) t k.at → SizesFrom (rec s p w) t j.at
    unfolding width_of width_with operands widths wide bytes
    table_kept z =
        let y = stands in
        let l = y.past in
        let g = place-stands s k.at (j.at - 33) y.in-stream in
        let q = step-found s (j.at - 33) g.command g.after g.step in
        let n : g.after.at ≡ j.at - 33 + 33 = q.wide ∙ ap (λ (i : ℕ). j.at - 33 + width_of i) y.number in
        let e : g.after.at ≡ j.at = omega arith in
        subst (λ (i : ℕ). SizesFrom (rec s p w) t i) e (sizes-later (rec s p w) t k.at (j.at - 33) g.command g.after z y.in-stream g.step)

    spot-field : (z e : ℕ) (d : Description) (b : Bool) → z ≡ get_or t (j.at / 33) 0 → described_as p d ≡ shape_type (field_of p f None) → b ≡ is_padding (kind_of (text_of p f.kind))
        → e ≡ capped (offset + z) → ahead_left s (Body j) < ahead_left s (Body k)
        → SpotsFrom (rec s p w) t (cursor_at (Body k) offset) (Some (record { name = f.name; offset = offset; size = z; described = d; padding = b }, cursor_at (Body j) e))
    unfolding place_of
    spot-field z e d b u v g i near =
        let more : fields_at s p k.at ≡ whole ∷ fields_at s p j.at = fields-now s k.at r h p f j m in
        let read : described_as p d ≡ shape_type whole = v ∙ sym (described-keyless p f (field_key_at s p j.at)) in
        stepped (rec s p w) t (Body k) (Body j) offset whole more z e (λ y. size_exact (rec s p w) t (Body k) (Body j) offset whole more y z (u ∙ table-size y.sizes)) i table_kept
        (record { name = f.name; offset = offset; size = z; described = d; padding = b })
        (λ y a. record { name = text_of p f.name; offset = offset; size = y a; described = read a; padding = g a }) (omega arith)

    -- a field that is passed over
    module _ (z e : ℕ) (u : z ≡ get_or t (j.at / 33) 0) (i : e ≡ capped (offset + z)) (d : SoundCursor (rec s p w) t (cursor_at (Body k) offset)) where
      more : fields_at s p k.at ≡ whole ∷ fields_at s p j.at
      more = fields-now s k.at r h p f j m

      sized-so : SoundCursor (rec s p w) t (cursor_at (Body k) offset) → z ≡ shape_size T whole
      sized-so y = size_exact (rec s p w) t (Body k) (Body j) offset whole more y z (u ∙ table-size y.sizes)

      field-passed : places_from (rec s p w) (cursor_at (Body k) offset) ≡ place_of T offset whole ∷ places_from (rec s p w) (cursor_at (Body j) e)
      field-passed = one_more (rec s p w) t (Body k) (Body j) offset whole more z e sized-so i table_kept d

      passed-sound : SoundCursor (rec s p w) t (cursor_at (Body j) e)
      passed-sound = still-sound (rec s p w) t (Body k) (Body j) offset whole more z e sized-so i table_kept d

-- a field by the place of its command
module _ (s p : Str) (w : List Scalar) (t : List ℕ) (k : Cursor) (offset : ℕ) (r : Option (ℕ × ℕ)) (i : SoughtFrom s Keys 11 k.at r) where
  pub no-spot : r ≡ None → SpotsFrom (rec s p w) t (cursor_at (Body k) offset) None
  no-spot m = spot-none s p w t k offset None (listing-over field_list s k.at r i m) refl

  pub spot-at : (a j : ℕ) (y : Str) (v : Shape) (x : Text) (c : Cursor) (z e : ℕ) → r ≡ Some (a, j) → y ≡ drop a s → Shaped p y v → x ≡ text_at y 1 → c ≡ place j → z ≡ get_or t (j / 33) 0
      → e ≡ capped (offset + z)
      → SpotsFrom (rec s p w) t (cursor_at (Body k) offset) (Some (record { name = x; offset = offset; size = z; described = v.described; padding = v.padding }, cursor_at (Body c) e))
  spot-at a j y v x c z e m d g n l u q =
      subst
      (λ (f : Text). SpotsFrom (rec s p w) t (cursor_at (Body k) offset) (Some (record { name = f; offset = offset; size = z; described = v.described; padding = v.padding }, cursor_at (Body c) e)))
      (sym n)
      (spot-field s p w t k offset (Some (field_at y, c)) (listing-next field_list s k.at r i a j m y (field_at y) c d refl l) (field_at y) c refl z e v.described v.padding
      (u ∙ ap (λ (f : Cursor). get_or t (f.at / 33) 0) (sym l)) g.text g.padded q
      (subst (λ (f : Cursor). ahead_left s (Body f) < ahead_left s (Body k)) (sym l) (field-nearer s k.at r i a j m)))

-- a field of which only the place is known
module _ (s p : Str) (w : List Scalar) (t : List ℕ) (at offset : ℕ) (r : Option (ℕ × ℕ)) (i : SoughtFrom s Keys 11 at r) (a k : ℕ) (m : r ≡ Some (a, k)) (z e : ℕ) (u : z ≡ get_or t (k / 33) 0)
    (v : e ≡ capped (offset + z)) (d : SoundCursor (rec s p w) t (cursor_at (Body (place at)) offset)) where
  abbrev found-field : D.Field.Field
  found-field = field_at (drop a s)

  found : FieldsFrom s at (Some (found-field, place k))
  found = listing-next field_list s at r i a k m (drop a s) found-field (place k) refl refl refl

  pub place-passed : places_from (rec s p w) (cursor_at (Body (place at)) offset) ≡ place_at p (drop a s) offset z ∷ places_from (rec s p w) (cursor_at (Body (place k)) e)
  unfolding place_of
  place-passed =
      let size = sized-so s p w t (place at) offset (Some (found-field, place k)) found found-field (place k) refl z e u v d d in
      field-passed s p w t (place at) offset (Some (found-field, place k)) found found-field (place k) refl z e u v d
      ∙ (λ j.
      record {
        name = text_of p found-field.name;
        offset = offset;
        size = sym size j;
        described = described-keyless p found-field (field_key_at s p k) j;
        padding = is_padding (kind_of (text_of p found-field.kind));
      }
      ∷ places_from (rec s p w) (cursor_at (Body (place k)) e))

  pub place-sound : SoundCursor (rec s p w) t (cursor_at (Body (place k)) e)
  place-sound = passed-sound s p w t (place at) offset (Some (found-field, place k)) found found-field (place k) refl z e u v d

-- a step from any cursor ---------------------------------------------------------------------------------------------------

module _ (s p : Str) (w : List Scalar) (t : List ℕ) (c : SpotCursor) (r : Option (Spot × SpotCursor)) where
  pub next-front : (f : D.Family.Family) (k : Cursor) → c.ahead ≡ Front f k → ((v : List Scalar) (u : List ℕ) → SpotsFrom (rec s p v) u (cursor_at (Front f k) c.offset) r) → SpotsFrom (rec s p w) t c r
  next-front f k m g = subst (λ (a : Ahead). SpotsFrom (rec s p w) t (cursor_at a c.offset) r) (sym m) (g w t)

  pub next-middle : (f : D.Family.Family) (k : Cursor) → c.ahead ≡ Middle f k → ((v : Str) (u : List ℕ) → SpotsFrom (rec v p w) u (cursor_at (Middle f k) c.offset) r) → SpotsFrom (rec s p w) t c r
  next-middle f k m g = subst (λ (a : Ahead). SpotsFrom (rec s p w) t (cursor_at a c.offset) r) (sym m) (g s t)

  pub next-body : (k : Cursor) → c.ahead ≡ Body k → ((v : List Scalar) → SpotsFrom (rec s p v) t (cursor_at (Body k) c.offset) r) → SpotsFrom (rec s p w) t c r
  next-body k m g = subst (λ (a : Ahead). SpotsFrom (rec s p w) t (cursor_at a c.offset) r) (sym m) (g w)

-- fields passed over by their names ---------------------------------------------------------------------------------------

module _ (s p : Str) (t : List ℕ) (n : Str) (c : SpotCursor) where
  pub others-here : OthersPassed s p t n c c
  others-here = record { same = λ w d. refl; sound = λ w d. d; left = omega arith }

  -- of a cursor at the record's fields only the place counts
  pub others-body : (k : Cursor) (d : SpotCursor) → c.ahead ≡ Body k → OthersPassed s p t n (cursor_at (Body (place k.at)) c.offset) d → OthersPassed s p t n c d
  unfolding places_from
  others-body k d m o = subst (λ (a : Ahead). OthersPassed s p t n (cursor_at a c.offset) d) (sym m) (record { same = λ w y. o.same w (record { sizes = y.sizes; ends = y.ends }); sound = λ w y. o.sound w (record { sizes = y.sizes; ends = y.ends }); left = o.left })

  module _ (at offset : ℕ) (o : OthersPassed s p t n c (cursor_at (Body (place at)) offset)) where
    pub others-so-far : (k : Cursor) → k ≡ place at → OthersPassed s p t n c (cursor_at (Body k) offset)
    others-so-far k e = subst (λ (x : Cursor). OthersPassed s p t n c (cursor_at (Body x) offset)) (sym e) o

    module _ (r : Option (ℕ × ℕ)) (i : SoughtFrom s Keys 11 at r) (a k : ℕ) (m : r ≡ Some (a, k)) where
      pub others-on : (x : Str) (b : Bool) (z e : ℕ) → x ≡ name_at s p a → b ≡ eqs x n → b ≡ false → z ≡ get_or t (k / 33) 0 → e ≡ capped (offset + z)
          → OthersPassed s p t n c (cursor_at (Body (place k)) e)
      unfolding name_at
      others-on x b z e g h q u v =
          let near = field-nearer s at r i a k m in
          let l = o.left in
          record {
            same = λ w d.
                o.same w d
                ∙ find-miss (λ (f : FieldLayout). eqs f.name n) _ _ _ (place-passed s p w t at offset r i a k m z e u v (o.sound w d)) (ap (λ (y : Str). eqs y n) (sym g) ∙ sym h ∙ q);
            sound = λ w d. place-sound s p w t at offset r i a k m z e u v (o.sound w d);
            left = omega arith;
          }

pub ruleset others-laws = (others-so-far, others-on)

-- where the fields of a type begin ------------------------------------------------------------------------------------------

module _ (s : Str) (h n : ℕ) (e : n ≡ place_part h) (r : Step D.Command.Command) (i : r ≡ step_at s n) where
  pub first-none : (k : Cursor) → r ≡ None → TypeSpots s h (cursor_at (Body k) 0)
  first-none k m = record { list = λ y. absurd (untyped y); sound = λ y. absurd (untyped y) }
    where
      untyped : Typed s h → ⊥
      untyped y =
          let g = place-stands s 0 (place_part h) (typed-place s h y) in
          let q : Some (g.command, g.after) ≡ None = sym g.step ∙ ap (step_at s) (sym e) ∙ sym i ∙ m in
          let z : ◌≡◌ {A = ℕ} 0 1 = cc in omega arith

  module _ (c : Command) (k : Cursor) (m : r ≡ Some (c, k)) where
    at-step : step_at s (place_part h) ≡ Some (c, k)
    at-step = ap (step_at s) (sym e) ∙ sym i ∙ m

    begins : (a : Ahead) → body_place a ≡ k.at → ((p : Str) → fields_ahead s p a ≡ handle_fields s p (place_part h)) → TypeSpots s h (cursor_at a 0)
    unfolding places_from layout_of
    begins a b f =
        record {
          list = λ y p w. ap (places (schema_of (rec s p w)) 0) (f p);
          sound = λ y p w t z x.
              record {
                sizes = subst (λ (j : ℕ). SizesFrom (rec s p w) t j) (sym b) (sizes-later (rec s p w) t 0 (place_part h) c k z (typed-place s h y) at-step);
                ends = λ g q. (x _ (typed-opened s h p y) g (subst (λ (fs : List Field). Memᴰ g (places (schema_of (rec s p w)) 0 fs)) (f p) q)).ends;
              };
        }

    family-is : (f : D.Family.Family) → c ≡ C.Family f → family_at (drop (place_part h) s) ≡ f
    unfolding command_of
    family-is f g = let q = operands-are s (place_part h) c k at-step 9 (ap byte_of g) ∙ g in cc

    pub first-family : (f : D.Family.Family) → c ≡ C.Family f → TypeSpots s h (cursor_at (Front f k) 0)
    first-family f g =
        begins (Front f k) refl
        (λ p. ap (λ (x : D.Family.Family). fam_prefix (family_of p x [] []) ++ fields_at s p k.at) (sym (family-is f g))
        ∙ sym (family-fields s p (place_part h) c k at-step (byte-is s (place_part h) c k at-step ∙ ap byte_of g)))

    pub first_body : OneOf (0 ∷ 1 ∷ 2 ∷ 3 ∷ 4 ∷ 5 ∷ 6 ∷ 7 ∷ 9 ∷ 10 ∷ 11 ∷ 12 ∷ 13 ∷ []) (tag_of the_type c) → TypeSpots s h (cursor_at (Body k) 0)
    first_body g =
        let ks : List ℕ = 0 ∷ 1 ∷ 2 ∷ 3 ∷ 4 ∷ 5 ∷ 6 ∷ 7 ∷ 9 ∷ 10 ∷ 11 ∷ 12 ∷ 13 ∷ [] in
        let b = byte-is s (place_part h) c k at-step in
        begins (Body k) refl (λ p. sym (own-fields s p (place_part h) c k at-step (λ q. other ks 8 c tt g (sym b ∙ q))))

-- where no family stands only the place after the command counts
module _ (s : Str) (h n : ℕ) (e : n ≡ place_part h) (b : ℕ) (j : b ≡ get_or s n 0) (after : ℕ) (i : after ≡ after_at s n) (k : Cursor) (l : k ≡ place after) where
  pub first_plain : (b ≡ 9 → ⊥) → TypeSpots s h (cursor_at (Body k) 0)
  first_plain g = go (eqb after 0) refl
    where
      go : (x : Bool) → eqb after 0 ≡ x → TypeSpots s h (cursor_at (Body k) 0)
      go true q = first-none s h n e (step_at s n) refl k (ended-there s n after i (eqb-true after 0 q))
      go false q =
          let t = stepped-there s n after i (eqb-false after 0 q) in
          let o : k.at ≡ t.cursor.at = ap (λ (x : Cursor). x.at) l ∙ sym t.to in
          let u : step_at s (place_part h) ≡ Some (t.command, t.cursor) = ap (step_at s) (sym e) ∙ t.step in
          begins s h n e (step_at s n) refl t.command t.cursor t.step (Body k) o
          (λ p.
          ap (fields_at s p) o
          ∙ sym (own-fields s p (place_part h) t.command t.cursor u (λ y. g (j ∙ ap (λ (x : ℕ). get_or s x 0) e ∙ y))))

pub ruleset first-laws = (first-none, first-family, first_body, first_plain)

-- for loops over the fields --------------------------------------------------------------------------------------------------

module _ (s p : Str) (w : List Scalar) (t : List ℕ) (c : SpotCursor) (o : Option (Spot × SpotCursor)) (f : SpotsFrom (rec s p w) t c o) where
  pub spots-over-now : SoundCursor (rec s p w) t c → o ≡ None → places_from (rec s p w) c ≡ []
  spots-over-now d m = f.list d ∙ ap (spots_of (rec s p w)) m

  module _ (x : Spot) (k : SpotCursor) (m : o ≡ Some (x, k)) where
    pub spots-now : SoundCursor (rec s p w) t c → places_from (rec s p w) c ≡ spot_of p x ∷ places_from (rec s p w) k
    spots-now d = f.list d ∙ ap (spots_of (rec s p w)) m

    -- the cursor after a step is sound too
    pub spots-sound : SoundCursor (rec s p w) t c → SoundCursor (rec s p w) t k
    spots-sound d = subst (λ (y : Option (Spot × SpotCursor)). SoundAfter (rec s p w) t y) m (f.sound d)

    pub spots-nearer : spots_left s k < spots_left s c
    spots-nearer = let h : suc (spots_left s k) ≤ spots_left s c = subst (λ (y : Option (Spot × SpotCursor)). step_left s y ≤ spots_left s c) m f.left in omega arith

-- how many fields there can be
pub spots-few : (s : Str) (c : SpotCursor) → spots_left s c ≤ length s / 33 + 2
spots-few s c = go c.ahead
  where
    go : (a : Ahead) → ahead_left s a ≤ length s / 33 + 2
    go (Front f k) = omega arith
    go (Middle f k) = omega arith
    go (Body k) = omega arith
