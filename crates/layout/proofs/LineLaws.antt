-- The lines of the list, put one after the other. Assumes nothing.
use Rattle.std.specs.Prelude.{Option, Some, None}
use Prim.Native.Nat.{ℕ, suc, ◌+◌, ◌-◌, ◌*◌, ◌/◌, ◌≤◌, ◌<◌}
use mathlib.Core.List.{List, [], ◌∷◌, ◌++◌, map, append-nil, append_assoc, Memᴰ}
use mathlib.Core.Path.{◌≡◌, refl, sym, ap, ap₂, subst, ◌∙◌}
use native.Mathlib.Omega.{arith}
use native.Mathlib.Numerals.{add-one}
use native.Mathlib.Nat.{le_trans, add-le-add_iff_right, suc-mul, mul-le-mul, mul-le-mul_right}
use lib.ListN.{length, get_or, drop, length-append, drop_of_length-le}
use lib.Seq.{drop-cons}
use Rattle.record.specs.Base.{Str, bytes, decimal}
use Rattle.record.specs.Stretch.{text_of}
use Rattle.record.specs.Operands.{text_at}
use Rattle.record.specs.Commands.{field_at, place}
use Rattle.record.specs.Seek.{SoughtFrom}
use Rattle.record.specs.Lists.{field_of}
use Rattle.record.specs.Scalars.{Scalar}
use Rattle.record.specs.Fill.{joined}
use Rattle.record.specs.Shapes.{shape_type, FieldLayout, places, capped}
use Rattle.record.specs.Describe.{described_as}
use Rattle.record.specs.Reading.{Rec, rec, schema_of}
use Rattle.record.specs.Read.{Exact}
use Rattle.record.specs.Write.{largest, saturated, Puts}
use Rattle.record.specs.declared.text.Text.{Text}
use Rattle.record.specs.declared.command.Cursor.{Cursor}
use Rattle.record.specs.declared.seek.Between.TheVariants.{Keys}
use Rattle.record.proofs.WriterLaws.{puts_none, puts-past, puts_then, puts-as, puts-near, puts-small}
use Rattle.layout.specs.declared.names.TypeName.{TypeName}
use Rattle.layout.specs.declared.spots.Spot.{Spot}
use Rattle.layout.specs.declared.spots.Ahead.{Ahead}
use Rattle.layout.specs.declared.spots.Ahead.TheVariants.{Body}
use Rattle.layout.specs.declared.spots.SpotCursor.{SpotCursor}
use Rattle.layout.specs.Layout.{TypeLayout}
use Rattle.layout.specs.Listing.{line_of, lines_of, lines_of_all, list_of}
use Rattle.layout.specs.Handles.{layout_of}
use Rattle.layout.specs.Names.{name_of, stretches_of}
use Rattle.layout.specs.Table.{Typed}
use Rattle.layout.specs.FieldSizes.{SizesFrom, SizesTable}
use Rattle.layout.specs.Spots.{spot_of, place_at, cursor_at, body_place, fields_ahead, ahead_left, spots_left, places_from, SoundCursor, SpotsFrom, TypeSpots}
use Rattle.layout.specs.Lines.{LinesFrom, lines_most}
use Rattle.layout.specs.Tables.{Tables}
use Rattle.layout.proofs.NameLaws.{stretches-read}
use Rattle.layout.proofs.SpotLaws.{no-spot, place-passed, place-sound, field-nearer, spots-over-now, spots-now, spots-sound, spots-nearer, spots-few}

-- one line ----------------------------------------------------------------------------------------------------------------

module _ (p : Str) {out after : Str} {at r : ℕ} where
  pub put_four : {a b c d m₁ m₂ m₃ : Str} {q₁ q₂ q₃ : ℕ} → Puts out at a m₁ q₁ → Puts m₁ q₁ b m₂ q₂ → Puts m₂ q₂ c m₃ q₃ → Puts m₃ q₃ d after r
      → Puts out at (a ++ (b ++ (c ++ d))) after r
  put_four a b c d = puts_then a (puts_then b (puts_then c d))

  line-put : (t : Str) (f : FieldLayout) {m₁ m₂ m₃ : Str} {q₁ q₂ q₃ : ℕ} → Puts out at (t ++ (bytes "." ++ (f.name ++ bytes " "))) m₁ q₁
      → Puts m₁ q₁ (decimal f.offset ++ (bytes " " ++ (decimal f.size ++ bytes " "))) m₂ q₂ → Puts m₂ q₂ f.described m₃ q₃ → Puts m₃ q₃ (bytes "\n") after r
      → Puts out at (line_of t f) after r
  unfolding line_of joined
  line-put t f a b c d = puts-as (puts_then (puts_then a b) (puts_then c d)) (simp (append_assoc, append-nil))

  pub spot-put : (t : Str) (x : Spot) {m₁ m₂ m₃ : Str} {q₁ q₂ q₃ : ℕ} → Puts out at (t ++ (bytes "." ++ (text_of p x.name ++ bytes " "))) m₁ q₁
      → Puts m₁ q₁ (decimal x.offset ++ (bytes " " ++ (decimal x.size ++ bytes " "))) m₂ q₂ → Puts m₂ q₂ (described_as p x.described) m₃ q₃
      → Puts m₃ q₃ (bytes "\n") after r → Puts out at (line_of t (spot_of p x)) after r
  spot-put t x = line-put t (spot_of p x)

  -- of a field by the bytes that begin with its command
  pub field_put : (t y : Str) (x : Text) (offset size : ℕ) {m₁ m₂ m₃ : Str} {q₁ q₂ q₃ : ℕ} → x ≡ text_at y 1
      → Puts out at (t ++ (bytes "." ++ (text_of p x ++ bytes " "))) m₁ q₁ → Puts m₁ q₁ (decimal offset ++ (bytes " " ++ (decimal size ++ bytes " "))) m₂ q₂
      → Puts m₂ q₂ (shape_type (field_of p (field_at y) None)) m₃ q₃ → Puts m₃ q₃ (bytes "\n") after r → Puts out at (line_of t (place_at p y offset size)) after r
  field_put t y x offset size e a = line-put t (place_at p y offset size) (puts-as a (ap (λ (i : Text). t ++ (bytes "." ++ (text_of p i ++ bytes " "))) e))

-- its length
pub field-long : (p y : Str) (x : Text) (z : Str) (offset size a b c : ℕ) → x ≡ text_at y 1 → z ≡ text_of p x → a ≡ length (decimal offset) → b ≡ length (decimal size)
    → c ≡ length (shape_type (field_of p (field_at y) None)) → length z + (a + b) + c + 5 ≡ length (line_of [] (place_at p y offset size))
unfolding line_of joined bytes
field-long p y x z offset size a b c d e f g h = rw (h, f, g, e, d) (simp length-append (omega arith))

line-long : (t : Str) (f : FieldLayout) → length (line_of t f) ≡ length t + length (line_of [] f)
unfolding line_of joined
line-long t f = length-append t (line_of [] f)

-- a line that is only measured
line-measured : (t : Str) (f : FieldLayout) (n k end r : ℕ) → n ≡ length t → k ≡ length (line_of [] f) → r ≡ saturated (end + (n + k)) → Puts [] end (line_of t f) [] r
line-measured t f n k end r a b e =
    let l = line-long t f in
    let m : end + (n + k) ≡ end + length (line_of t f) = omega arith in
    puts-past [] (line_of t f) end r (omega arith) (omega arith) (e ∙ ap saturated m)

-- the lines of fields from a place on -------------------------------------------------------------------------------------

-- how far they have come: whatever puts the rest puts all from the first cursor on
pub record FieldLines (s p : Str) (z : List ℕ) (n : Str) (c₀ : SpotCursor) (out₀ : Str) (at : ℕ) (out : Str) (c : SpotCursor) (end : ℕ) : Type 0 where
  pub sound : (w : List Scalar) → SoundCursor (rec s p w) z c₀ → SoundCursor (rec s p w) z c
  pub rest : (w : List Scalar) → SoundCursor (rec s p w) z c₀ → {after : Str} {q : ℕ} → Puts out end (lines_of n (places_from (rec s p w) c)) after q
      → Puts out₀ at (lines_of n (places_from (rec s p w) c₀)) after q
  pub near : end + 2048 * spots_left s c ≤ at + 2048 * spots_left s c₀
  pub long : length out ≡ length out₀
  pub small : end ≤ largest

module _ (s p : Str) (z : List ℕ) (n : Str) where
  pub field-lines-start : (c : SpotCursor) (out : Str) (at : ℕ) → at ≤ largest → FieldLines s p z n c out at out c at
  field-lines-start c out at h = record { sound = λ w d. d; rest = λ w d x. x; near = omega arith; long = refl; small = h }

  module _ (c₀ : SpotCursor) (out₀ out : Str) (at end k offset : ℕ) (l : FieldLines s p z n c₀ out₀ at out (cursor_at (Body (place k)) offset) end) (r : Option (ℕ × ℕ)) (i : SoughtFrom s Keys 11 k r) where
    pub field-lines-end : r ≡ None → length out ≤ largest → LinesFrom s p z n c₀ out₀ at out end
    unfolding lines_of
    field-lines-end m f =
        let near = l.near in
        record {
          lines = λ w d.
              let e : lines_of n (places_from (rec s p w) (cursor_at (Body (place k)) offset)) ≡ [] =
              ap (lines_of n) (spots-over-now s p w z _ _ (no-spot s p w z (place k) offset r i m) (l.sound w d) refl) in
              l.rest w d (puts-as (puts_none out end l.small f) (sym e));
          near = omega arith;
        }

    pub field-lines-next : (a j : ℕ) (y : Str) (v e : ℕ) (out' : Str) (end' : ℕ) → r ≡ Some (a, j) → y ≡ drop a s → v ≡ get_or z (j / 33) 0 → e ≡ capped (offset + v)
        → Puts out end (line_of n (place_at p y offset v)) out' end' → end' ≤ end + 2048 → FieldLines s p z n c₀ out₀ at out' (cursor_at (Body (place j)) e) end'
    unfolding lines_of
    field-lines-next a j y v e out' end' m g u q x b =
        let near = l.near in
        let closer = field-nearer s k r i a j m in
        let line : Puts out end (line_of n (place_at p (drop a s) offset v)) out' end' = puts-as x (ap (λ (o : Str). line_of n (place_at p o offset v)) g) in
        record {
          sound = λ w d. place-sound s p w z k offset r i a j m v e u q (l.sound w d);
          rest = λ w d o. l.rest w d (puts-as (puts_then line o) (sym (ap (lines_of n) (place-passed s p w z k offset r i a j m v e u q (l.sound w d)))));
          near = omega arith;
          long = x.long ∙ l.long;
          small = puts-small x;
        }

  -- where the buffer is at its end it does not matter which it is
  pub lines-past : (c : SpotCursor) (out : Str) (at r : ℕ) → LinesFrom s p z n c [] at [] r → length out ≤ largest → length out ≤ at → LinesFrom s p z n c out at out r
  lines-past c out at r l f h = record { lines = λ w d. puts-past out _ at r f h (l.lines w d).end; near = l.near }

-- how far the measuring has come, under a name of which only the length is known
pub record Measuring (s p : Str) (z : List ℕ) (n : ℕ) (c₀ : SpotCursor) (at : ℕ) (c : SpotCursor) (end : ℕ) : Type 0 where
  pub short : n ≤ 512
  pub lines : (t : Str) → n ≡ length t → FieldLines s p z t c₀ [] at [] c end

module _ (s p : Str) (z : List ℕ) (n : ℕ) where
  pub measuring-start : (c : SpotCursor) (at : ℕ) → n ≤ 512 → at ≤ largest → Measuring s p z n c at c at
  measuring-start c at h k = record { short = h; lines = λ t e. field-lines-start s p z t c [] at k }

  module _ (c₀ : SpotCursor) (at end k offset : ℕ) (l : Measuring s p z n c₀ at (cursor_at (Body (place k)) offset) end) (r : Option (ℕ × ℕ)) (i : SoughtFrom s Keys 11 k r) where
    pub measuring-end : (t : Str) → n ≡ length t → r ≡ None → LinesFrom s p z t c₀ [] at [] end
    measuring-end t e m = field-lines-end s p z t c₀ [] [] at end k offset (l.lines t e) r i m (omega arith)

    pub measuring-next : (a j : ℕ) (y : Str) (v e u end' : ℕ) → r ≡ Some (a, j) → y ≡ drop a s → v ≡ get_or z (j / 33) 0 → e ≡ capped (offset + v)
        → u ≡ length (line_of [] (place_at p y offset v)) → u ≤ 859 → end' ≡ saturated (end + (n + u)) → Measuring s p z n c₀ at (cursor_at (Body (place j)) e) end'
    measuring-next a j y v e u end' m g b q h x w =
        let short = l.short in
        record {
          short = short;
          lines = λ t d.
              let line = line-measured t (place_at p y offset v) n u end end' d h w in
              let long = line-long t (place_at p y offset v) in
              let near = puts-near line in
              field-lines-next s p z t c₀ [] [] at end k offset (l.lines t d) r i a j y v e [] end' m g b q line (omega arith);
        }

-- the lines of a type -----------------------------------------------------------------------------------------------------

-- how far the lines of a type have come: whatever puts the rest puts the whole
pub record Lining (r : Rec) (z : List ℕ) (t : TypeLayout) (out₀ : Str) (at : ℕ) (out : Str) (c : SpotCursor) (end : ℕ) : Type 0 where
  pub sound : SoundCursor r z c
  pub rest : {after : Str} {q : ℕ} → Puts out end (lines_of t.name (places_from r c)) after q → Puts out₀ at (lines_of t.name t.fields) after q
  pub near : end + 2048 * spots_left r.stream c ≤ at + lines_most r.stream
  pub long : length out ≡ length out₀
  pub small : end ≤ largest

module _ (s p : Str) (w : List Scalar) (z : List ℕ) (h : ℕ) where
  abbrev R : Rec
  R = rec s p w

  abbrev T : TypeLayout
  T = layout_of R h

  pub lining-start : (out : Str) (at : ℕ) (c : SpotCursor) → at ≤ largest → Typed s h → SizesTable R z → Exact R → TypeSpots s h c → Lining R z T out at out c at
  lining-start out at c o a b e k =
      let m = spots-few s c in
      record { sound = k.sound a p w z b e; rest = λ x. puts-as x (ap (lines_of T.name) (k.list a p w)); near = omega arith; long = refl; small = o }

  module _ {out₀ out : Str} {at end : ℕ} {c : SpotCursor} (l : Lining R z T out₀ at out c end) where
    pub lining-end : (step : Option (Spot × SpotCursor)) → SpotsFrom R z c step → step ≡ None → length out ≤ largest → Puts out₀ at (lines_of T.name T.fields) out end × (end ≤ at + lines_most s)
    unfolding lines_of
    lining-end step n i f =
        let e : lines_of T.name (places_from R c) ≡ [] = ap (lines_of T.name) (spots-over-now s p w z c step n l.sound i) in
        let m = l.near in
        (l.rest (puts-as (puts_none out end l.small f) (sym e)), omega arith)

    -- at the fields of the record only the place counts
    module _ (n : TypeName) (k : Cursor) (after : Str) (q : ℕ) (e : n ≡ stretches_of s h) (m : c.ahead ≡ Body k)
        (f : LinesFrom s p z (name_of p n) (cursor_at (Body (place k.at)) c.offset) out end after q) where
      pub lining-body : Puts out₀ at (lines_of T.name T.fields) after q
      unfolding places_from layout_of
      lining-body =
          let v : name_of p n ≡ T.name = ap (name_of p) e ∙ stretches-read s p h in
          let same : places_from R c ≡ places_from R (cursor_at (Body (place k.at)) c.offset) = ap (λ (a : Ahead). places (schema_of R) c.offset (fields_ahead s p a)) m in
          let d : SoundCursor R z (cursor_at (Body (place k.at)) c.offset) =
          record {
            sizes = subst (λ (a : Ahead). SizesFrom R z (body_place a)) m l.sound.sizes;
            ends = λ x i. l.sound.ends x (subst (λ (y : List FieldLayout). Memᴰ x y) (sym same) i);
          }
          in
          l.rest (puts-as (f.lines w d) (ap₂ lines_of v (sym same)))

      pub body_near : q ≤ at + lines_most s
      body_near =
          let left : spots_left s c ≡ (length s - k.at) / 33 = ap (ahead_left s) m in
          let near = l.near in
          let close = f.near in
          omega arith

    pub lining-next : (n : TypeName) (x : Spot) (d : SpotCursor) (step : Option (Spot × SpotCursor)) {out' : Str} {end' : ℕ} → n ≡ stretches_of s h → step ≡ Some (x, d) → SpotsFrom R z c step
        → Puts out end (line_of (name_of p n) (spot_of p x)) out' end' → end' ≤ end + 2048 → Lining R z T out₀ at out' d end'
    unfolding lines_of layout_of
    lining-next n x d step {out'} {end'} e i f g k =
        let v : name_of p n ≡ T.name = ap (name_of p) e ∙ stretches-read s p h in
        let y : lines_of T.name (places_from R c) ≡ lines_of T.name (spot_of p x ∷ places_from R d) = ap (lines_of T.name) (spots-now s p w z c step f x d i l.sound) in
        let a : Puts out end (line_of T.name (spot_of p x)) out' end' = puts-as g (ap (λ (t : Str). line_of t (spot_of p x)) v) in
        let m = l.near in
        let o = spots-nearer s p w z c step f x d i in
        record { sound = spots-sound s p w z c step f x d i l.sound; rest = λ b. l.rest (puts-as (puts_then a b) (sym y)); near = omega arith; long = g.long ∙ l.long; small = puts-small g }

-- the lines of all types --------------------------------------------------------------------------------------------------

-- how far the lines of all types have come
pub record Listing (r : Rec) (t : List ℕ) (out₀ out : Str) (i end : ℕ) : Type 0 where
  pub rest : {after : Str} {q : ℕ} → Puts out end (lines_of_all (map (layout_of r) (drop i t))) after q → Puts out₀ 0 (lines_of_all (map (layout_of r) t)) after q
  pub near : end ≤ i * lines_most r.stream
  pub inside : i ≤ length t
  pub long : length out ≡ length out₀

pub drop-next : (t : List ℕ) (i : ℕ) → i < length t → drop i t ≡ get_or t i 0 ∷ drop (i + 1) t
drop-next t i h = let e : suc i ≡ i + 1 = omega arith in drop-cons t i 0 h ∙ ap (λ (n : ℕ). get_or t i 0 ∷ drop n t) e

one_further : (i w a b : ℕ) → a ≤ i * w → b ≤ a + w → b ≤ (i + 1) * w
one_further i w a b h k = rw (add-one, suc-mul) (le_trans k ((add-le-add_iff_right w).1 h))

module _ (r : Rec) (t z : List ℕ) (o : Tables r t z) where
  -- the lines of all types are of a length that the machine can count
  pub most-fits : (n : ℕ) → n ≤ length t → n * lines_most r.stream ≤ 1099511627776
  most-fits n h =
      let s = o.short in
      let f = o.few in
      let a : n ≤ 8192 = omega arith in
      let b : lines_most r.stream ≤ 2035712 = omega arith in
      le_trans (mul-le-mul a b) (omega arith)

  pub listing_start : (out : Str) → Listing r t out out 0 0
  listing_start out = record { rest = λ x. x; near = omega arith; inside = omega arith; long = refl }

  module _ {out₀ out : Str} {i end : ℕ} (l : Listing r t out₀ out i end) where
    pub listing-next : {out' : Str} {end' : ℕ} → i < length t → Puts out end (lines_of (layout_of r (get_or t i 0)).name (layout_of r (get_or t i 0)).fields) out' end'
        → end' ≤ end + lines_most r.stream → Listing r t out₀ out' (i + 1) end'
    unfolding lines_of_all
    listing-next {out'} {end'} h g k =
        let y : lines_of_all (map (layout_of r) (drop i t)) ≡ lines_of_all (map (layout_of r) (get_or t i 0 ∷ drop (i + 1) t)) = ap (λ (x : List ℕ). lines_of_all (map (layout_of r) x)) (drop-next t i h) in
        record { rest = λ x. l.rest (puts-as (puts_then g x) (sym y)); near = one_further i (lines_most r.stream) end end' l.near k; inside = omega arith; long = g.long ∙ l.long }

    pub listing-end : length t ≤ i → length out ≤ largest → Puts out₀ 0 (list_of (schema_of r)) out end × (end ≤ length t * lines_most r.stream) × (end ≤ 1099511627776)
    unfolding lines_of_all list_of
    listing-end h f =
        let e : lines_of_all (map (layout_of r) (drop i t)) ≡ [] = ap (λ (x : List ℕ). lines_of_all (map (layout_of r) x)) (drop_of_length-le t {i = i} h) in
        let n = l.inside in
        let k : end ≤ 1099511627776 = le_trans l.near (most-fits i n) in (
          puts-as (l.rest (puts-as (puts_none out end (omega arith) f) (sym e))) (ap lines_of_all (o.types.layouts r.scalars)),
          le_trans l.near (mul-le-mul_right (lines_most r.stream) n),
          k,
        )

-- what the lines of one type ask
pub type-premise : (r : Rec) (t z : List ℕ) (i : ℕ) → Tables r t z → i < length t → Typed r.stream (get_or t i 0) × SizesTable r z × Exact r
type-premise r t z i o h = (o.types.typed i h, o.sizes, o.exact)
