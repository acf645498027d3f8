-- W-214: a pair of records whose sections stand in another order is accepted exactly if the pair is. Assumes nothing.
use Rattle.std.specs.Prelude.{Option, Some, None}
use mathlib.Core.Path.{◌≡◌, refl, sym, ◌∙◌, ap, ap₂, subst}
use mathlib.Core.List.Memᴰ
use mathlib.Core.List.Permᴰ
use mathlib.Core.List.{List, [], ◌∷◌, ◌++◌, map, flatten, Permᴰ}
use mathlib.Core.Bool.{Bool, true, false, ◌&&◌, ◌||◌, cond}
use Prim.Native.Nat.{ℕ, ◌+◌, ◌≤◌}
use native.Mathlib.Omega.{arith}
use lib.Dec.{eqb, leb}
use lib.ListN.{length, drop, length-append}
use borrow.Author.Tests.{eqb-true}
use Rattle.record.specs.Base.{Str, any, find, bytes}
use Rattle.record.specs.Le.{u16_at}
use Rattle.record.specs.Operands.{text_at, opt_text, opt_text_at, flag_at}
use Rattle.record.specs.Scalars.{Scalar}
use Rattle.record.specs.Schema.{Schema, Field}
use Rattle.record.specs.Commands.{width_of, width_with, widths, wide, operands, family_at, start}
use Rattle.record.specs.Lists.{fields, family_of}
use Rattle.record.specs.Letters.{odd_letter}
use Rattle.record.specs.Shapes.{places, fam_prefix}
use Rattle.record.specs.Reading.{Rec, rec, schema_from, schema_of, Opened, opened_at, opened, large, vast, Reading, read, ok, parsed, stream_limit, pool_limit, vast_or, sizes_of, concluded, reading}
use Rattle.record.specs.declared.command.Parent.TheVariants.{NoParent}
use Rattle.record.specs.declared.refusal.Side.{Side}
use Rattle.record.specs.declared.refusal.Side.TheVariants.{Current, Released}
use Rattle.record.proofs.Accepted.{Accepted, accepting}
use Rattle.record.proofs.Accepted as A
use Rattle.definition.specs.Verdicts.{pass}
use Rattle.definition.specs.Pass.{all_of}
use Rattle.definition.specs.Compare.{compare}
use Rattle.definition.specs.Answer.{verdict_of, answered, check}
use Rattle.definition.specs.Sections.{number, stream_of, is_command, is_section, is_part, PartsMoved, as-it-is, parts-moved, Shuffled, Sectioned, Reordered, NoneTwice, CanBeRead, Accepts}
use Rattle.definition.proofs.Lists.{all-perm, perm-eq, perm-by, perm-append, flatten-map, perm-flat_map, shuffled-flat_map, shuffled-sym}
use Rattle.definition.proofs.LookUps.{any-perm, none_any, any-none-found}
use Rattle.definition.proofs.PermutedSchemas.{Permuted, places-found, none-twice}
use Rattle.definition.proofs.PermutedPasses.{compare-on}
use Rattle.definition.proofs.CommandStreams.{Whole, AllWhole, stream-whole, some_bytes, command_places, CommandsFrom, number-here, next_here, commands-run, cells, own-bytes, the_fields, fields-agree, the_schema, schema-run}
use Rattle.definition.proofs.Validity.{valid, parsed-valid, valid-parsed}
use Rattle.definition.proofs.SectionLists.{moved-sections, the_opened}
use Rattle.definition.proofs.SectionSchemas.{opened-perm, schema-permuted}
use Rattle.definition.proofs.ValidSections.{reordered-valid}
use Rattle.definition.proofs.Bytes.{accepted}

-- the commands of the stream ----------------------------------------------------------------------------------------------

-- its commands in another order, so as many bytes
moved-perm : (s t : List Str) → PartsMoved s t → Permᴰ s t
moved-perm s t (as-it-is e) = perm-eq e
moved-perm s t (parts-moved k x fs ps qs i j l p) =
    Permᴰ.cons refl (perm-append (Permᴰ.refl fs) (perm-by (flatten-map ps) (flatten-map qs) (perm-flat_map (λ (l : List Str). l) p)))

sections-perm : (secs others : List (List Str)) → Shuffled PartsMoved secs others → Permᴰ (flatten secs) (flatten others)
sections-perm secs others s =
    perm-by (flatten-map secs) (flatten-map others) (shuffled-flat_map (λ (l : List Str). l) (λ (l : List Str). l) moved-perm s)

stream-length : {xs ys : List Str} → Permᴰ xs ys → length (stream_of xs) ≡ length (stream_of ys)
unfolding stream_of
stream-length Permᴰ.nil = refl
stream-length (Permᴰ.cons {a = a} {b = b} {l₁ = l} {l₂ = k} e p) =
    length-append a (stream_of l) ∙ ap₂ (λ (x : Str) (n : ℕ). length x + n) e (stream-length p) ∙ sym (length-append b (stream_of k))
stream-length (Permᴰ.swap {a = a} {b = b} {a' = c} {b' = d} {l = l} e f) =
    let p = length-append a (b ++ stream_of l) in
    let q = length-append b (stream_of l) in
    let r = length-append c (d ++ stream_of l) in
    let s = length-append d (stream_of l) in
    let t = ap (λ (x : Str). length x) e in
    let u = ap (λ (x : Str). length x) f in
    omega arith
stream-length (Permᴰ.trans p q) = stream-length p ∙ stream-length q

long-enough : (xs : List Str) → AllWhole xs → length xs ≤ length (stream_of xs)
unfolding stream_of
long-enough [] c = omega arith
long-enough (x ∷ xs) c =
    let i = long-enough xs (λ z m. c z (Memᴰ.tail m)) in
    let j = some_bytes (c x (Memᴰ.head refl)) in
    let k = length-append x (stream_of xs) in
    omega arith

-- the types that a stream opens -------------------------------------------------------------------------------------------

opened-run : (s p : Str) (at : ℕ) (xs : List Str) → CommandsFrom s at xs → AllWhole xs
    → map (λ (o : Opened). o.fields) (opened s p (command_places at xs)) ≡ the_opened p xs
unfolding opened the_opened command_places opened_at cells text_at opt_text opt_text_at flag_at u16_at width_of width_with widths wide operands bytes
opened-run s p at [] h c = refl
opened-run s p at (x ∷ xs) h c =
    ap (λ (b : ℕ). named (cond (eqb b 9) (family-here ∷ opened s p ps) (cond (eqb b 8 || eqb b 10) (here ∷ opened s p ps) (opened s p ps))))
    (number-here s at x xs h y)
    ∙ pick (eqb (number x) 9) refl (eqb (number x) 8 || eqb (number x) 10)
    (fields-agree s p (at + length x) xs (next_here s at x xs h y) (λ z m. c z (Memᴰ.tail m)))
    (opened-run s p (at + length x) xs (next_here s at x xs h y) (λ z m. c z (Memᴰ.tail m)))
  where
    y : Whole x
    y = c x (Memᴰ.head refl)

    ps : List ℕ
    ps = command_places (at + length x) xs

    named : List Opened → List (List Field)
    named l = map (λ (o : Opened). o.fields) l

    here : Opened
    here = record { place = at; fields = fields s p ps }

    family-here : Opened
    family-here = record { place = at; fields = fam_prefix (family_of p (family_at (drop at s)) [] []) ++ fields s p ps }

    family : number x ≡ 9 → family_at (drop at s) ≡ family_at x
    family e = own-bytes 9 17 refl family_at (λ f t. refl) s at x xs h y e

    pick : (u : Bool) → eqb (number x) 9 ≡ u → (v : Bool) → fields s p ps ≡ the_fields p xs → named (opened s p ps) ≡ the_opened p xs
        → named (cond u (family-here ∷ opened s p ps) (cond v (here ∷ opened s p ps) (opened s p ps)))
        ≡ cond u ((fam_prefix (family_of p (family_at x) [] []) ++ the_fields p xs) ∷ the_opened p xs)
        (cond v (the_fields p xs ∷ the_opened p xs) (the_opened p xs))
    pick true q v f r = λ i. (fam_prefix (family_of p (family (eqb-true (number x) 9 q) i) [] []) ++ f i) ∷ r i
    pick false q true f r = ap₂ ◌∷◌ f r
    pick false q false f r = r

-- no type is vast
abbrev large-in : Schema → List Field → Bool
large-in s fs = any large (places s 0 fs)

large-opened : (s : Schema) (l : List Opened) → any (vast s) l ≡ any (large-in s) (map (λ (o : Opened). o.fields) l)
unfolding any vast
large-opened s [] = refl
large-opened s (o ∷ l) = ap (λ (b : Bool). large-in s o.fields || b) (large-opened s l)

-- readings ------------------------------------------------------------------------------------------------------------------------

-- a record as long as one that can be read, with its pool, can be read where it parses and has no vast type
read-there : (side : Side) (a b : Rec) (t : Schema) (ps : List ℕ) → length a.stream ≡ length b.stream → a.pool ≡ b.pool
    → reading side a ≡ read t
    → parsed side b ≡ ok ps → find (vast (schema_from b ps)) (opened b.stream b.pool ps) ≡ None → reading side b ≡ read (schema_from b ps)
unfolding reading concluded sizes_of vast_or
read-there side a b t ps l p h e v = go _ _ refl refl h
  where
    go : (short : Bool) (letters : Option ℕ) → (leb (length a.stream) stream_limit && leb (length a.pool) pool_limit) ≡ short
        → odd_letter a.pool ≡ letters → concluded a short letters (parsed side a) ≡ read t → reading side b ≡ read (schema_from b ps)
    go false letters f g k = absurd (let z : ◌≡◌ {A = ℕ} 0 1 = cc in omega arith)
    go true (Some i) f g k = absurd (let z : ◌≡◌ {A = ℕ} 0 1 = cc in omega arith)
    go true None f g k =
        sym (λ i. concluded b (leb (length b.stream) stream_limit && leb (length b.pool) pool_limit) (odd_letter (p i)) (parsed side b))
        ∙ sym (λ i. concluded b (leb (l i) stream_limit && leb (length (p i)) pool_limit) (odd_letter a.pool) (parsed side b))
        ∙ ap₂ (λ (x : Bool) (y : Option ℕ). concluded b x y (parsed side b)) f g ∙ ap (concluded b true None) e ∙ ap (vast_or (schema_from b ps)) v

-- a record of these commands and its schema
schema-is : (p : Str) (w : List Scalar) (xs : List Str) → AllWhole xs → schema_of (rec (stream_of xs) p w) ≡ the_schema p w xs
unfolding schema_of
schema-is p w xs c = ap (schema_from (rec (stream_of xs) p w)) (commands-run (stream_of xs) 0 xs refl c) ∙ schema-run (stream_of xs) p w 0 xs refl c

module _ (side : Side) (p : Str) (w : List Scalar) (head : Str) (is-head : is_command (1 ∷ []) head ≡ true) (secs others : List (List Str))
    (are-secs : all_of is_section secs ≡ true) (are-others : all_of is_section others ≡ true) (s : Shuffled PartsMoved secs others) where
  xs : List Str
  xs = head ∷ flatten secs

  ys : List Str
  ys = head ∷ flatten others

  xs-whole : AllWhole xs
  unfolding xs
  xs-whole = stream-whole head secs is-head are-secs

  ys-whole : AllWhole ys
  unfolding ys
  ys-whole = stream-whole head others is-head are-others

  permuted : Permuted (the_schema p w xs) (the_schema p w ys)
  unfolding xs ys
  permuted = schema-permuted p head is-head secs others are-secs are-others s w

  same_length : length (stream_of xs) ≡ length (stream_of ys)
  unfolding xs ys
  same_length = stream-length (Permᴰ.cons refl (sections-perm secs others s))

  -- the one can be read if the other can
  reading-on : NoneTwice (the_schema p w xs) → (t : Schema) → reading side (rec (stream_of xs) p w) ≡ read t
      → reading side (rec (stream_of ys) p w) ≡ read (the_schema p w ys)
  reading-on once t h =
      read-there side (rec (stream_of xs) p w) (rec (stream_of ys) p w) t (command_places 0 ys) same_length refl h parsed-there
      (ap (λ (u : Schema). find (vast u) (opened (stream_of ys) p (command_places 0 ys))) there ∙ vast-there)
      ∙ ap read there
    where
      r : Accepted side (rec (stream_of xs) p w) t
      r = accepting side (rec (stream_of xs) p w) t h

      there : schema_from (rec (stream_of ys) p w) (command_places 0 ys) ≡ the_schema p w ys
      there = schema-run (stream_of ys) p w 0 ys refl ys-whole

      valid-here : valid side p 0 NoParent xs ≡ true
      valid-here = unfold parsed in parsed-valid side p (stream_of xs) (length (stream_of xs) + 1) start xs _ refl xs-whole r.parsed-all

      valid-there : valid side p 0 NoParent ys ≡ true
      valid-there = unfold xs ys in reordered-valid side p head secs others is-head are-secs are-others s valid-here

      parsed-there : parsed side (rec (stream_of ys) p w) ≡ ok (command_places 0 ys)
      parsed-there =
          let l = long-enough ys ys-whole in
          unfold parsed in valid-parsed side p (stream_of ys) (length (stream_of ys) + 1) start ys refl ys-whole (omega arith) valid-there

      small : any (large-in (the_schema p w xs)) (the_opened p xs) ≡ false
      small =
          sym (ap (any (large-in (the_schema p w xs))) (opened-run (stream_of xs) p 0 xs refl xs-whole))
          ∙ sym (large-opened (the_schema p w xs) (opened (stream_of xs) p (command_places 0 xs)))
          ∙ ap₂ (λ (u : Schema) (ps : List ℕ). any (vast u) (opened (stream_of xs) p ps)) (sym (schema-is p w xs xs-whole) ∙ r.is-schema)
          (sym (commands-run (stream_of xs) 0 xs refl xs-whole))
          ∙ none_any (vast t) _ r.none-vast

      small-there : any (large-in (the_schema p w ys)) (the_opened p ys) ≡ false
      small-there =
          (λ i. any (λ (fs : List Field). any large (sym (places-found (the_schema p w xs) (the_schema p w ys) permuted once 0 fs) i)) (the_opened p ys))
          ∙ sym (any-perm (large-in (the_schema p w xs)) opened-there) ∙ small
        where
          opened-there : Permᴰ (the_opened p xs) (the_opened p ys)
          opened-there = unfold xs ys in opened-perm p head is-head secs others are-secs are-others s

      vast-there : find (vast (the_schema p w ys)) (opened (stream_of ys) p (command_places 0 ys)) ≡ None
      vast-there =
          any-none-found (vast (the_schema p w ys)) (opened (stream_of ys) p (command_places 0 ys))
          (large-opened (the_schema p w ys) (opened (stream_of ys) p (command_places 0 ys))
          ∙ ap (any (large-in (the_schema p w ys))) (opened-run (stream_of ys) p 0 ys refl ys-whole) ∙ small-there)

-- records -----------------------------------------------------------------------------------------------------------------

moved_back : (s t : List Str) → PartsMoved s t → PartsMoved t s
moved_back s t (as-it-is e) = as-it-is (sym e)
moved_back s t (parts-moved k x fs ps qs i j l p) = parts-moved k x fs qs ps i j (all-perm (is_part k) p l) (Permᴰ.symm p)

module _ (a b : Rec) (m : Reordered a b) where
  are-others : all_of is_section m.others ≡ true
  are-others = moved-sections m.shuffled.related (all-perm is_section m.shuffled.permuted m.are-sections)

  reordered-back : Reordered b a
  reordered-back = record {
    pool = sym m.pool;
    scalars = sym m.scalars;
    head = m.head;
    is-head = m.is-head;
    sections = m.others;
    are-sections = are-others;
    others = m.sections;
    shuffled = shuffled-sym moved_back m.shuffled;
    stream = m.other-stream;
    other-stream = m.stream;
  }

  is-a : a ≡ rec (stream_of (m.head ∷ flatten m.sections)) a.pool a.scalars
  is-a = λ i. record { stream = m.stream i; pool = a.pool; scalars = a.scalars }

  is_b : b ≡ rec (stream_of (m.head ∷ flatten m.others)) a.pool a.scalars
  is_b = λ i. record { stream = m.other-stream i; pool = sym m.pool i; scalars = sym m.scalars i }

  a-schema : schema_of a ≡ the_schema a.pool a.scalars (m.head ∷ flatten m.sections)
  a-schema = ap schema_of is-a ∙ schema-is a.pool a.scalars _ (stream-whole m.head m.sections m.is-head m.are-sections)

  b-schema : schema_of b ≡ the_schema a.pool a.scalars (m.head ∷ flatten m.others)
  b-schema = ap schema_of is_b ∙ schema-is a.pool a.scalars _ (stream-whole m.head m.others m.is-head are-others)

  -- the schema of the other record is this one's, its lists permuted
  reordered-permuted : Permuted (schema_of a) (schema_of b)
  reordered-permuted =
      subst (λ (s : Schema). Permuted s (schema_of b)) (sym a-schema)
      (subst (Permuted _) (sym b-schema)
      (schema-permuted a.pool m.head m.is-head m.sections m.others m.are-sections are-others m.shuffled a.scalars))

  once-there : NoneTwice (schema_of a) → NoneTwice (schema_of b)
  once-there = none-twice (schema_of a) (schema_of b) reordered-permuted

  -- the other record can be read if this one can, and what is read is its schema
  reordered-reading : (side : Side) → NoneTwice (schema_of a) → (t : Schema) → reading side a ≡ read t → reading side b ≡ read (schema_of b)
  unfolding xs ys
  reordered-reading side once t h =
      ap (reading side) is_b
      ∙ reading-on side a.pool a.scalars m.head m.is-head m.sections m.others m.are-sections are-others m.shuffled
      (subst NoneTwice a-schema once) t (ap (reading side) (sym is-a) ∙ h)
      ∙ ap read (sym b-schema)

-- W-214 -------------------------------------------------------------------------------------------------------------------

-- what passes is accepted, whatever the room
passed-accepts : (room : ℕ) (cur rel : Rec) (c r : Schema) → reading Current cur ≡ read c → reading Released rel ≡ read r → compare c r ≡ pass
    → Accepts room cur rel
unfolding check answered verdict_of
passed-accepts room cur rel c r e f h = ap₂ (λ (x y : Reading). (answered room x y).number) e f ∙ ap (λ v. (verdict_of room v).number) h

accepts-on : (room more : ℕ) (cur now rel was : Rec) → Reordered cur now → Reordered rel was → NoneTwice (schema_of cur) → NoneTwice (schema_of rel)
    → Accepts room cur rel → Accepts more now was
accepts-on room more cur now rel was mc mr oc or h =
    let w = accepted room cur rel h in
    let ec = A.accepted Current cur w.now w.is-now in
    let er = A.accepted Released rel w.was w.is-was in
    passed-accepts more now was (schema_of now) (schema_of was)
    (reordered-reading cur now mc Current oc w.now w.is-now) (reordered-reading rel was mr Released or w.was w.is-was)
    (compare-on (schema_of cur) (schema_of now) (schema_of rel) (schema_of was) (reordered-permuted cur now mc) (reordered-permuted rel was mr) oc or
    (ap₂ compare ec er ∙ w.passes))

-- with no name or slot twice, a pair of records is accepted with the sections of either, or of both, in another order exactly if it is as it
-- stands, whatever the rooms
pub sections-reordered : (room more : ℕ) (cur now rel was : Rec) → Reordered cur now → Reordered rel was → NoneTwice (schema_of cur)
    → NoneTwice (schema_of rel)
    → (Accepts room cur rel → Accepts more now was) × (Accepts more now was → Accepts room cur rel)
sections-reordered room more cur now rel was mc mr oc or = (
  accepts-on room more cur now rel was mc mr oc or,
  accepts-on more room now cur was rel (reordered-back cur now mc) (reordered-back rel was mr) (once-there cur now mc oc) (once-there rel was mr or),
)

-- and a record can be read exactly if it can with its sections in another order
pub readable-reordered : (side : Side) (a b : Rec) → Reordered a b → NoneTwice (schema_of a)
    → (CanBeRead side a → CanBeRead side b) × (CanBeRead side b → CanBeRead side a)
readable-reordered side a b m o = (
  λ w. (schema_of b, reordered-reading a b m side o w.0 w.1),
  λ w. (schema_of a, reordered-reading b a (reordered-back a b m) side (once-there a b m o) w.0 w.1),
)

-- in 02's words, "for readable records with no name or slot twice": the premise is of what is read
pub readable-pair : (room more : ℕ) (cur now rel was : Rec) (c r : Schema) → Reordered cur now → Reordered rel was → reading Current cur ≡ read c
    → reading Released rel ≡ read r → NoneTwice c → NoneTwice r
    → (Accepts room cur rel → Accepts more now was) × (Accepts more now was → Accepts room cur rel)
readable-pair room more cur now rel was c r mc mr e f oc or =
    sections-reordered room more cur now rel was mc mr (subst NoneTwice (sym (A.accepted Current cur c e)) oc) (subst NoneTwice (sym (A.accepted Released rel r f)) or)

-- every order of a record's sections, each as it is or with its parts moved, is one that this speaks of; and every record that can be read
-- has sections (proofs/Sectioned)
pub every-order : (a : Rec) (c : Sectioned a) (others : List (List Str)) → Shuffled PartsMoved c.sections others
    → Reordered a (rec (stream_of (c.head ∷ flatten others)) a.pool a.scalars)
every-order a c others s = record {
  pool = refl;
  scalars = refl;
  head = c.head;
  is-head = c.is-head;
  sections = c.sections;
  are-sections = c.are-sections;
  others = others;
  shuffled = s;
  stream = c.stream;
  other-stream = refl;
}
