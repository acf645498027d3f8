-- A type's section between two pieces of a record's contents: what it brings to the lists of structures and families; all other lists are the same without it.
-- Assumes nothing.
use mathlib.Core.Path.{◌≡◌, refl, sym, ap, ap₂, ◌∙◌}
use mathlib.Core.List.{List, [], ◌∷◌, ◌++◌, Memᴰ}
use mathlib.Core.Bool.{Bool, true, false, ◌||◌, cond, false≢true}
use Prim.Native.Nat.{ℕ}
use lib.Dec.{eqb}
use borrow.Author.Tests.{eqb-true, ne_eqb, eq-eqb}
use Rattle.record.specs.Base.{first}
use Rattle.record.specs.Scalars.{Scalar}
use Rattle.record.specs.Schema.{Heading, Struct, Family, Variant, Field, EnumValue, Member, Key}
use Rattle.record.specs.Lists.{anything, nothing, a_key, a_field}
use Rattle.record.specs.Reading.{release_of, unreleased_of}
use Rattle.drafts.specs.Content.{Content}
use Rattle.drafts.specs.Addition.{is_type, is_part}
use Rattle.drafts.specs.Effects.{SameRest}
use Rattle.drafts.proofs.Contents.{listed_in, head_in, constant_in, alias_in, enum_in, bitfield_in, struct_in, family_in, key_in, version_in, value_in, member_in, field_in, variant_in, values_in, members_in, keys_in, fields_in, variants_in, structs_in, families_in, schema_in}

-- contents that begin no list of parts: none, or one that stands by itself
abbrev pub Apart : List Content → Type 0
Apart [] = Unit {0}
Apart (d ∷ ds) = (eqb d.number 5 ≡ false) × (eqb d.number 7 ≡ false) × (eqb d.number 10 ≡ false) × (eqb d.number 11 ≡ false) × (eqb d.number 12 ≡ false)

module _ (ys : List Content) (apart : Apart ys) where
  module _ {A : Type 0} (over : ℕ → Bool) (b : ℕ) (g : Content → List Content → A) (cut : (d : Content) (l : List Content) → g d (l ++ ys) ≡ g d l) where
    -- a list of parts ends where other contents begin
    ends : (stop : listed_in over b g ys ≡ []) (xs : List Content) → listed_in over b g (xs ++ ys) ≡ listed_in over b g xs
    unfolding listed_in
    ends stop [] = stop
    ends stop (d ∷ xs) = go (eqb d.number b) (over d.number) (ends stop xs)
      where
        go : (t o : Bool) → listed_in over b g (xs ++ ys) ≡ listed_in over b g xs
            → cond t (g d (xs ++ ys) ∷ listed_in over b g (xs ++ ys)) (cond o (listed_in over b g (xs ++ ys)) []) ≡ cond t (g d xs ∷ listed_in over b g xs) (cond o (listed_in over b g xs) [])
        go true o e = ap₂ (λ (x : A) (l : List A). x ∷ l) (cut d xs) e
        go false true e = e
        go false false e = refl

  -- a section's list goes on
  pub goes_on : {A : Type 0} (b : ℕ) (g : Content → List Content → A) → ((d : Content) (l : List Content) → g d (l ++ ys) ≡ g d l) → (xs : List Content)
      → listed_in anything b g (xs ++ ys) ≡ listed_in anything b g xs ++ listed_in anything b g ys
  unfolding listed_in
  goes_on b g cut [] = refl
  goes_on {A} b g cut (d ∷ xs) = go (eqb d.number b) (goes_on b g cut xs)
    where
      go : (t : Bool) → listed_in anything b g (xs ++ ys) ≡ listed_in anything b g xs ++ listed_in anything b g ys
          → cond t (g d (xs ++ ys) ∷ listed_in anything b g (xs ++ ys)) (listed_in anything b g (xs ++ ys)) ≡ cond t (g d xs ∷ listed_in anything b g xs) (listed_in anything b g xs) ++ listed_in anything b g ys
      go true e = ap₂ (λ (x : A) (l : List A). x ∷ l) (cut d xs) e
      go false e = e

  stop-values : values_in ys ≡ []
  unfolding values_in listed_in
  stop-values = go ys apart
    where
      go : (l : List Content) → Apart l → listed_in nothing 5 (λ d ds. value_in d) l ≡ []
      go [] a = refl
      go (d ∷ l) a = rw a.0

  stop-members : members_in ys ≡ []
  unfolding members_in listed_in
  stop-members = go ys apart
    where
      go : (l : List Content) → Apart l → listed_in nothing 7 (λ d ds. member_in d) l ≡ []
      go [] a = refl
      go (d ∷ l) a = rw a.1

  stop-keys : keys_in ys ≡ []
  unfolding keys_in listed_in
  stop-keys = go ys apart
    where
      go : (l : List Content) → Apart l → listed_in nothing 12 (λ d ds. key_in d) l ≡ []
      go [] a = refl
      go (d ∷ l) a = rw a.4

  stop-fields : fields_in ys ≡ []
  unfolding fields_in listed_in
  stop-fields = go ys apart
    where
      go : (l : List Content) → Apart l → listed_in a_key 11 (λ d ds. field_in d (first (keys_in ds))) l ≡ []
      go [] a = refl
      go (d ∷ l) a = rw (a.3, a.4)

  stop-variants : variants_in ys ≡ []
  unfolding variants_in listed_in
  stop-variants = go ys apart
    where
      go : (l : List Content) → Apart l → listed_in a_field 10 (λ d ds. variant_in d (fields_in ds)) l ≡ []
      go [] a = refl
      go (d ∷ l) a = rw (a.2, a.3, a.4)

  values-end : (xs : List Content) → values_in (xs ++ ys) ≡ values_in xs
  unfolding values_in
  values-end = ends nothing 5 (λ d ds. value_in d) (λ d l. refl) stop-values

  members-end : (xs : List Content) → members_in (xs ++ ys) ≡ members_in xs
  unfolding members_in
  members-end = ends nothing 7 (λ d ds. member_in d) (λ d l. refl) stop-members

  keys-end : (xs : List Content) → keys_in (xs ++ ys) ≡ keys_in xs
  unfolding keys_in
  keys-end = ends nothing 12 (λ d ds. key_in d) (λ d l. refl) stop-keys

  pub fields-end : (xs : List Content) → fields_in (xs ++ ys) ≡ fields_in xs
  unfolding fields_in
  fields-end = ends a_key 11 (λ d ds. field_in d (first (keys_in ds))) (λ d l. ap (λ (k : List Key). field_in d (first k)) (keys-end l)) stop-fields

  variants-end : (xs : List Content) → variants_in (xs ++ ys) ≡ variants_in xs
  unfolding variants_in
  variants-end = ends a_field 10 (λ d ds. variant_in d (fields_in ds)) (λ d l. ap (λ (k : List Field). variant_in d k) (fields-end l)) stop-variants

-- a type's section ------------------------------------------------------------------------------------------------------------------

-- a type and its parts
pub record Section (d : Content) (parts : List Content) : Type 0 where
  pub is-type : is_type d.number ≡ true
  pub are-parts : (e : Content) → Memᴰ e parts → is_part e.number ≡ true

part-number : (b k : ℕ) → is_part b ≡ true → eqb k 10 ≡ false → eqb k 11 ≡ false → eqb k 12 ≡ false → eqb b k ≡ false
unfolding is_part
part-number b k h x y z = go (eqb b 10) refl (eqb b 11) refl (eqb b 12) refl h
  where
    go : (u : Bool) → eqb b 10 ≡ u → (v : Bool) → eqb b 11 ≡ v → (w : Bool) → eqb b 12 ≡ w → (u || v || w) ≡ true → eqb b k ≡ false
    go true e v f w g h = rw (eqb-true b 10 e) (ne_eqb 10 k (λ q. false≢true (sym x ∙ eq-eqb k 10 (sym q))))
    go false e true f w g h = rw (eqb-true b 11 f) (ne_eqb 11 k (λ q. false≢true (sym y ∙ eq-eqb k 11 (sym q))))
    go false e false f true g h = rw (eqb-true b 12 g) (ne_eqb 12 k (λ q. false≢true (sym z ∙ eq-eqb k 12 (sym q))))
    go false e false f false g h = absurd (false≢true h)

module _ {A : Type 0} (k : ℕ) (x : eqb k 10 ≡ false) (y : eqb k 11 ≡ false) (z : eqb k 12 ≡ false) (g : Content → List Content → A) where
  no-parts : (parts : List Content) → ((e : Content) → Memᴰ e parts → is_part e.number ≡ true) → listed_in anything k g parts ≡ []
  unfolding listed_in
  no-parts [] h = refl
  no-parts (e ∷ parts) h = rw (part-number e.number k (h e (Memᴰ.head refl)) x y z) (no-parts parts (λ u m. h u (Memᴰ.tail m)))

  -- another list has nothing of a section, its own the type
  none_here : (d : Content) (parts : List Content) → Section d parts → eqb d.number k ≡ false → listed_in anything k g (d ∷ parts) ≡ []
  unfolding listed_in
  none_here d parts s q = rw q (no-parts parts s.are-parts)

  one-here : (d : Content) (parts : List Content) → Section d parts → eqb d.number k ≡ true → listed_in anything k g (d ∷ parts) ≡ g d parts ∷ []
  unfolding listed_in
  one-here d parts s q = rw q (ap (λ (l : List A). g d parts ∷ l) (no-parts parts s.are-parts))

abbrev struct_on : Content → List Content → Struct
struct_on e rest = struct_in e (fields_in rest)

abbrev family_on : Content → List Content → Family
family_on e rest = family_in e (fields_in rest) (variants_in rest)

-- a section between two pieces
module _ (xs zs : List Content) (d : Content) (parts : List Content) (s : Section d parts) (first-apart : Apart (d ∷ parts)) (last_apart : Apart zs) where
  abbrev with_it : List Content
  with_it = xs ++ ((d ∷ parts) ++ zs)

  abbrev without-it : List Content
  without-it = xs ++ zs

  both-apart : Apart ((d ∷ parts) ++ zs)
  both-apart = first-apart

  module _ {A : Type 0} (k : ℕ) (x : eqb k 10 ≡ false) (y : eqb k 11 ≡ false) (z : eqb k 12 ≡ false) (g : Content → List Content → A)
      (cut : (ys : List Content) → Apart ys → (e : Content) (l : List Content) → g e (l ++ ys) ≡ g e l) where
    split : listed_in anything k g with_it ≡ listed_in anything k g xs ++ (listed_in anything k g (d ∷ parts) ++ listed_in anything k g zs)
    split =
        goes_on ((d ∷ parts) ++ zs) both-apart k g (cut ((d ∷ parts) ++ zs) both-apart) xs
        ∙ ap (λ (l : List A). listed_in anything k g xs ++ l) (goes_on zs last_apart k g (cut zs last_apart) (d ∷ parts))

    joins : listed_in anything k g without-it ≡ listed_in anything k g xs ++ listed_in anything k g zs
    joins = goes_on zs last_apart k g (cut zs last_apart) xs

    other-list : eqb d.number k ≡ false → listed_in anything k g without-it ≡ listed_in anything k g with_it
    other-list q = joins ∙ sym (split ∙ ap (λ (l : List A). listed_in anything k g xs ++ (l ++ listed_in anything k g zs)) (none_here k x y z g d parts s q))

  not-type : (k : ℕ) → eqb k 8 ≡ false → eqb k 9 ≡ false → eqb d.number k ≡ false
  unfolding is_type
  not-type k x y = go (eqb d.number 8) refl (eqb d.number 9) refl s.is-type
    where
      go : (u : Bool) → eqb d.number 8 ≡ u → (v : Bool) → eqb d.number 9 ≡ v → (u || v) ≡ true → eqb d.number k ≡ false
      go true e v f h = rw (eqb-true d.number 8 e) (ne_eqb 8 k (λ q. false≢true (sym x ∙ eq-eqb k 8 (sym q))))
      go false e true f h = rw (eqb-true d.number 9 f) (ne_eqb 9 k (λ q. false≢true (sym y ∙ eq-eqb k 9 (sym q))))
      go false e false f h = absurd (false≢true h)

  struct-cut : (ys : List Content) → Apart ys → (e : Content) (l : List Content) → struct_in e (fields_in (l ++ ys)) ≡ struct_in e (fields_in l)
  struct-cut ys a e l = ap (λ (k : List Field). struct_in e k) (fields-end ys a l)

  family-cut : (ys : List Content) → Apart ys → (e : Content) (l : List Content) → family_in e (fields_in (l ++ ys)) (variants_in (l ++ ys)) ≡ family_in e (fields_in l) (variants_in l)
  family-cut ys a e l = ap₂ (λ (k : List Field) (v : List Variant). family_in e k v) (fields-end ys a l) (variants-end ys a l)

  module _ (w : List Scalar) where
    heads-same : listed_in anything 1 (λ e rest. head_in e) without-it ≡ listed_in anything 1 (λ e rest. head_in e) with_it
    heads-same = other-list 1 refl refl refl (λ e rest. head_in e) (λ ys a e l. refl) (not-type 1 refl refl)

    pub rest-same : SameRest (schema_in w without-it) (schema_in w with_it)
    unfolding schema_in
    rest-same = record {
      scalars = refl;
      release = ap (λ (l : List Heading). release_of (first l)) heads-same;
      unreleased = ap (λ (l : List Heading). unreleased_of (first l)) heads-same;
      constants = other-list 2 refl refl refl (λ e rest. constant_in e) (λ ys a e l. refl) (not-type 2 refl refl);
      aliases = other-list 3 refl refl refl (λ e rest. alias_in e) (λ ys a e l. refl) (not-type 3 refl refl);
      enums = other-list 4 refl refl refl (λ e rest. enum_in e (values_in rest)) (λ ys a e l. ap (λ (k : List EnumValue). enum_in e k) (values-end ys a l)) (not-type 4 refl refl);
      bitfields = other-list 6 refl refl refl (λ e rest. bitfield_in e (members_in rest)) (λ ys a e l. ap (λ (k : List Member). bitfield_in e k) (members-end ys a l)) (not-type 6 refl refl);
      unstored = other-list 13 refl refl refl (λ e rest. key_in e) (λ ys a e l. refl) (not-type 13 refl refl);
      versions = other-list 14 refl refl refl (λ e rest. version_in e) (λ ys a e l. refl) (not-type 14 refl refl);
    }

  -- the structures and the families with and without the section
  pub record Types : Type 0 where
    pub structs-with : structs_in with_it ≡ structs_in xs ++ (structs_in (d ∷ parts) ++ structs_in zs)
    pub structs-less : structs_in without-it ≡ structs_in xs ++ structs_in zs
    pub families-with : families_in with_it ≡ families_in xs ++ (families_in (d ∷ parts) ++ families_in zs)
    pub families-less : families_in without-it ≡ families_in xs ++ families_in zs

  pub types_of : Types
  unfolding structs_in families_in
  types_of = record {
    structs-with = split 8 refl refl refl struct_on struct-cut;
    structs-less = joins 8 refl refl refl struct_on struct-cut;
    families-with = split 9 refl refl refl family_on family-cut;
    families-less = joins 9 refl refl refl family_on family-cut;
  }

-- a section is one structure, or one family
pub data OneType (d : Content) (parts : List Content) : Type 0 where
  a_struct : d.number ≡ 8 → structs_in (d ∷ parts) ≡ struct_in d (fields_in parts) ∷ [] → families_in (d ∷ parts) ≡ [] → OneType d parts
  a-family : d.number ≡ 9 → structs_in (d ∷ parts) ≡ [] → families_in (d ∷ parts) ≡ family_in d (fields_in parts) (variants_in parts) ∷ [] → OneType d parts

pub one_type : (d : Content) (parts : List Content) → Section d parts → OneType d parts
unfolding structs_in families_in is_type
one_type d parts s = go (eqb d.number 8) refl (eqb d.number 9) refl s.is-type
  where
    go : (u : Bool) → eqb d.number 8 ≡ u → (v : Bool) → eqb d.number 9 ≡ v → (u || v) ≡ true → OneType d parts
    go true e v f h =
        let n : eqb d.number 9 ≡ false = rw (eqb-true d.number 8 e) in
        a_struct (eqb-true d.number 8 e) (one-here 8 refl refl refl struct_on d parts s e) (none_here 9 refl refl refl family_on d parts s n)
    go false e true f h = a-family (eqb-true d.number 9 f) (none_here 8 refl refl refl struct_on d parts s e) (one-here 9 refl refl refl family_on d parts s f)
    go false e false f h = absurd (false≢true h)
