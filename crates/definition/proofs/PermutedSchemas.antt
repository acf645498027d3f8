-- Two schemas whose lists are permutations of each other, with no name or slot twice: the same look-ups, sizes, layouts, owners and
-- generations, and no name or slot twice in the other. Assumes nothing.
use Rattle.std.specs.Prelude.{Option, Some, None}
use mathlib.Core.Path.{◌≡◌, refl, sym, ◌∙◌, ap, ap₂, subst}
use mathlib.Core.List.Permᴰ
use mathlib.Core.List.{List, [], ◌∷◌, ◌++◌, map, flat_map, append_assoc, Permᴰ}
use Prim.Native.Nat.{ℕ, ◌+◌, ◌*◌}
use Rattle.record.specs.Base.{Str, bytes, eqs, is_text, or_else, map_option, with_some, any}
use Rattle.record.specs.Scalars.{Scalar, prim_size}
use Rattle.record.specs.Schema.{Schema, Const, Alias, Enum, EnumValue, BitField, Member, Field, Struct, Family, Variant, Key}
use Rattle.record.specs.Steps.{constant_in, alias_in, enum_in, bitfield_in, struct_in, family_in}
use Rattle.record.specs.Kind.{kind_of}
use Rattle.record.specs.Keys.{field_keys, plugin_keys}
use Rattle.record.specs.Shapes.{enum_size, alias_size, bitfield_size, sized, scalar_size, size_as, shape_size, FieldLayout, place_of, places, plain, fam_prefix}
use Rattle.record.specs.Owner.{Types, types_in, struct_in_slot, slotted, has_slot, variant_fields, fields_in, type_fields, with_name, roots_in, ownership_order, roots, owner_of, Leads, here, along, First, now, later}
use Rattle.record.specs.Versioned.{slot_order, versioned}
use Rattle.record.specs.Generation.{of_struct, of_version, of_constant, generation_of}
use Rattle.record.specs.declared.kind.Kind.{Kind}
use Rattle.record.specs.declared.kind.Kind.TheVariants as K
use Rattle.record.proofs.Basics.{none≢some}
use Rattle.record.proofs.Walk.{owner-is-first}
use Rattle.layout.specs.Sorted.{sorted}
use Rattle.layout.specs.Layout.{TypeLayout, lay_struct, lay_family, lay_variant, lay_families, flattened, types, variant_name}
use Rattle.definition.specs.Constants.{last_constant, holds_in, held_by_any, is_generation}
use Rattle.definition.specs.Chain.{NoDup, slots_of}
use Rattle.definition.specs.Sections.{Shuffled, NoneTwice}
use Rattle.definition.proofs.Same.{slot-only}
use Rattle.definition.proofs.Unmoved.{is_text→eq}
use Rattle.definition.proofs.Lists.{perm-mem, perm-eq, perm-by, perm-append, perm-flat_map, nodup-perm, shuffled-back, shuffled-map, shuffled-flat_map}
use Rattle.definition.proofs.LookUps.{FoundAs, OptionRel, neither, both_hold, option_map, find-shuffled, find-perm, last-perm, named-once, sorted-perm}

-- another order -----------------------------------------------------------------------------------------------------------

-- an enum with its values in another order
pub record PermutedEnum (a b : Enum) : Type 0 where
  pub name : a.name ≡ b.name
  pub size : a.size ≡ b.size
  pub api : a.api ≡ b.api
  pub since : a.since ≡ b.since
  pub values : Permᴰ a.values b.values

-- a bit field with its members in another order
pub record PermutedBits (a b : BitField) : Type 0 where
  pub name : a.name ≡ b.name
  pub size : a.size ≡ b.size
  pub since : a.since ≡ b.since
  pub members : Permᴰ a.members b.members

-- a family with its variants in another order
pub record PermutedFamily (a b : Family) : Type 0 where
  pub name : a.name ≡ b.name
  pub disc_field : a.disc_field ≡ b.disc_field
  pub disc_type : a.disc_type ≡ b.disc_type
  pub len_field : a.len_field ≡ b.len_field
  pub len_type : a.len_type ≡ b.len_type
  pub standalone : a.standalone ≡ b.standalone
  pub common : a.common ≡ b.common
  pub variants : Permᴰ a.variants b.variants

-- the fields of a type are not moved: structures, a family's common fields and variants are equal
pub record Permuted (a b : Schema) : Type 0 where
  pub scalars : a.scalars ≡ b.scalars
  pub release : a.release ≡ b.release
  pub unreleased : a.unreleased ≡ b.unreleased
  pub constants : Permᴰ a.constants b.constants
  pub aliases : Permᴰ a.aliases b.aliases
  pub enums : Shuffled PermutedEnum a.enums b.enums
  pub bitfields : Shuffled PermutedBits a.bitfields b.bitfields
  pub structs : Permᴰ a.structs b.structs
  pub families : Shuffled PermutedFamily a.families b.families
  pub unstored : Permᴰ a.unstored b.unstored
  pub versions : Permᴰ a.versions b.versions

-- lists of a schema, element by element -----------------------------------------------------------------------------------

some-append : {A : Type 0} (o : Option A) (l : List A) → with_some o l ≡ with_some o [] ++ l
unfolding with_some
some-append None l = refl
some-append (Some x) l = refl

slots-flat : (ss : List Struct) → slots_of ss ≡ flat_map (λ (t : Struct). with_some t.slot []) ss
unfolding slots_of flat_map
slots-flat [] = refl
slots-flat (t ∷ ts) = some-append t.slot (slots_of ts) ∙ ap (λ (l : List Str). with_some t.slot [] ++ l) (slots-flat ts)

field-keys-append : (fs : List Field) (l : List Key) → field_keys fs l ≡ field_keys fs [] ++ l
unfolding field_keys
field-keys-append [] l = refl
field-keys-append (f ∷ fs) l =
    ap (with_some f.key) (field-keys-append fs l) ∙ some-append f.key (field_keys fs [] ++ l)
    ∙ sym (append_assoc (with_some f.key []) (field_keys fs []) l) ∙ ap (λ (k : List Key). k ++ l) (sym (some-append f.key (field_keys fs [])))

keys-flat : (ss : List Struct) (l : List Key) → plugin_keys ss l ≡ flat_map (λ (t : Struct). field_keys t.fields []) ss ++ l
unfolding plugin_keys flat_map
keys-flat [] l = refl
keys-flat (t ∷ ts) l =
    ap (field_keys t.fields) (keys-flat ts l) ∙ field-keys-append t.fields _ ∙ sym (append_assoc (field_keys t.fields []) _ l)

variants-flat : (vs : List Variant) → variant_fields vs ≡ flat_map (λ (v : Variant). v.fields) vs
unfolding variant_fields flat_map
variants-flat [] = refl
variants-flat (v ∷ vs) = ap (λ (l : List Field). v.fields ++ l) (variants-flat vs)

-- a family's layout, then those of its variants
family_layouts : Schema → Family → List TypeLayout
family_layouts s m = lay_family s m ∷ map (lay_variant s m) m.variants

families-flat : (s : Schema) (ms : List Family) → lay_families s ms ≡ flat_map (family_layouts s) ms
unfolding lay_families flat_map family_layouts
families-flat s [] = refl
families-flat s (m ∷ ms) = ap (λ (l : List TypeLayout). lay_family s m ∷ map (lay_variant s m) m.variants ++ l) (families-flat s ms)

module _ (a b : Schema) (o : Permuted a b) where
  pub keys-perm : Permᴰ (plugin_keys a.structs a.unstored) (plugin_keys b.structs b.unstored)
  keys-perm =
      perm-by (keys-flat a.structs a.unstored) (keys-flat b.structs b.unstored)
      (perm-append (perm-flat_map (λ (t : Struct). field_keys t.fields []) o.structs) o.unstored)

  slots-perm : Permᴰ (slots_of a.structs) (slots_of b.structs)
  slots-perm = perm-by (slots-flat a.structs) (slots-flat b.structs) (perm-flat_map (λ (t : Struct). with_some t.slot []) o.structs)

  -- sizes and layouts -----------------------------------------------------------------------------------------------------

  enums-once : NoneTwice a → NoDup (map (λ (e : Enum). e.name) b.enums)
  enums-once n = nodup-perm (shuffled-map (λ (e : Enum). e.name) (λ x y e. e.name) o.enums) n.enums

  bitfields-once : NoneTwice a → NoDup (map (λ (e : BitField). e.name) b.bitfields)
  bitfields-once n = nodup-perm (shuffled-map (λ (e : BitField). e.name) (λ x y e. e.name) o.bitfields) n.bitfields

  aliases-once : NoneTwice a → NoDup (map (λ (e : Alias). e.name) b.aliases)
  aliases-once n = nodup-perm (Permᴰ.map (λ (e : Alias). e.name) o.aliases) n.aliases

  module _ (oa : NoneTwice a) where
    pub enum-found : (n : Str) → OptionRel (FoundAs PermutedEnum b.enums) (enum_in n a.enums) (enum_in n b.enums)
    unfolding enum_in
    enum-found n =
        find-shuffled (λ (e : Enum). eqs e.name n) o.enums (λ x y e. ap (λ (m : Str). eqs m n) e.name)
        (named-once (λ (e : Enum). e.name) n b.enums (enums-once oa))

    pub bitfield-found : (n : Str) → OptionRel (FoundAs PermutedBits b.bitfields) (bitfield_in n a.bitfields) (bitfield_in n b.bitfields)
    unfolding bitfield_in
    bitfield-found n =
        find-shuffled (λ (e : BitField). eqs e.name n) o.bitfields (λ x y e. ap (λ (m : Str). eqs m n) e.name)
        (named-once (λ (e : BitField). e.name) n b.bitfields (bitfields-once oa))

    alias-found : (n : Str) → alias_in n a.aliases ≡ alias_in n b.aliases
    unfolding alias_in
    alias-found n = find-perm (λ (e : Alias). eqs e.name n) o.aliases (named-once (λ (e : Alias). e.name) n b.aliases (aliases-once oa))

    sized-cong : (t : Option Str) (g h : Str → Option ℕ) (d : ℕ) → ((n : Str) → g n ≡ h n) → sized t g d ≡ sized t h d
    unfolding sized
    sized-cong None g h d e = refl
    sized-cong (Some n) g h d e = ap (λ (o : Option ℕ). or_else o d) (e n)

    size-found : (f : Field) → shape_size a f ≡ shape_size b f
    unfolding shape_size
    size-found f = go (kind_of f.kind)
      where
        scalar : (t : Option Str) → scalar_size a t ≡ scalar_size b t
        scalar t = unfold scalar_size in ap (λ (w : List Scalar). prim_size w (or_else t (bytes "u8"))) o.scalars

        enum : (n : Str) → enum_size a.enums n ≡ enum_size b.enums n
        enum n = unfold enum_size in option_map (λ (e : Enum). e.size) (enum-found n) (λ x y e. e.0.size)

        alias : (n : Str) → alias_size a.scalars a.aliases n ≡ alias_size b.scalars b.aliases n
        alias n =
            unfold alias_size in
            ap₂ (λ (w : List Scalar) (x : Option Alias). map_option (λ (l : Alias). prim_size w l.underlying) x) o.scalars (alias-found n)

        bits : (n : Str) → bitfield_size a.bitfields n ≡ bitfield_size b.bitfields n
        bits n = unfold bitfield_size in option_map (λ (e : BitField). e.size) (bitfield-found n) (λ x y e. e.0.size)

        go : (k : Kind) → size_as k a f ≡ size_as k b f
        go K.Scalar = unfold size_as in scalar f.typ
        go K.Enum = unfold size_as in sized-cong f.typ _ _ 1 enum
        go K.TypeAlias = unfold size_as in sized-cong f.typ _ _ 2 alias
        go K.Bitfield = unfold size_as in sized-cong f.typ _ _ 0 bits
        go K.InlineArray = unfold size_as in ap (λ (z : ℕ). z * or_else f.count 0) (scalar f.element)
        go K.InlineArray2d = unfold size_as in ap (λ (z : ℕ). z * or_else f.rows 0 * or_else f.cols 0) (scalar f.element)
        go K.CstrPtr = unfold size_as in refl
        go K.StructPtr = unfold size_as in refl
        go K.StructArrayPtr = unfold size_as in refl
        go K.StructPtrArrayPtr = unfold size_as in refl
        go K.TaggedFamPtr = unfold size_as in refl
        go K.SimpleFamPtr = unfold size_as in refl
        go K.OpaquePtr = unfold size_as in refl
        go K.FnPtr = unfold size_as in refl
        go K.Padding = unfold size_as in refl
        go K.Text = unfold size_as in refl
        go K.Other = unfold size_as in refl

    pub places-found : (at : ℕ) (fs : List Field) → places a at fs ≡ places b at fs
    unfolding places place_of
    places-found at [] = refl
    places-found at (f ∷ fs) = rw (size-found f) (ap (λ (l : List FieldLayout). place_of b at f ∷ l) (places-found (at + shape_size b f) fs))

    struct-laid : (t : Struct) → lay_struct a t ≡ lay_struct b t
    unfolding lay_struct
    struct-laid t = ap (λ (l : List FieldLayout). record { name = t.name; fields = l }) (places-found 0 t.fields)

    family-laid : (m n : Family) → PermutedFamily m n → lay_family a m ≡ lay_family b n
    unfolding lay_family fam_prefix
    family-laid m n e =
        ap₂ (λ (x : Str) (l : List FieldLayout). record { name = x; fields = l }) e.name (places-found 0 (fam_prefix m ++ m.common) ∙ ap (places b 0) front)
      where
        front : fam_prefix m ++ m.common ≡ fam_prefix n ++ n.common
        front = λ i. plain (e.disc_field i) (bytes "enum") (e.disc_type i)
            ∷ plain (e.len_field i) (bytes "scalar") (or_else (e.len_type i) (bytes "u8")) ∷ e.common i

    variant-laid : (n : Str) (m : Family) (v : Variant) → m.name ≡ n → lay_variant a m v ≡ record { name = variant_name n v.disc; fields = places b 0 v.fields }
    unfolding lay_variant
    variant-laid n m v e = ap₂ (λ (x : Str) (l : List FieldLayout). record { name = variant_name x v.disc; fields = l }) e (places-found 0 v.fields)

    family-layouts : (m n : Family) → PermutedFamily m n → Permᴰ (family_layouts a m) (family_layouts b n)
    unfolding family_layouts lay_variant
    family-layouts m n e =
        Permᴰ.cons (family-laid m n e)
        (Permᴰ.trans (perm-eq (ap (λ (f : Variant → TypeLayout). map f m.variants) (λ i v. variant-laid n.name m v e.name i)))
        (Permᴰ.map (lay_variant b n) e.variants))

    layouts-perm : Permᴰ (flattened a) (flattened b)
    unfolding flattened
    layouts-perm =
        perm-append
        (Permᴰ.trans (perm-eq (ap (λ (f : Struct → TypeLayout). map f a.structs) (λ i t. struct-laid t i))) (Permᴰ.map (lay_struct b) o.structs))
        (perm-by (families-flat a a.families) (families-flat b b.families)
        (shuffled-flat_map (family_layouts a) (family_layouts b) family-layouts o.families))

    -- nothing stands twice in the other -----------------------------------------------------------------------------------

    pub none-twice : NoneTwice b
    none-twice = record {
      constants = nodup-perm (Permᴰ.map (λ (c : Const). c.name) o.constants) oa.constants;
      aliases = aliases-once oa;
      enums = enums-once oa;
      values = λ e m. let w = shuffled-back o.enums m in nodup-perm (Permᴰ.map (λ (v : EnumValue). v.name) w.2.values) (oa.values w.0 w.1);
      bitfields = bitfields-once oa;
      members = λ e m. let w = shuffled-back o.bitfields m in nodup-perm (Permᴰ.map (λ (v : Member). v.name) w.2.members) (oa.members w.0 w.1);
      structs = nodup-perm (Permᴰ.map (λ (c : Struct). c.name) o.structs) oa.structs;
      families = nodup-perm (shuffled-map (λ (c : Family). c.name) (λ x y e. e.name) o.families) oa.families;
      keys = nodup-perm (Permᴰ.map (λ (k : Key). k.name) keys-perm) oa.keys;
      slots = nodup-perm slots-perm oa.slots;
      layouts = nodup-perm (Permᴰ.map (λ (t : TypeLayout). t.name) layouts-perm) oa.layouts;
    }

    pub types_same : types a ≡ types b
    unfolding types
    types_same = sorted-perm (λ (t : TypeLayout). t.name) layouts-perm oa.layouts none-twice.layouts

    -- look-ups ------------------------------------------------------------------------------------------------------------

    pub family-found : (n : Str) → OptionRel (FoundAs PermutedFamily b.families) (family_in n a.families) (family_in n b.families)
    unfolding family_in
    family-found n =
        find-shuffled (λ (e : Family). eqs e.name n) o.families (λ x y e. ap (λ (m : Str). eqs m n) e.name)
        (named-once (λ (e : Family). e.name) n b.families none-twice.families)

    struct-found : (n : Str) → struct_in n a.structs ≡ struct_in n b.structs
    unfolding struct_in
    struct-found n =
        find-perm (λ (e : Struct). eqs e.name n) o.structs (named-once (λ (e : Struct). e.name) n b.structs none-twice.structs)

    pub constant-found : (n : Str) → constant_in n a.constants ≡ constant_in n b.constants
    unfolding constant_in
    constant-found n =
        find-perm (λ (e : Const). eqs e.name n) o.constants (named-once (λ (e : Const). e.name) n b.constants none-twice.constants)

    pub constant-last : (n : Str) → last_constant n a.constants ≡ last_constant n b.constants
    unfolding last_constant
    constant-last n =
        last-perm (λ (e : Const). eqs e.name n) o.constants (named-once (λ (e : Const). e.name) n a.constants oa.constants)
        (named-once (λ (e : Const). e.name) n b.constants none-twice.constants)

    pub constants-sorted : sorted (λ (c : Const). c.name) a.constants ≡ sorted (λ (c : Const). c.name) b.constants
    constants-sorted = sorted-perm (λ (c : Const). c.name) o.constants oa.constants none-twice.constants

    slot-found : (x : Str) → struct_in_slot x a.structs ≡ struct_in_slot x b.structs
    unfolding struct_in_slot
    slot-found x =
        find-perm (λ (t : Struct). is_text t.slot x) o.structs
        (λ s t i j e f. slot-only b.structs none-twice.slots i j (is_text→eq s.slot x e) (is_text→eq t.slot x f))

    roots-found : (xs : List Str) → roots_in a.structs xs ≡ roots_in b.structs xs
    unfolding roots_in
    roots-found [] = refl
    roots-found (x ∷ xs) = ap₂ with_name (slot-found x) (roots-found xs)

    pub versioned-found : versioned a.structs ≡ versioned b.structs
    unfolding versioned
    versioned-found = roots-found slot_order

    pub generation-found : (n : Str) → generation_of a.structs a.constants n ≡ generation_of b.structs b.constants n
    unfolding generation_of
    generation-found n = ap (of_struct a.constants) (struct-found n) ∙ held (struct_in n b.structs)
      where
        version : (k : Option Str) → of_version a.constants k ≡ of_version b.constants k
        version None = unfold of_version in refl
        version (Some k) = unfold of_version in ap (of_constant k) (constant-found k)

        held : (t : Option Struct) → of_struct a.constants t ≡ of_struct b.constants t
        held None = unfold of_struct in refl
        held (Some t) = unfold of_struct in version t.version

    pub is-generation : (n : Str) → is_generation a.structs a.constants n ≡ is_generation b.structs b.constants n
    unfolding is_generation held_by_any any
    is-generation n i = any (λ (r : Str). holds_in n (generation-found r i)) (versioned-found i)

    -- owners --------------------------------------------------------------------------------------------------------------

    slot-known : (n : Str) → has_slot (types_in a) n ≡ has_slot (types_in b) n
    unfolding has_slot
    slot-known n = ap slotted (struct-found n)

    fields-perm : (n : Str) → Permᴰ (type_fields (types_in a) n) (type_fields (types_in b) n)
    unfolding type_fields fields_in
    fields-perm n =
        Permᴰ.trans (perm-eq (ap (λ (t : Option Struct). fields_in t (family_in n a.families)) (struct-found n)))
        (go (struct_in n b.structs) (family-found n))
      where
        go : (t : Option Struct) {p q : Option Family} → OptionRel (FoundAs PermutedFamily b.families) p q
            → Permᴰ (fields_in t p) (fields_in t q)
        go (Some t) w = Permᴰ.refl t.fields
        go None (neither e f) = perm-eq (ap (fields_in None) (e ∙ sym f))
        go None (both_hold {x = x} {y = y} e f r) =
            perm-by (ap (fields_in None) e) (ap (fields_in None) f)
            (perm-append (perm-eq r.0.common)
            (perm-by (variants-flat x.variants) (variants-flat y.variants) (perm-flat_map (λ (v : Variant). v.fields) r.0.variants)))

    pub roots-same : roots (types_in a) ≡ roots (types_in b)
    unfolding roots
    roots-same = roots-found ownership_order

-- where the fields of each type are the same, references lead where they led
module _ (a b : Types) (fields : (n : Str) → Permᴰ (type_fields a n) (type_fields b n)) (slots : (n : Str) → has_slot a n ≡ has_slot b n) where
  leads-there : (m n : Str) → Leads a m n → Leads b m n
  leads-there m n (here e) = here e
  leads-there m n (along {m = k} l e) =
      along (leads-there m k l) (record {
        field = e.field;
        is_field = perm-mem (fields k) e.is_field;
        names = e.names;
        free = sym (slots n) ∙ e.free;
      })

module _ (a b : Types) (fields : (n : Str) → Permᴰ (type_fields a n) (type_fields b n)) (slots : (n : Str) → has_slot a n ≡ has_slot b n)
    (same : roots a ≡ roots b) where
  first-there : (n : Str) (rs : List Str) (r : Str) → First a n rs r → First b n rs r
  first-there n rs r (now {q = q} e l) = now e (leads-there a b fields slots q n l)
  first-there n rs r (later {q = q} {rs = qs} x f) =
      later (λ l. x (leads-there b a (λ k. Permᴰ.symm (fields k)) (λ k. sym (slots k)) q n l)) (first-there n qs r f)

  owner-there : (n r : Str) → owner_of a n ≡ Some r → owner_of b n ≡ Some r
  owner-there n r e =
      (owner-is-first b n r).1 (subst (λ (rs : List Str). First b n rs r) same (first-there n (roots a) r ((owner-is-first a n r).0 e)))

pub owner-same : (a b : Schema) → Permuted a b → NoneTwice a → (n : Str) → owner_of (types_in a) n ≡ owner_of (types_in b) n
owner-same a b o oa n = go (owner_of (types_in a) n) (owner_of (types_in b) n) refl refl
  where
    go : (x y : Option Str) → owner_of (types_in a) n ≡ x → owner_of (types_in b) n ≡ y → x ≡ y
    go None None e f = refl
    go None (Some r) e f =
        absurd (none≢some (sym e ∙ owner-there (types_in b) (types_in a) (λ k. Permᴰ.symm (fields-perm a b o oa k)) (λ k. sym (slot-known a b o oa k))
        (sym (roots-same a b o oa)) n r f))
    go (Some r) y e f = sym (owner-there (types_in a) (types_in b) (fields-perm a b o oa) (slot-known a b o oa) (roots-same a b o oa) n r e) ∙ f
