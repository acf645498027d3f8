-- Tests for the premises of demand 3 and of W-214: a record whose schema passes one meets the premise. Assumes nothing.
use Rattle.std.specs.Prelude.{Option, Some, None}
use mathlib.Core.Path.{◌≡◌, refl, sym, ◌∙◌, ap, subst}
use mathlib.Core.List.Memᴰ
use mathlib.Core.List.{List, [], ◌∷◌, ◌++◌, map, Memᴰ}
use mathlib.Core.Bool.{Bool, true, false, ◌&&◌, not, false≢true}
use Prim.Native.Nat.{ℕ, zero, suc}
use native.Mathlib.Omega.{arith}
use lib.Dec.{eqb}
use lib.ListN.{get_or, take}
use borrow.Author.Tests.{eq-eqb}
use Rattle.record.specs.Base.{Str, eqs, is_text, is_some, any}
use Rattle.record.specs.Schema.{Schema, Value, integer, words, Const, Alias, Enum, EnumValue, BitField, Member, Field, Struct, Family, Variant, Key}
use Rattle.record.specs.Steps.{constant_in}
use Rattle.record.specs.Keys.{plugin_keys}
use Rattle.record.specs.Kind.{kind_words}
use Rattle.record.specs.Shapes.{FieldLayout}
use Rattle.record.specs.Owner.{types_in, owner_of}
use Rattle.record.specs.Versioned.{slot_order}
use Rattle.record.specs.Reading.{Rec, schema_of}
use Rattle.record.specs.declared.refusal.Side.TheVariants.{Released}
use Rattle.record.proofs.Basics.{both, eqs→eq, eqs-refl, find-some, any_some}
use Rattle.record.proofs.Accepted.{accepted}
use Rattle.layout.specs.Layout.{TypeLayout, flattened, type_in}
use Rattle.definition.specs.Coverage.{owning}
use Rattle.definition.specs.Pass.{all_of}
use Rattle.definition.specs.Chain.{HasField, Kinded, Kinds, NoDup, slots_of, NoColon, Names, Carries, Holds, Laid, Governed}
use Rattle.definition.specs.Offers.{SchemaHas, All}
use Rattle.definition.specs.Sections.{NoneTwice}
use Rattle.definition.proofs.Lists.{all-of}
use Rattle.definition.proofs.Unmoved.{is_text→eq}

-- where no element passes a test, one that does is not there
absent : {A : Type 0} (p : A → Bool) (l : List A) → all_of (λ y. not (p y)) l ≡ true → {x : A} → p x ≡ true → Memᴰ x l → ⊥
absent p l h e m = false≢true (sym (ap not e) ∙ all-of (λ y. not (p y)) l h m)

-- kinds ------------------------------------------------------------------------------------------------------------------------------------

abbrev kinded_field : Field → Bool
kinded_field f = any (eqs f.kind) kind_words

abbrev kinded_fields : List Field → Bool
kinded_fields fs = all_of kinded_field fs

kinded-fields : (fs : List Field) → kinded_fields fs ≡ true → Kinded fs
kinded-fields fs h f m =
    let w = any_some (eqs f.kind) kind_words (all-of kinded_field fs h m) in
    Memᴰ.cast (eqs→eq f.kind w.0 w.2) w.1

abbrev kinded_struct : Struct → Bool
kinded_struct t = kinded_fields t.fields

abbrev kinded_variant : Variant → Bool
kinded_variant v = kinded_fields v.fields

abbrev kinded_family : Family → Bool
kinded_family m = kinded_fields m.common && all_of kinded_variant m.variants

kinded-family : (ms : List Family) → all_of kinded_family ms ≡ true → {m : Family} → Memᴰ m ms
    → (kinded_fields m.common ≡ true) × (all_of kinded_variant m.variants ≡ true)
kinded-family ms h {m} i = both (kinded_fields m.common) (all_of kinded_variant m.variants) (all-of kinded_family ms h i)

unfoldable pub kinded : Schema → Bool
kinded s = all_of kinded_struct s.structs && all_of kinded_family s.families

pub kinded-is : (s : Schema) → kinded s ≡ true → Kinds s
unfolding kinded
kinded-is s h =
    let k = both (all_of kinded_struct s.structs) (all_of kinded_family s.families) h in
    record {
      of-struct = λ t i. kinded-fields t.fields (all-of kinded_struct s.structs k.0 i);
      of-family = λ m i. kinded-fields m.common (kinded-family s.families k.1 i).0;
      of-variant = λ m i v j. kinded-fields v.fields (all-of kinded_variant m.variants (kinded-family s.families k.1 i).1 j);
    }

-- names ------------------------------------------------------------------------------------------------------------------------------------

distinct : List Str → Bool
distinct [] = true
distinct (x ∷ xs) = all_of (λ y. not (eqs x y)) xs && distinct xs

distinct-once : (l : List Str) → distinct l ≡ true → NoDup l
unfolding distinct
distinct-once [] h = tt
distinct-once (x ∷ xs) h =
    let k = both (all_of (λ y. not (eqs x y)) xs) (distinct xs) h in
    (absent (eqs x) xs k.0 (eqs-refl x), distinct-once xs k.1)

abbrev no_colon : Str → Bool
no_colon n = all_of (λ b. not (eqb 58 b)) n

no-colon : (n : Str) → no_colon n ≡ true → NoColon n
no-colon n h = absent (eqb 58) n h (eq-eqb 58 58 refl)

-- each once, and none with a colon
abbrev well_named : List Str → Bool
well_named l = distinct l && all_of no_colon l

abbrev struct_names : Schema → List Str
struct_names s = map (λ (t : Struct). t.name) s.structs

abbrev family_names : Schema → List Str
family_names s = map (λ (m : Family). m.name) s.families

unfoldable pub named : Schema → Bool
unfolding distinct
named s = well_named (struct_names s) && well_named (family_names s) && distinct (slots_of s.structs)

pub named-is : (s : Schema) → named s ≡ true → Names s
unfolding named
named-is s h =
    let k = both (well_named (struct_names s) && well_named (family_names s)) (distinct (slots_of s.structs)) h in
    let g = both (well_named (struct_names s)) (well_named (family_names s)) k.0 in
    let a = both (distinct (struct_names s)) (all_of no_colon (struct_names s)) g.0 in
    let b = both (distinct (family_names s)) (all_of no_colon (family_names s)) g.1 in
    record {
      structs-once = distinct-once (struct_names s) a.0;
      families-once = distinct-once (family_names s) b.0;
      slots-once = distinct-once (slots_of s.structs) k.1;
      struct-colons = λ t i. no-colon t.name (all-of no_colon (struct_names s) a.1 (Memᴰ.map (λ (t : Struct). t.name) i));
      family-colons = λ m i. no-colon m.name (all-of no_colon (family_names s) b.1 (Memᴰ.map (λ (m : Family). m.name) i));
    }

-- W-214's premise --------------------------------------------------------------------------------------------------------------------------

abbrev value_names : Enum → List Str
value_names e = map (λ (v : EnumValue). v.name) e.values

abbrev member_names : BitField → List Str
member_names b = map (λ (m : Member). m.name) b.members

-- the lists in which nothing may stand twice
lists : Schema → List (List Str)
lists s =
    map (λ (c : Const). c.name) s.constants ∷ map (λ (l : Alias). l.name) s.aliases ∷ map (λ (e : Enum). e.name) s.enums
    ∷ map (λ (b : BitField). b.name) s.bitfields ∷ struct_names s ∷ family_names s
    ∷ map (λ (k : Key). k.name) (plugin_keys s.structs s.unstored) ∷ slots_of s.structs ∷ map (λ (t : TypeLayout). t.name) (flattened s)
    ∷ map value_names s.enums ++ map member_names s.bitfields

unfoldable pub none_twice : Schema → Bool
unfolding lists distinct
none_twice s = all_of distinct (lists s)

all-at : (l : List (List Str)) → all_of distinct l ≡ true → (i : ℕ) → distinct (get_or l i []) ≡ true
unfolding all_of distinct
all-at [] h i = refl
all-at (x ∷ l) h zero = (both (distinct x) (all_of distinct l) h).0
all-at (x ∷ l) h (suc i) = all-at l (both (distinct x) (all_of distinct l) h).1 i

pub none-twice-is : (s : Schema) → none_twice s ≡ true → NoneTwice s
unfolding none_twice lists
none-twice-is s h = record {
  constants = at 0;
  aliases = at 1;
  enums = at 2;
  bitfields = at 3;
  structs = at 4;
  families = at 5;
  keys = at 6;
  slots = at 7;
  layouts = at 8;
  values = λ e m. distinct-once (value_names e) (of_part (Memᴰ.append_left (map member_names s.bitfields) (Memᴰ.map value_names m)));
  members = λ b m. distinct-once (member_names b) (of_part (Memᴰ.append_right (map value_names s.enums) (Memᴰ.map member_names m)));
}
  where
    at : (i : ℕ) → NoDup (get_or (lists s) i [])
    at i = distinct-once (get_or (lists s) i []) (all-at (lists s) h i)

    of_part : {l : List Str} → Memᴰ l (map value_names s.enums ++ map member_names s.bitfields) → distinct l ≡ true
    of_part m = all-of distinct (lists s) h (Memᴰ.append_right (take 9 (lists s)) m)

-- a number and a type under it --------------------------------------------------------------------------------------------------------------

integer_in : Value → Option ℕ
integer_in (integer n) = Some n
integer_in (words x) = None

held_in : Option Const → Option ℕ
held_in None = None
held_in (Some c) = integer_in c.value

-- the integer that the first constant of this name holds
unfoldable pub held : List Const → Str → Option ℕ
unfolding held_in integer_in
held cs k = held_in (constant_in k cs)

pub held-is : (cs : List Const) (k : Str) (n : ℕ) → held cs k ≡ Some n → Holds cs k n
unfolding held
held-is cs k n h = go (constant_in k cs) refl h
  where
    of : (v : Value) → integer_in v ≡ Some n → v ≡ integer n
    of (integer m) e = let q : m ≡ n = cc in ap integer q
    of (words x) e = absurd (let z : ◌≡◌ {A = ℕ} 0 1 = cc in omega arith)

    go : (o : Option Const) → constant_in k cs ≡ o → held_in o ≡ Some n → Holds cs k n
    go None e f = absurd (let z : ◌≡◌ {A = ℕ} 0 1 = cc in omega arith)
    go (Some c) e f = record { found = c; is_found = e; is-integer = of c.value f }

module _ (root k t : Str) where
  -- a structure of the root's name, under the constant, in one of the three slots
  abbrev bears : Struct → Bool
  bears x = eqs x.name root && is_text x.version k && any (is_text x.slot) slot_order

  carries : (ss : List Struct) → any bears ss ≡ true → Carries ss root k
  carries ss h =
      let w = any_some bears ss h in
      let x = w.0 in
      let a = both (eqs x.name root && is_text x.version k) (any (is_text x.slot) slot_order) w.2 in
      let b = both (eqs x.name root) (is_text x.version k) a.0 in
      let v = any_some (is_text x.slot) slot_order a.1 in
      record {
        struct = x;
        is-struct = w.1;
        struct-name = eqs→eq x.name root b.0;
        slot = v.0;
        is-slot = v.1;
        in-slot = is_text→eq x.slot v.0 v.2;
        names = is_text→eq x.version k b.1;
      }

  unfoldable pub governed : Schema → Bool
  unfolding held
  governed s = any bears s.structs && is_some (held s.constants k) && is_text (owner_of (types_in s) (owning t)) root

  pub governed-is : (s : Schema) → governed s ≡ true → Governed root k t s
  unfolding governed is_some
  governed-is s h =
      let a = both (any bears s.structs && is_some (held s.constants k)) (is_text (owner_of (types_in s) (owning t)) root) h in
      let b = both (any bears s.structs) (is_some (held s.constants k)) a.0 in
      let n = present (held s.constants k) b.1 in
      record {
        carries = carries s.structs b.0;
        number = n.0;
        holds = held-is s.constants k n.0 n.1;
        owned = is_text→eq (owner_of (types_in s) (owning t)) root a.1;
      }
    where
      present : (o : Option ℕ) → is_some o ≡ true → (n : ℕ) × (o ≡ Some n)
      present None e = absurd (false≢true e)
      present (Some n) e = (n, refl)

-- a field of a layout that is no padding is one that the record holds
pub laid-field : (ts : List TypeLayout) (t : Str) (fs : List FieldLayout) → Laid ts t fs → (f : FieldLayout) → Memᴰ f fs → f.padding ≡ false
    → HasField ts t f.name f.offset f.size f.described
unfolding type_in
laid-field ts t fs w f m real =
    let k = find-some (λ (u : TypeLayout). eqs u.name t) ts w.is_found in
    record {
      parent = w.found;
      is-parent = k.0;
      parent-name = eqs→eq w.found.name t k.1;
      child = f;
      is-child = subst (Memᴰ f) (sym w.is-fields) m;
      child-name = refl;
      child-offset = refl;
      child-size = refl;
      child-described = refl;
      child-real = real;
    }

-- records ----------------------------------------------------------------------------------------------------------------------------------

-- a premise of a record is one of its schema, the only one that it can be read as
pub sound : (P : Schema → Type 0) (r : Rec) → P (schema_of r) → SchemaHas P r
sound P r h s e = subst P (accepted Released r s e) h

-- all are sound whose schemas pass a test for the premise
pub all_sound : (P : Schema → Type 0) (test : Schema → Bool) → ((s : Schema) → test s ≡ true → P s)
    → (rs : List Rec) → all_of (λ (r : Rec). test (schema_of r)) rs ≡ true → All (SchemaHas P) rs
all_sound P test is rs h r m = sound P r (is (schema_of r) (all-of (λ (r : Rec). test (schema_of r)) rs h m))
