-- Ownership: referenced_type, slot_of, struct_in_slot, type_fields, claim and ownership of schema.rs, and 01's sentence. Assumes nothing.
use Rattle.std.specs.Prelude.{◌≡◌, Bool, true, false, ℕ, zero, suc, ◌+◌, length, Option, Some, None}
use mathlib.Core.List.{List, [], ◌∷◌, ◌++◌, map, Memᴰ}
use Rattle.record.specs.Base.{Str, bytes, eqs, is_text, is_some, find}
use Rattle.record.specs.Schema.{Schema, Field, Struct, Family, Variant}
use Rattle.record.specs.Steps.{struct_in, family_in}
use Rattle.record.specs.Kind.{kind_of}
use Rattle.record.specs.declared.kind.Kind.{Kind}
use Rattle.record.specs.declared.kind.Kind.TheVariants as K

-- the types that references lead through
pub record Types : Type 0 where
  pub structs : List Struct
  pub families : List Family

abbrev pub types_in : Schema → Types
types_in s = record { structs = s.structs; families = s.families }

-- the first structure with this slot text
unfoldable pub struct_in_slot : Str → List Struct → Option Struct
struct_in_slot slot l = find (λ (t : Struct). is_text t.slot slot) l

unfoldable pub slotted : Option Struct → Bool
slotted None = false
slotted (Some t) = is_some t.slot

-- whether the first structure of this name has slot text, whatever it says
unfoldable pub has_slot : Types → Str → Bool
has_slot t n = slotted (struct_in n t.structs)

unfoldable pub referenced_as : Kind → Field → Option Str
referenced_as K.StructPtr f = f.typ
referenced_as K.TaggedFamPtr f = f.typ
referenced_as K.SimpleFamPtr f = f.typ
referenced_as K.StructArrayPtr f = f.element
referenced_as K.StructPtrArrayPtr f = f.element
referenced_as K.Scalar f = None
referenced_as K.Enum f = None
referenced_as K.TypeAlias f = None
referenced_as K.Bitfield f = None
referenced_as K.InlineArray f = None
referenced_as K.InlineArray2d f = None
referenced_as K.CstrPtr f = None
referenced_as K.OpaquePtr f = None
referenced_as K.FnPtr f = None
referenced_as K.Padding f = None
referenced_as K.Text f = None
referenced_as K.Other f = None

-- the name that a field refers to
unfoldable pub referenced : Field → Option Str
referenced f = referenced_as (kind_of f.kind) f

unfoldable pub variant_fields : List Variant → List Field
variant_fields [] = []
variant_fields (v ∷ vs) = v.fields ++ variant_fields vs

unfoldable pub fields_in : Option Struct → Option Family → List Field
fields_in (Some t) m = t.fields
fields_in None (Some m) = m.common ++ variant_fields m.variants
fields_in None None = []

-- the fields of the first structure of this name, else of the first family
unfoldable pub type_fields : Types → Str → List Field
type_fields t n = fields_in (struct_in n t.structs) (family_in n t.families)

-- the map of owners: a name and its root, the first entry of a name counts
pub record Owned : Type 0 where
  pub name : Str
  pub root : Str

unfoldable pub owned_in : List Owned → Str → Option Owned
owned_in os n = find (λ (o : Owned). eqs o.name n) os

-- the walk ---------------------------------------------------------------------------------------------------------------

-- g is made only where the test fails, or nothing is found
unfoldable pub unless : Bool → (List Owned → List Owned) → List Owned → List Owned
unless true g os = os
unless false g os = g os

unfoldable pub enter : Option Owned → (List Owned → List Owned) → List Owned → List Owned
enter (Some o) g os = os
enter None g os = g os

-- a field's walk visits the type it names
unfoldable pub visit : (Str → List Owned → List Owned) → Types → Option Str → List Owned → List Owned
visit go t None os = os
visit go t (Some n) os = unless (has_slot t n) (go n) os

-- a type's walk visits its fields
unfoldable pub visit_all : (Str → List Owned → List Owned) → Types → List Field → List Owned → List Owned
visit_all go t [] os = os
visit_all go t (f ∷ fs) os = visit_all go t fs (visit go t (referenced f) os)

unfoldable pub claim : ℕ → Types → Str → Str → List Owned → List Owned
claim zero t root n os = os
claim (suc k) t root n os =
    enter (owned_in os n) (λ (x : List Owned). visit_all (claim k t root) t (type_fields t n) (record { name = n; root = root } ∷ x)) os

unfoldable pub declared : Types → List Str
declared t = map (λ (s : Struct). s.name) t.structs ++ map (λ (m : Family). m.name) t.families

unfoldable pub claim_roots : Types → List Str → List Owned → List Owned
claim_roots t [] os = os
claim_roots t (r ∷ rs) os = claim_roots t rs (claim (length (declared t) + 1) t r r os)

unfoldable pub with_name : Option Struct → List Str → List Str
with_name None l = l
with_name (Some s) l = s.name ∷ l

-- the names of the structures that fill these slots
unfoldable pub roots_in : List Struct → List Str → List Str
roots_in ss [] = []
roots_in ss (x ∷ xs) = with_name (struct_in_slot x ss) (roots_in ss xs)

-- the order in which ownership resolves: OWNERSHIP_SLOT_ORDER of schema.rs. 01: in slot order metadata, runtime, info
unfoldable pub ownership_order : List Str
ownership_order = bytes "metadata" ∷ bytes "runtime" ∷ bytes "info" ∷ []

unfoldable pub roots : Types → List Str
roots t = roots_in t.structs ownership_order

unfoldable pub root_of : Option Owned → Option Str
root_of None = None
root_of (Some o) = Some o.root

unfoldable pub owner_of : Types → Str → Option Str
owner_of t n = root_of (owned_in (claim_roots t (roots t) []) n)

-- 01's sentence: the first root, in slot order metadata, runtime, info, from which references lead to the name without entering a structure
-- with any slot text ------------------------------------------------------------------------------------------------------

-- a field of m names n, and n is no structure with slot text
pub record Edge (t : Types) (m n : Str) : Type 0 where
  pub field : Field
  pub is_field : Memᴰ field (type_fields t m)
  pub names : referenced field ≡ Some n
  pub free : has_slot t n ≡ false

-- references lead from a to b
pub data Leads (t : Types) (a : Str) : Str → Type 0 where
  here : {b : Str} → a ≡ b → Leads t a b
  along : {m b : Str} → Leads t a m → Edge t m b → Leads t a b

-- r is the first of these roots that leads to n
pub data First (t : Types) (n : Str) : List Str → Str → Type 0 where
  now : {r q : Str} {rs : List Str} → q ≡ r → Leads t q n → First t n (q ∷ rs) r
  later : {r q : Str} {rs : List Str} → (Leads t q n → ⊥) → First t n rs r → First t n (q ∷ rs) r
