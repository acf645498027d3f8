-- A schema is read off what its commands say: equal contents, equal schema; and whether a type is vast too. Assumes nothing.
use Rattle.std.specs.Prelude.{Option, None}
use mathlib.Core.Path.{◌≡◌, refl, sym, ap, ap₂, ◌∙◌}
use mathlib.Core.List.{List, [], ◌∷◌, ◌++◌, map}
use mathlib.Core.Bool.{Bool, true, false, ◌||◌, cond}
use Prim.Native.Nat.{ℕ}
use lib.ListN.{get_or, drop}
use lib.Dec.{eqb}
use borrow.Author.Tests.{eqb-true}
use Rattle.record.specs.Base.{Str, bytes, first, or_else}
use Rattle.record.specs.Scalars.{Scalar}
use Rattle.record.specs.Le.{u16_at, u32_at, u64_at}
use Rattle.record.specs.Operands.{flag_at, opt_number_at}
use Rattle.record.specs.Commands.{operands, wide, family_at, commands_at}
use Rattle.record.specs.Schema.{Schema, Heading, words, integer, Const, Alias, Enum, EnumValue, BitField, Member, Key, Field, Struct, Variant, Family, Version}
use Rattle.record.specs.Lists.{listed, anything, nothing, a_key, a_field, heads, constants, aliases, values, enums, members, bitfields, keys, fields, structs, variants, families, unstored, versions, family_of}
use Rattle.record.specs.Shapes.{fam_prefix}
use Rattle.record.specs.Reading.{Rec, release_of, unreleased_of, schema_from, schema_of, Opened, opened_at, opened}
use Rattle.record.specs.CommandTexts.{no_text}
use Rattle.drafts.specs.Content.{Operand, text, maybe, plain, Content, bytes_at, operand_at, operands_at, operands_with, content_as, content_at, contents_of}

-- the operands of a content -----------------------------------------------------------------------------------------------

abbrev pub text_in : Operand → Str
text_in (text s) = s
text_in (maybe o) = []
text_in (plain s) = []

abbrev pub opt_in : Operand → Option Str
opt_in (text s) = None
opt_in (maybe o) = o
opt_in (plain s) = None

abbrev pub plain_in : Operand → Str
plain_in (text s) = []
plain_in (maybe o) = []
plain_in (plain s) = s

abbrev pub argument : ℕ → Content → Operand
argument i d = get_or d.operands i (plain [])

abbrev pub text_arg : ℕ → Content → Str
text_arg i d = text_in (argument i d)

abbrev pub opt_arg : ℕ → Content → Option Str
opt_arg i d = opt_in (argument i d)

abbrev pub plain_arg : ℕ → Content → Str
plain_arg i d = plain_in (argument i d)

-- lists read off contents -------------------------------------------------------------------------------------------------

unfoldable pub listed_in : {A : Type 0} → (ℕ → Bool) → ℕ → (Content → List Content → A) → List Content → List A
listed_in over b g [] = []
listed_in over b g (d ∷ ds) =
    cond (eqb d.number b) (g d ds ∷ listed_in over b g ds)
    (cond (over d.number) (listed_in over b g ds) [])

abbrev pub head_in : Content → Heading
head_in d = record { release = opt_arg 0 d; unreleased = flag_at (plain_arg 1 d) 0 }

abbrev pub constant_in : Content → Const
constant_in d = record {
  name = text_arg 0 d;
  value = cond (flag_at (plain_arg 1 d) 0) (words (or_else (opt_arg 3 d) [])) (integer (u64_at (plain_arg 2 d) 0));
  api = flag_at (plain_arg 4 d) 0;
  since = opt_arg 5 d;
}

abbrev pub alias_in : Content → Alias
alias_in d = record { name = text_arg 0 d; underlying = text_arg 1 d }

abbrev pub enum_in : Content → List EnumValue → Enum
enum_in d l = record { name = text_arg 0 d; size = u32_at (plain_arg 1 d) 0; api = flag_at (plain_arg 2 d) 0; since = opt_arg 3 d; values = l }

abbrev pub value_in : Content → EnumValue
value_in d = record { name = text_arg 0 d; number = u64_at (plain_arg 1 d) 0; since = opt_arg 2 d }

abbrev pub bitfield_in : Content → List Member → BitField
bitfield_in d l = record { name = text_arg 0 d; size = u32_at (plain_arg 1 d) 0; since = opt_arg 2 d; members = l }

abbrev pub member_in : Content → Member
member_in d = record { name = text_arg 0 d; bit = u32_at (plain_arg 1 d) 0; width = opt_number_at (plain_arg 2 d) 0; since = opt_arg 3 d }

abbrev pub struct_in : Content → List Field → Struct
struct_in d l = record { name = text_arg 0 d; slot = opt_arg 1 d; version = opt_arg 2 d; fields = l }

abbrev pub family_in : Content → List Field → List Variant → Family
family_in d l vs = record {
  name = text_arg 0 d;
  disc_field = text_arg 1 d;
  disc_type = text_arg 2 d;
  len_field = text_arg 3 d;
  len_type = opt_arg 4 d;
  standalone = flag_at (plain_arg 5 d) 0;
  common = l;
  variants = vs;
}

abbrev pub variant_in : Content → List Field → Variant
variant_in d l = record { disc = text_arg 0 d; fields = l }

abbrev pub field_in : Content → Option Key → Field
field_in d k = record {
  name = text_arg 0 d;
  kind = text_arg 1 d;
  typ = opt_arg 2 d;
  element = opt_arg 3 d;
  count = opt_number_at (plain_arg 4 d) 0;
  rows = opt_number_at (plain_arg 5 d) 0;
  cols = opt_number_at (plain_arg 6 d) 0;
  size = opt_number_at (plain_arg 7 d) 0;
  key = k;
}

abbrev pub key_in : Content → Key
key_in d = record { name = text_arg 0 d; since = opt_arg 1 d }

abbrev pub version_in : Content → Version
version_in d = record { struct = text_arg 0 d; version = u32_at (plain_arg 1 d) 0 }

unfoldable pub values_in : List Content → List EnumValue
values_in = listed_in nothing 5 (λ d ds. value_in d)

unfoldable pub members_in : List Content → List Member
members_in = listed_in nothing 7 (λ d ds. member_in d)

unfoldable pub keys_in : List Content → List Key
keys_in = listed_in nothing 12 (λ d ds. key_in d)

unfoldable pub fields_in : List Content → List Field
fields_in = listed_in a_key 11 (λ d ds. field_in d (first (keys_in ds)))

unfoldable pub variants_in : List Content → List Variant
variants_in = listed_in a_field 10 (λ d ds. variant_in d (fields_in ds))

unfoldable pub structs_in : List Content → List Struct
structs_in = listed_in anything 8 (λ d rest. struct_in d (fields_in rest))

unfoldable pub families_in : List Content → List Family
families_in = listed_in anything 9 (λ d rest. family_in d (fields_in rest) (variants_in rest))

unfoldable pub schema_in : List Scalar → List Content → Schema
schema_in w ds = record {
  scalars = w;
  release = release_of (first (listed_in anything 1 (λ d rest. head_in d) ds));
  unreleased = unreleased_of (first (listed_in anything 1 (λ d rest. head_in d) ds));
  constants = listed_in anything 2 (λ d rest. constant_in d) ds;
  aliases = listed_in anything 3 (λ d rest. alias_in d) ds;
  enums = listed_in anything 4 (λ d rest. enum_in d (values_in rest)) ds;
  bitfields = listed_in anything 6 (λ d rest. bitfield_in d (members_in rest)) ds;
  structs = structs_in ds;
  families = families_in ds;
  unstored = listed_in anything 13 (λ d rest. key_in d) ds;
  versions = listed_in anything 14 (λ d rest. version_in d) ds;
}

module _ (s p : Str) where
  module _ {A : Type 0} (over : ℕ → Bool) (b : ℕ) (f : ℕ → List ℕ → A) (g : Content → List Content → A)
      (same : (at : ℕ) (rest : List ℕ) → f at rest ≡ g (content_as p (drop at s) b) (map (content_at s p) rest)) where
    pub listed_in-map : (ps : List ℕ) → listed s over b f ps ≡ listed_in over b g (map (content_at s p) ps)
    unfolding listed listed_in content_at content_as
    listed_in-map [] = refl
    listed_in-map (at ∷ ps) = go (listed_in-map ps) (eqb (get_or s at 0) b) refl (over (get_or s at 0))
      where
        go : listed s over b f ps ≡ listed_in over b g (map (content_at s p) ps) → (t : Bool) → eqb (get_or s at 0) b ≡ t → (o : Bool)
            → cond t (f at ps ∷ listed s over b f ps) (cond o (listed s over b f ps) [])
            ≡ cond t (g (content_at s p at) (map (content_at s p) ps) ∷ listed_in over b g (map (content_at s p) ps)) (cond o (listed_in over b g (map (content_at s p) ps)) [])
        go ih true e o =
            let q : f at ps ≡ g (content_at s p at) (map (content_at s p) ps) = same at ps ∙ ap (λ (k : ℕ). g (content_as p (drop at s) k) (map (content_at s p) ps)) (sym (eqb-true (get_or s at 0) b e)) in
            ap₂ (λ (x : A) (l : List A). x ∷ l) q ih
        go ih false e true = ih
        go ih false e false = refl

  heads-in : (ps : List ℕ) → heads s p ps ≡ listed_in anything 1 (λ d rest. head_in d) (map (content_at s p) ps)
  unfolding heads content_as operands operands_with operands_at operand_at no_text bytes_at wide bytes u16_at u32_at u64_at opt_number_at flag_at
  heads-in = listed_in-map anything 1 _ _ (λ at rest. refl)

  constants-in : (ps : List ℕ) → constants s p ps ≡ listed_in anything 2 (λ d rest. constant_in d) (map (content_at s p) ps)
  unfolding constants content_as operands operands_with operands_at operand_at no_text bytes_at wide bytes u16_at u32_at u64_at opt_number_at flag_at
  constants-in = listed_in-map anything 2 _ _ (λ at rest. refl)

  aliases-in : (ps : List ℕ) → aliases s p ps ≡ listed_in anything 3 (λ d rest. alias_in d) (map (content_at s p) ps)
  unfolding aliases content_as operands operands_with operands_at operand_at no_text bytes_at wide bytes u16_at u32_at u64_at opt_number_at flag_at
  aliases-in = listed_in-map anything 3 _ _ (λ at rest. refl)

  values-in : (ps : List ℕ) → values s p ps ≡ values_in (map (content_at s p) ps)
  unfolding values values_in content_as operands operands_with operands_at operand_at no_text bytes_at wide bytes u16_at u32_at u64_at opt_number_at flag_at
  values-in = listed_in-map nothing 5 _ _ (λ at rest. refl)

  members-in : (ps : List ℕ) → members s p ps ≡ members_in (map (content_at s p) ps)
  unfolding members members_in content_as operands operands_with operands_at operand_at no_text bytes_at wide bytes u16_at u32_at u64_at opt_number_at flag_at
  members-in = listed_in-map nothing 7 _ _ (λ at rest. refl)

  keys_in-map : (ps : List ℕ) → keys s p ps ≡ keys_in (map (content_at s p) ps)
  unfolding keys keys_in content_as operands operands_with operands_at operand_at no_text bytes_at wide bytes u16_at u32_at u64_at opt_number_at flag_at
  keys_in-map = listed_in-map nothing 12 _ _ (λ at rest. refl)

  unstored-in : (ps : List ℕ) → unstored s p ps ≡ listed_in anything 13 (λ d rest. key_in d) (map (content_at s p) ps)
  unfolding unstored content_as operands operands_with operands_at operand_at no_text bytes_at wide bytes u16_at u32_at u64_at opt_number_at flag_at
  unstored-in = listed_in-map anything 13 _ _ (λ at rest. refl)

  versions-in : (ps : List ℕ) → versions s p ps ≡ listed_in anything 14 (λ d rest. version_in d) (map (content_at s p) ps)
  unfolding versions content_as operands operands_with operands_at operand_at no_text bytes_at wide bytes u16_at u32_at u64_at opt_number_at flag_at
  versions-in = listed_in-map anything 14 _ _ (λ at rest. refl)

  enums-in : (ps : List ℕ) → enums s p ps ≡ listed_in anything 4 (λ d rest. enum_in d (values_in rest)) (map (content_at s p) ps)
  unfolding enums content_as operands operands_with operands_at operand_at no_text bytes_at wide bytes u16_at u32_at u64_at opt_number_at flag_at
  enums-in = listed_in-map anything 4 _ _ (λ at rest. ap (λ (l : List EnumValue). enum_in (content_as p (drop at s) 4) l) (values-in rest))

  bitfields-in : (ps : List ℕ) → bitfields s p ps ≡ listed_in anything 6 (λ d rest. bitfield_in d (members_in rest)) (map (content_at s p) ps)
  unfolding bitfields content_as operands operands_with operands_at operand_at no_text bytes_at wide bytes u16_at u32_at u64_at opt_number_at flag_at
  bitfields-in = listed_in-map anything 6 _ _ (λ at rest. ap (λ (l : List Member). bitfield_in (content_as p (drop at s) 6) l) (members-in rest))

  fields_in-map : (ps : List ℕ) → fields s p ps ≡ fields_in (map (content_at s p) ps)
  unfolding fields fields_in content_as operands operands_with operands_at operand_at no_text bytes_at wide bytes u16_at u32_at u64_at opt_number_at flag_at
  fields_in-map = listed_in-map a_key 11 _ _ (λ at rest. ap (λ (l : List Key). field_in (content_as p (drop at s) 11) (first l)) (keys_in-map rest))

  structs-in : (ps : List ℕ) → structs s p ps ≡ structs_in (map (content_at s p) ps)
  unfolding structs structs_in content_as operands operands_with operands_at operand_at no_text bytes_at wide bytes u16_at u32_at u64_at opt_number_at flag_at
  structs-in = listed_in-map anything 8 _ _ (λ at rest. ap (λ (l : List Field). struct_in (content_as p (drop at s) 8) l) (fields_in-map rest))

  variants-in : (ps : List ℕ) → variants s p ps ≡ variants_in (map (content_at s p) ps)
  unfolding variants variants_in content_as operands operands_with operands_at operand_at no_text bytes_at wide bytes u16_at u32_at u64_at opt_number_at flag_at
  variants-in = listed_in-map a_field 10 _ _ (λ at rest. ap (λ (l : List Field). variant_in (content_as p (drop at s) 10) l) (fields_in-map rest))

  families-in : (ps : List ℕ) → families s p ps ≡ families_in (map (content_at s p) ps)
  unfolding families families_in content_as operands operands_with operands_at operand_at no_text bytes_at wide bytes u16_at u32_at u64_at opt_number_at flag_at
  families-in = listed_in-map anything 9 _ _ (λ at rest. ap₂ (λ (l : List Field) (v : List Variant). family_in (content_as p (drop at s) 9) l v) (fields_in-map rest) (variants-in rest))

-- what the commands at these places give, by what they say
pub schema-in : (r : Rec) (ps : List ℕ) → schema_from r ps ≡ schema_in r.scalars (map (content_at r.stream r.pool) ps)
unfolding schema_from schema_in
schema-in r ps =
    rw (
      heads-in r.stream r.pool ps,
      constants-in r.stream r.pool ps,
      aliases-in r.stream r.pool ps,
      enums-in r.stream r.pool ps,
      bitfields-in r.stream r.pool ps,
      structs-in r.stream r.pool ps,
      families-in r.stream r.pool ps,
      unstored-in r.stream r.pool ps,
      versions-in r.stream r.pool ps,
    )

pub schema-of : (r : Rec) → schema_of r ≡ schema_in r.scalars (contents_of r)
unfolding schema_of contents_of
schema-of r = schema-in r (commands_at r.stream 0)

-- the fields of every type that the stream opens
unfoldable pub opened_fields : List Content → List (List Field)
opened_fields [] = []
opened_fields (d ∷ ds) =
    cond (eqb d.number 9) ((fam_prefix (family_in d [] []) ++ fields_in ds) ∷ opened_fields ds)
    (cond (eqb d.number 8 || eqb d.number 10) (fields_in ds ∷ opened_fields ds) (opened_fields ds))

abbrev place_of : ℕ → List Field → Opened
place_of at fs = record { place = at; fields = fs }

module _ (s p : Str) where
  front-in : (at : ℕ) → fam_prefix (family_of p (family_at (drop at s)) [] []) ≡ fam_prefix (family_in (content_as p (drop at s) 9) [] [])
  unfolding fam_prefix content_as operands operands_with operands_at operand_at no_text bytes_at wide bytes u16_at u32_at u64_at opt_number_at flag_at
  front-in at = refl

  pub opened_in : (ps : List ℕ) → map (λ (t : Opened). t.fields) (opened s p ps) ≡ opened_fields (map (content_at s p) ps)
  unfolding opened opened_at opened_fields content_at content_as
  opened_in [] = refl
  opened_in (at ∷ ps) = go (opened_in ps) (eqb (get_or s at 0) 9) refl (eqb (get_or s at 0) 8 || eqb (get_or s at 0) 10)
    where
      go : map (λ (t : Opened). t.fields) (opened s p ps) ≡ opened_fields (map (content_at s p) ps) → (t : Bool) → eqb (get_or s at 0) 9 ≡ t → (o : Bool)
          → map (λ (t : Opened). t.fields) (cond t (place_of at (fam_prefix (family_of p (family_at (drop at s)) [] []) ++ fields s p ps) ∷ opened s p ps) (cond o (place_of at (fields s p ps) ∷ opened s p ps) (opened s p ps)))
          ≡ cond t ((fam_prefix (family_in (content_at s p at) [] []) ++ fields_in (map (content_at s p) ps)) ∷ opened_fields (map (content_at s p) ps))
          (cond o (fields_in (map (content_at s p) ps) ∷ opened_fields (map (content_at s p) ps)) (opened_fields (map (content_at s p) ps)))
      go ih true e o =
          let q = eqb-true (get_or s at 0) 9 e in
          let f : fam_prefix (family_of p (family_at (drop at s)) [] []) ≡ fam_prefix (family_in (content_at s p at) [] []) = front-in at ∙ ap (λ (k : ℕ). fam_prefix (family_in (content_as p (drop at s) k) [] [])) (sym q) in
          ap₂ (λ (x : List Field) (l : List (List Field)). x ∷ l) (ap₂ (λ (x y : List Field). x ++ y) f (fields_in-map s p ps)) ih
      go ih false e true = ap₂ (λ (x : List Field) (l : List (List Field)). x ∷ l) (fields_in-map s p ps) ih
      go ih false e false = ih
