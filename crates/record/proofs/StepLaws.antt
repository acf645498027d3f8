-- The laws of each list, as a walk along it needs them. Written by tools/lists.py. Assumes nothing.
use Rattle.std.specs.Prelude.{Some, None}
use mathlib.Core.Path.{◌≡◌, ap, subst, ◌∙◌}
use mathlib.Core.List.{[], ◌∷◌}
use Prim.Native.Nat.{ℕ, suc, ◌-◌, ◌≤◌, ◌<◌}
use native.Mathlib.Omega.{arith}
use lib.ListN.{length}
use Rattle.record.specs.Base.{Str}
use Rattle.record.specs.Commands.{Step}
use Rattle.record.specs.Lists.{alias_of, bitfield_of, constant_of, enum_of, family_of, field_of, key_of, member_of, struct_of, value_of, variant_of, version_of}
use Rattle.record.specs.Steps.{field_key_at, FieldPlace, FieldPlaced, constants_at, constants_of, constants_left, ConstantsFrom, aliases_at, aliases_of, aliases_left, AliasesFrom, values_at, values_of, values_left, ValuesFrom, enums_at, enums_of, enums_left, EnumsFrom, members_at, members_of, members_left, MembersFrom, bitfields_at, bitfields_of, bitfields_left, BitfieldsFrom, keys_at, keys_of, KeysFrom, fields_at, fields_of, fields_left, FieldsFrom, structs_at, structs_of, structs_left, StructsFrom, variants_at, variants_of, variants_left, VariantsFrom, families_at, families_of, families_left, FamiliesFrom, unstored_at, unstored_of, UnstoredFrom, versions_at, versions_of, versions_left, VersionsFrom}
use Rattle.record.specs.declared.command as D
use Rattle.record.specs.declared.command.Cursor.{Cursor}

module _ (s : Str) (at : ℕ) (r : Step D.Constant.Constant) (f : ConstantsFrom s at r) where
  -- the list itself, at the step
  pub constants-over-now : (p : Str) → r ≡ None → constants_at s p at ≡ []
  constants-over-now p m = f.list p ∙ ap (constants_of s p) m

  pub constants-now : (p : Str) (e : D.Constant.Constant) (k : Cursor) → r ≡ Some (e, k) → constants_at s p at ≡ constant_of p e ∷ constants_at s p k.at
  constants-now p e k m = f.list p ∙ ap (constants_of s p) m

  pub constants-nearer : (e : D.Constant.Constant) (k : Cursor) → r ≡ Some (e, k) → length s - k.at < length s - at
  constants-nearer e k m = let h : suc (length s - k.at) ≤ length s - at = subst (λ x. constants_left s x ≤ length s - at) m f.left in omega arith

module _ (s : Str) (at : ℕ) (r : Step D.TypeAlias.TypeAlias) (f : AliasesFrom s at r) where
  -- the list itself, at the step
  pub aliases-over-now : (p : Str) → r ≡ None → aliases_at s p at ≡ []
  aliases-over-now p m = f.list p ∙ ap (aliases_of s p) m

  pub aliases-now : (p : Str) (e : D.TypeAlias.TypeAlias) (k : Cursor) → r ≡ Some (e, k) → aliases_at s p at ≡ alias_of p e ∷ aliases_at s p k.at
  aliases-now p e k m = f.list p ∙ ap (aliases_of s p) m

  pub aliases-nearer : (e : D.TypeAlias.TypeAlias) (k : Cursor) → r ≡ Some (e, k) → length s - k.at < length s - at
  aliases-nearer e k m = let h : suc (length s - k.at) ≤ length s - at = subst (λ x. aliases_left s x ≤ length s - at) m f.left in omega arith

module _ (s : Str) (at : ℕ) (r : Step D.Value.Value) (f : ValuesFrom s at r) where
  -- the list itself, at the step
  pub values-over-now : (p : Str) → r ≡ None → values_at s p at ≡ []
  values-over-now p m = f.list p ∙ ap (values_of s p) m

  pub values-now : (p : Str) (e : D.Value.Value) (k : Cursor) → r ≡ Some (e, k) → values_at s p at ≡ value_of p e ∷ values_at s p k.at
  values-now p e k m = f.list p ∙ ap (values_of s p) m

  pub values-nearer : (e : D.Value.Value) (k : Cursor) → r ≡ Some (e, k) → length s - k.at < length s - at
  values-nearer e k m = let h : suc (length s - k.at) ≤ length s - at = subst (λ x. values_left s x ≤ length s - at) m f.left in omega arith

module _ (s : Str) (at : ℕ) (r : Step D.Enum.Enum) (f : EnumsFrom s at r) where
  -- the list itself, at the step
  pub enums-over-now : (p : Str) → r ≡ None → enums_at s p at ≡ []
  enums-over-now p m = f.list p ∙ ap (enums_of s p) m

  pub enums-now : (p : Str) (e : D.Enum.Enum) (k : Cursor) → r ≡ Some (e, k) → enums_at s p at ≡ enum_of p e (values_at s p k.at) ∷ enums_at s p k.at
  enums-now p e k m = f.list p ∙ ap (enums_of s p) m

  pub enums-nearer : (e : D.Enum.Enum) (k : Cursor) → r ≡ Some (e, k) → length s - k.at < length s - at
  enums-nearer e k m = let h : suc (length s - k.at) ≤ length s - at = subst (λ x. enums_left s x ≤ length s - at) m f.left in omega arith

module _ (s : Str) (at : ℕ) (r : Step D.Member.Member) (f : MembersFrom s at r) where
  -- the list itself, at the step
  pub members-over-now : (p : Str) → r ≡ None → members_at s p at ≡ []
  members-over-now p m = f.list p ∙ ap (members_of s p) m

  pub members-now : (p : Str) (e : D.Member.Member) (k : Cursor) → r ≡ Some (e, k) → members_at s p at ≡ member_of p e ∷ members_at s p k.at
  members-now p e k m = f.list p ∙ ap (members_of s p) m

  pub members-nearer : (e : D.Member.Member) (k : Cursor) → r ≡ Some (e, k) → length s - k.at < length s - at
  members-nearer e k m = let h : suc (length s - k.at) ≤ length s - at = subst (λ x. members_left s x ≤ length s - at) m f.left in omega arith

module _ (s : Str) (at : ℕ) (r : Step D.Bitfield.Bitfield) (f : BitfieldsFrom s at r) where
  -- the list itself, at the step
  pub bitfields-over-now : (p : Str) → r ≡ None → bitfields_at s p at ≡ []
  bitfields-over-now p m = f.list p ∙ ap (bitfields_of s p) m

  pub bitfields-now : (p : Str) (e : D.Bitfield.Bitfield) (k : Cursor) → r ≡ Some (e, k) → bitfields_at s p at ≡ bitfield_of p e (members_at s p k.at) ∷ bitfields_at s p k.at
  bitfields-now p e k m = f.list p ∙ ap (bitfields_of s p) m

  pub bitfields-nearer : (e : D.Bitfield.Bitfield) (k : Cursor) → r ≡ Some (e, k) → length s - k.at < length s - at
  bitfields-nearer e k m = let h : suc (length s - k.at) ≤ length s - at = subst (λ x. bitfields_left s x ≤ length s - at) m f.left in omega arith

module _ (s : Str) (at : ℕ) (r : Step D.PluginKey.PluginKey) (f : KeysFrom s at r) where
  -- the list itself, at the step
  pub keys-over-now : (p : Str) → r ≡ None → keys_at s p at ≡ []
  keys-over-now p m = f.list p ∙ ap (keys_of s p) m

  pub keys-now : (p : Str) (e : D.PluginKey.PluginKey) (k : Cursor) → r ≡ Some (e, k) → keys_at s p at ≡ key_of p e ∷ keys_at s p k.at
  keys-now p e k m = f.list p ∙ ap (keys_of s p) m

module _ (s : Str) (at : ℕ) (r : Step D.Field.Field) (f : FieldsFrom s at r) where
  -- the list itself, at the step
  pub fields-over-now : (p : Str) → r ≡ None → fields_at s p at ≡ []
  fields-over-now p m = f.list p ∙ ap (fields_of s p) m

  pub fields-now : (p : Str) (e : D.Field.Field) (k : Cursor) → r ≡ Some (e, k) → fields_at s p at ≡ field_of p e (field_key_at s p k.at) ∷ fields_at s p k.at
  fields-now p e k m = f.list p ∙ ap (fields_of s p) m

  pub fields-nearer : (e : D.Field.Field) (k : Cursor) → r ≡ Some (e, k) → length s - k.at < length s - at
  fields-nearer e k m = let h : suc (length s - k.at) ≤ length s - at = subst (λ x. fields_left s x ≤ length s - at) m f.left in omega arith

  pub fields-stand : (e : D.Field.Field) (k : Cursor) → r ≡ Some (e, k) → FieldPlace s at e k
  fields-stand e k m = subst (λ x. FieldPlaced s at x) m f.placed

module _ (s : Str) (at : ℕ) (r : Step D.Struct.Struct) (f : StructsFrom s at r) where
  -- the list itself, at the step
  pub structs-over-now : (p : Str) → r ≡ None → structs_at s p at ≡ []
  structs-over-now p m = f.list p ∙ ap (structs_of s p) m

  pub structs-now : (p : Str) (e : D.Struct.Struct) (k : Cursor) → r ≡ Some (e, k) → structs_at s p at ≡ struct_of p e (fields_at s p k.at) ∷ structs_at s p k.at
  structs-now p e k m = f.list p ∙ ap (structs_of s p) m

  pub structs-nearer : (e : D.Struct.Struct) (k : Cursor) → r ≡ Some (e, k) → length s - k.at < length s - at
  structs-nearer e k m = let h : suc (length s - k.at) ≤ length s - at = subst (λ x. structs_left s x ≤ length s - at) m f.left in omega arith

module _ (s : Str) (at : ℕ) (r : Step D.Variant.Variant) (f : VariantsFrom s at r) where
  -- the list itself, at the step
  pub variants-over-now : (p : Str) → r ≡ None → variants_at s p at ≡ []
  variants-over-now p m = f.list p ∙ ap (variants_of s p) m

  pub variants-now : (p : Str) (e : D.Variant.Variant) (k : Cursor) → r ≡ Some (e, k) → variants_at s p at ≡ variant_of p e (fields_at s p k.at) ∷ variants_at s p k.at
  variants-now p e k m = f.list p ∙ ap (variants_of s p) m

  pub variants-nearer : (e : D.Variant.Variant) (k : Cursor) → r ≡ Some (e, k) → length s - k.at < length s - at
  variants-nearer e k m = let h : suc (length s - k.at) ≤ length s - at = subst (λ x. variants_left s x ≤ length s - at) m f.left in omega arith

module _ (s : Str) (at : ℕ) (r : Step D.Family.Family) (f : FamiliesFrom s at r) where
  -- the list itself, at the step
  pub families-over-now : (p : Str) → r ≡ None → families_at s p at ≡ []
  families-over-now p m = f.list p ∙ ap (families_of s p) m

  pub families-now : (p : Str) (e : D.Family.Family) (k : Cursor) → r ≡ Some (e, k) → families_at s p at ≡ family_of p e (fields_at s p k.at) (variants_at s p k.at) ∷ families_at s p k.at
  families-now p e k m = f.list p ∙ ap (families_of s p) m

  pub families-nearer : (e : D.Family.Family) (k : Cursor) → r ≡ Some (e, k) → length s - k.at < length s - at
  families-nearer e k m = let h : suc (length s - k.at) ≤ length s - at = subst (λ x. families_left s x ≤ length s - at) m f.left in omega arith

module _ (s : Str) (at : ℕ) (r : Step D.PluginKey.PluginKey) (f : UnstoredFrom s at r) where
  -- the list itself, at the step
  pub unstored-over-now : (p : Str) → r ≡ None → unstored_at s p at ≡ []
  unstored-over-now p m = f.list p ∙ ap (unstored_of s p) m

  pub unstored-now : (p : Str) (e : D.PluginKey.PluginKey) (k : Cursor) → r ≡ Some (e, k) → unstored_at s p at ≡ key_of p e ∷ unstored_at s p k.at
  unstored-now p e k m = f.list p ∙ ap (unstored_of s p) m

module _ (s : Str) (at : ℕ) (r : Step D.Version.Version) (f : VersionsFrom s at r) where
  -- the list itself, at the step
  pub versions-over-now : (p : Str) → r ≡ None → versions_at s p at ≡ []
  versions-over-now p m = f.list p ∙ ap (versions_of s p) m

  pub versions-now : (p : Str) (e : D.Version.Version) (k : Cursor) → r ≡ Some (e, k) → versions_at s p at ≡ version_of p e ∷ versions_at s p k.at
  versions-now p e k m = f.list p ∙ ap (versions_of s p) m

  pub versions-nearer : (e : D.Version.Version) (k : Cursor) → r ≡ Some (e, k) → length s - k.at < length s - at
  versions-nearer e k m = let h : suc (length s - k.at) ≤ length s - at = subst (λ x. versions_left s x ≤ length s - at) m f.left in omega arith
