-- The plugin keys of a record: plugin_keys of schema.rs and of released.rs. Assumes nothing.
use Rattle.std.specs.Prelude.{◌≡◌, List, [], ◌∷◌, ℕ, ◌≤◌, Option, Some, None}
use Rattle.record.specs.Base.{Str, with_some}
use Rattle.record.specs.Schema.{Key, Field, Struct}
use Rattle.record.specs.Commands.{place}
use Rattle.record.specs.Lists.{key_of}
use Rattle.record.specs.Steps.{fields_at, structs_at, unstored_at}
use Rattle.record.specs.declared.keys.KeysAt.{KeysAt}
use Rattle.record.specs.declared.keys.KeysAt.TheVariants.{Stored, Unstored}
use Rattle.record.specs.declared.keys.StoredAt.{StoredAt}
use Rattle.record.specs.declared.keys.StoredAt.TheVariants.{Structs, Fields}
use Rattle.record.specs.declared.keys.FieldKey.{FieldKey}
use Rattle.record.specs.declared.keys.FieldKey.TheVariants.{Ended, Keyed}
use Rattle.record.specs.declared.command as D

unfoldable pub field_keys : List Field → List Key → List Key
field_keys [] l = l
field_keys (f ∷ fs) l = with_some f.key (field_keys fs l)

-- the keys of structures' fields, then the unstored ones, as all have one id; those of families and variants are not looked at
unfoldable pub plugin_keys : List Struct → List Key → List Key
plugin_keys [] l = l
plugin_keys (t ∷ ts) l = field_keys t.fields (plugin_keys ts l)

-- the walk ----------------------------------------------------------------------------------------------------------------

-- what is left of the walk over structures' fields, before some keys
unfoldable pub stored_from : Str → Str → StoredAt → List Key → List Key
stored_from s p (Structs k) l = plugin_keys (structs_at s p k.at) l
stored_from s p (Fields k) l = field_keys (fields_at s p k.at) (plugin_keys (structs_at s p k.at) l)

-- what is left of the walk over all keys
unfoldable pub keys_from : Str → Str → KeysAt → List Key
keys_from s p (Stored k) = stored_from s p k (unstored_at s p 0)
keys_from s p (Unstored k) = unstored_at s p k.at

-- nothing is taken yet, in any record
pub record AllStored (r : StoredAt) : Type 0 where
  pub list : (s p : Str) (l : List Key) → stored_from s p r l ≡ plugin_keys (structs_at s p 0) l

pub record AllKeys (r : KeysAt) : Type 0 where
  pub list : (s p : Str) → keys_from s p r ≡ plugin_keys (structs_at s p 0) (unstored_at s p 0)

-- the list at a step
abbrev pub stored_of : Str → Str → Option (D.PluginKey.PluginKey × StoredAt) → List Key → List Key
stored_of s p None l = l
stored_of s p (Some (e, k)) l = key_of p e ∷ stored_from s p k l

pub record StoredFrom (s : Str) (at : StoredAt) (r : Option (D.PluginKey.PluginKey × StoredAt)) : Type 0 where
  pub list : (p : Str) (l : List Key) → stored_from s p at l ≡ stored_of s p r l

abbrev pub plugin_keys_of : Str → Str → Option (D.PluginKey.PluginKey × KeysAt) → List Key
plugin_keys_of s p None = []
plugin_keys_of s p (Some (e, k)) = key_of p e ∷ keys_from s p k

pub record PluginKeysFrom (s : Str) (at : KeysAt) (r : Option (D.PluginKey.PluginKey × KeysAt)) : Type 0 where
  pub list : (p : Str) → keys_from s p at ≡ plugin_keys_of s p r

-- the list at a step along the fields, and where they end
abbrev pub field_keys_of : Str → Str → FieldKey → List Key → List Key
field_keys_of s p (Ended k) l = stored_from s p (Structs k) l
field_keys_of s p (Keyed e k) l = key_of p e ∷ stored_from s p (Fields k) l

abbrev pub EndsAhead : ℕ → FieldKey → Type 0
EndsAhead at (Ended k) = at ≤ k.at
EndsAhead at (Keyed e k) = Unit

pub record InFields (s : Str) (at : ℕ) (r : FieldKey) : Type 0 where
  pub list : (p : Str) (l : List Key) → stored_from s p (Fields (place at)) l ≡ field_keys_of s p r l
  pub ahead : EndsAhead at r
