-- The steps of the walk over the plugin keys, as the code's branches need them. Assumes nothing.
use Rattle.std.specs.Prelude.{Option, Some, None}
use mathlib.Core.Path.{◌≡◌, refl, sym, ap, subst, ◌∙◌}
use mathlib.Core.List.{List, ◌∷◌}
use mathlib.Core.Bool.{Bool, true, false}
use Prim.Native.Nat.{ℕ, suc, ◌+◌, ◌-◌, ◌≤◌, ◌<◌}
use native.Mathlib.Omega.{arith}
use borrow.Author.Tests.{eqb-true, eqb-false}
use lib.Dec.{eqb}
use lib.ListN.{length, drop}
use Rattle.record.specs.Base.{Str, first, with_some}
use Rattle.record.specs.Schema.{Key}
use Rattle.record.specs.Commands.{width_of, step_at, field_at, start, place, commands_at}
use Rattle.record.specs.Seek.{places_of, places_left, SoughtFrom}
use Rattle.record.specs.Lists.{listed, anything, a_key, structs}
use Rattle.record.specs.Steps.{keys_at, KeysFrom, structs_at, StructsFrom, unstored_at, UnstoredFrom}
use Rattle.record.specs.declared.command as D
use Rattle.record.specs.declared.command.Cursor.{Cursor}
use Rattle.record.specs.declared.command.Command.{Command}
use Rattle.record.specs.declared.seek.Between.TheVariants as Between
use Rattle.record.proofs.Stream.{step-found, along}
use Rattle.record.proofs.ListLaws.{byte_of, byte-is, listed-stop, listed_here, listed-over, listed-end}
use Rattle.record.proofs.SeekLaws.{sought-stands}
use Rattle.record.specs.Listings.{bare, field_list}
use Rattle.record.proofs.ListingLaws.{listing-over, listing-next}
use Rattle.record.proofs.StepLaws.{keys-now, keys-over-now, fields-now, fields-over-now, structs-now, structs-over-now, structs-nearer, unstored-now, unstored-over-now}
use Rattle.record.specs.declared.keys.KeysAt.{KeysAt}
use Rattle.record.specs.declared.lists.UnstoredKey.{UnstoredKey}
use Rattle.record.specs.declared.keys.KeysAt.TheVariants.{Stored, Unstored}
use Rattle.record.specs.declared.keys.StoredAt.{StoredAt}
use Rattle.record.specs.declared.keys.StoredAt.TheVariants.{Structs, Fields}
use Rattle.record.specs.declared.keys.FieldKey.{FieldKey}
use Rattle.record.specs.declared.keys.FieldKey.TheVariants.{Ended, Keyed}
use Rattle.record.specs.Keys.{field_keys, plugin_keys, stored_from, stored_of, keys_from, AllStored, AllKeys, StoredFrom, PluginKeysFrom, field_keys_of, EndsAhead, InFields}
use Rattle.record.specs.Commands.{Step}

-- fields ------------------------------------------------------------------------------------------------------------------

-- no structure stands between fields and their keys
module _ {A : Type 0} (s : Str) (f : ℕ → List ℕ → A) where
  Past : ℕ → Type 0
  Past at = (a : ℕ) (l : List ℕ) → places_of s Between.Keys 11 at ≡ a ∷ l → listed s anything 8 f (commands_at s at) ≡ listed s anything 8 f (commands_at s (a + width_of 11))

  past_stop : (at : ℕ) → step_at s at ≡ None → Past at
  unfolding Past places_of
  past_stop at e a l q = let z : 0 ≡ suc (length l) = ap length (sym (listed-stop s a_key 11 (λ at rest. at) at e) ∙ q) in absurd (omega arith)

  past_next : (at : ℕ) (c : Command) (k : Cursor) → step_at s at ≡ Some (c, k) → Past k.at → Past at
  unfolding Past places_of
  past_next at c k e ih a l q = go (eqb (byte_of c) 11) (eqb (byte_of c) 12) refl refl
    where
      over : (n : ℕ) → byte_of c ≡ n → (n ≡ 8 → ⊥) → listed s anything 8 f (commands_at s at) ≡ listed s anything 8 f (commands_at s k.at)
      over n i j = listed-over s anything 8 f at c k e (λ y. j (sym i ∙ y)) refl

      go : (v w : Bool) → eqb (byte_of c) 11 ≡ v → eqb (byte_of c) 12 ≡ w → listed s anything 8 f (commands_at s at) ≡ listed s anything 8 f (commands_at s (a + width_of 11))
      go true w h i =
          let b = eqb-true (byte_of c) 11 h in
          let m : at ∷ places_of s Between.Keys 11 k.at ≡ a ∷ l = sym (listed_here s a_key 11 (λ at rest. at) at c k e b) ∙ q in
          let n : at ≡ a = cc in
          over 11 b (λ y. omega arith) ∙ ap (λ (j : ℕ). listed s anything 8 f (commands_at s j)) ((step-found s at c k e).wide ∙ ap (λ (x : ℕ). at + width_of x) (byte-is s at c k e ∙ b) ∙ ap (λ (x : ℕ). x + width_of 11) n)
      go false true h i = over 12 (eqb-true (byte_of c) 12 i) (λ y. omega arith) ∙ ih a l (sym (listed-over s a_key 11 (λ at rest. at) at c k e (eqb-false (byte_of c) 11 h) i) ∙ q)
      go false false h i = let z : 0 ≡ suc (length l) = ap length (sym (listed-end s a_key 11 (λ at rest. at) at c k e (eqb-false (byte_of c) 11 h) i) ∙ q) in absurd (omega arith)

  past : (at : ℕ) → Past at
  past = along s Past past_stop past_next

structs-past : (s p : Str) (at : ℕ) (r : Option (ℕ × ℕ)) → SoughtFrom s Between.Keys 11 at r → (a k : ℕ) → r ≡ Some (a, k) → structs_at s p at ≡ structs_at s p k
unfolding structs_at structs Past
structs-past s p at r i a k m =
    past s _ at a (places_of s Between.Keys 11 k) (i.list ∙ ap (places_left s Between.Keys 11) m)
    ∙ ap (structs_at s p) (sym (sought-stands s Between.Keys 11 at r i a k m).after)

-- no key stands in the fields between two places
pub record Keyless (s : Str) (a b : ℕ) : Type 0 where
  pub same : (p : Str) (l : List Key) → stored_from s p (Fields (place a)) l ≡ stored_from s p (Fields (place b)) l
  pub ahead : a ≤ b

pub keyless-here : (s : Str) (a : ℕ) → Keyless s a a
keyless-here s a = record { same = λ p l. refl; ahead = omega arith }

module _ (s : Str) (a at : ℕ) (o : Keyless s a at) (r : Option (ℕ × ℕ)) (f : SoughtFrom s Between.Keys 11 at r) where
  pub fields-ended : (c : Cursor) → r ≡ None → c ≡ place at → InFields s a (Ended c)
  unfolding stored_from field_keys
  fields-ended c m h = record {
    list = λ p l. o.same p l ∙ rw (fields-over-now s at None (listing-over field_list s at r f m) p refl, h);
    ahead = let i = o.ahead in let j : c.at ≡ at = ap (λ (x : Cursor). x.at) h in omega arith;
  }

  module _ (b k : ℕ) (m : r ≡ Some (b, k)) (c : Cursor) (h : c ≡ place k) (q : Step D.PluginKey.PluginKey) (g : KeysFrom s c.at q) where
    at-is : c.at ≡ k
    at-is = ap (λ (x : Cursor). x.at) h

    -- the field's own key comes first
    field-gives : (p : Str) (l : List Key) → stored_from s p (Fields (place a)) l ≡ with_some (first (keys_at s p c.at)) (stored_from s p (Fields c) l)
    unfolding stored_from field_keys
    field-gives p l =
        let y = drop b s in
        o.same p l
        ∙ rw (fields-now s at (Some (field_at y, c)) (listing-next field_list s at r f b k m y (field_at y) c refl refl h) p (field_at y) c refl, structs-past s p at r f b k m ∙ ap (structs_at s p) (sym at-is))

    pub field-keyed : (x : D.PluginKey.PluginKey) (z : Cursor) → q ≡ Some (x, z) → InFields s a (Keyed x c)
    unfolding with_some first
    field-keyed x z e = record { list = λ p l. field-gives p l ∙ rw (keys-now s c.at q g p x z e); ahead = tt }

    pub field-keyless : q ≡ None → Keyless s a k
    unfolding with_some first
    field-keyless e = record {
      same = λ p l. field-gives p l ∙ rw (keys-over-now s c.at q g p e) (ap (λ (x : Cursor). stored_from s p (Fields x) l) h);
      ahead = let i = o.ahead in let d = sought-stands s Between.Keys 11 at r f b k m in let j = d.ahead in let l = d.on in omega arith;
    }

pub ruleset field-key-laws = (fields-ended, field-keyed, field-keyless)

-- structures --------------------------------------------------------------------------------------------------------------

-- no key stands between two places of the walk
pub record Idle (s : Str) (a b : StoredAt) : Type 0 where
  pub same : (p : Str) (l : List Key) → stored_from s p a l ≡ stored_from s p b l

module _ (s : Str) (a b : StoredAt) where
  pub idle-at : a ≡ b → Idle s a b
  idle-at e = record { same = λ p l. ap (λ (x : StoredAt). stored_from s p x l) e }

  pub idle-on : (r : Option (D.PluginKey.PluginKey × StoredAt)) → Idle s a b → StoredFrom s b r → StoredFrom s a r
  idle-on r o h = record { list = λ p l. o.same p l ∙ h.list p l }

module _ (s : Str) (a : StoredAt) (c : Cursor) (o : Idle s a (Structs c)) (r : Step D.Struct.Struct) (f : StructsFrom s c.at r) where
  pub structs-ended : r ≡ None → StoredFrom s a None
  unfolding stored_from plugin_keys
  structs-ended m = record { list = λ p l. o.same p l ∙ rw (structs-over-now s c.at r f p m) }

  pub struct-opened : (e : D.Struct.Struct) (k : Cursor) → r ≡ Some (e, k) → Idle s a (Fields k)
  unfolding stored_from plugin_keys
  struct-opened e k m = record { same = λ p l. o.same p l ∙ rw (structs-now s c.at r f p e k m) }

module _ (s : Str) (a : StoredAt) (i : Cursor) (o : Idle s a (Fields i)) (r : FieldKey) (f : InFields s i.at r) where
  inside : (p : Str) (l : List Key) → stored_from s p a l ≡ field_keys_of s p r l
  unfolding stored_from
  inside p l = o.same p l ∙ f.list p l

  pub inside-keyed : (e : D.PluginKey.PluginKey) (z : Cursor) → r ≡ Keyed e z → StoredFrom s a (Some (e, Fields z))
  inside-keyed e z m = record { list = λ p l. inside p l ∙ ap (λ (x : FieldKey). field_keys_of s p x l) m }

  pub inside-over : (k : Cursor) → r ≡ Ended k → Idle s a (Structs k)
  inside-over k m = record { same = λ p l. inside p l ∙ ap (λ (x : FieldKey). field_keys_of s p x l) m }

pub ruleset walk-laws = (idle-at, idle-on, structs-ended, struct-opened, inside-keyed, inside-over)

-- past a structure and its fields the end of the stream is nearer
pub struct-nearer : (s : Str) (c : Cursor) (r : Step D.Struct.Struct) → StructsFrom s c.at r → (e : D.Struct.Struct) (k : Cursor) → r ≡ Some (e, k) → (q : FieldKey) → InFields s k.at q → (z : Cursor) → q ≡ Ended z
    → length s - z.at < length s - c.at
struct-nearer s c r f e k m q g z n =
    let h = structs-nearer s c.at r f e k m in
    let i : k.at ≤ z.at = subst (EndsAhead k.at) n g.ahead in
    omega arith

-- the whole walk -----------------------------------------------------------------------------------------------------------

module _ (s : Str) (from : Cursor) (r : Step UnstoredKey) (f : UnstoredFrom s from.at (bare r)) where
  pub unstored-ended : r ≡ None → PluginKeysFrom s (Unstored from) None
  unfolding keys_from
  unstored-ended m = record { list = λ p. unstored-over-now s from.at (bare r) f p (ap bare m) }

  pub unstored-keyed : (e : UnstoredKey) (k : Cursor) → r ≡ Some (e, k) → PluginKeysFrom s (Unstored from) (Some (e.key, Unstored k))
  unfolding keys_from
  unstored-keyed e k m = record { list = λ p. unstored-now s from.at (bare r) f p e.key k (ap bare m) }

pub ruleset unstored-key-laws = (unstored-ended, unstored-keyed)

module _ (s : Str) (a : KeysAt) where
  pub keys-unstored : (c : Cursor) (r : Option (D.PluginKey.PluginKey × KeysAt)) → a ≡ Unstored c → PluginKeysFrom s (Unstored c) r → PluginKeysFrom s a r
  keys-unstored c r e h = record { list = λ p. ap (keys_from s p) e ∙ h.list p }

  module _ (b : StoredAt) (e : a ≡ Stored b) (q : Option (D.PluginKey.PluginKey × StoredAt)) (f : StoredFrom s b q) where
    pub keys-stored : (x : D.PluginKey.PluginKey) (z : StoredAt) → q ≡ Some (x, z) → PluginKeysFrom s a (Some (x, Stored z))
    unfolding keys_from
    keys-stored x z m = record { list = λ p. ap (keys_from s p) e ∙ f.list p (unstored_at s p 0) ∙ ap (λ (y : Option (D.PluginKey.PluginKey × StoredAt)). stored_of s p y (unstored_at s p 0)) m }

    pub keys-over : (c : Cursor) (r : Option (D.PluginKey.PluginKey × KeysAt)) → q ≡ None → c ≡ start → PluginKeysFrom s (Unstored c) r → PluginKeysFrom s a r
    unfolding keys_from
    keys-over c r m i h = record {
      list = λ p.
          ap (keys_from s p) e ∙ f.list p (unstored_at s p 0) ∙ ap (λ (y : Option (D.PluginKey.PluginKey × StoredAt)). stored_of s p y (unstored_at s p 0)) m
          ∙ ap (λ (y : Cursor). unstored_at s p y.at) (sym i) ∙ h.list p;
    }

pub ruleset all-key-laws = (keys-unstored, keys-stored, keys-over)

pub stored-whole : (c : Cursor) → c ≡ start → AllStored (Structs c)
unfolding stored_from
stored-whole c i = record { list = λ s p l. rw i }

pub keys-whole : (r : StoredAt) → AllStored r → AllKeys (Stored r)
unfolding keys_from
keys-whole r h = record { list = λ s p. h.list s p (unstored_at s p 0) }
