-- The look-ups of what the copy says of an item, as the code's branches need them. b and q are the released stream and pool, n the name sought.
-- Assumes nothing.
use Rattle.std.specs.Prelude.{Option, Some, None}
use mathlib.Core.Path.{◌≡◌, refl, sym, ap, ◌∙◌}
use mathlib.Core.List.{List, [], ◌∷◌}
use mathlib.Core.Bool.{Bool, ◌&&◌, true, false, cond}
use Prim.Native.Nat.{suc, ◌<◌}
use native.Mathlib.Omega.{arith}
use lib.ListN.{length}
use Rattle.record.specs.Base.{Str, eqs, or_option, with_some, map_option, last_or, find_last}
use Rattle.record.specs.Schema.{Const, Key, Field, Struct}
use Rattle.record.specs.Stretch.{text_of}
use Rattle.record.specs.Lists.{key_of}
use Rattle.record.specs.Steps.{constants_at, values_at, structs_at, unstored_at, value_in, constant_found, enum_found, value_found}
use Rattle.record.specs.Named.{unstored_found}
use Rattle.record.specs.Keys.{field_keys, plugin_keys, stored_from, stored_of, AllStored, StoredFrom}
use Rattle.record.specs.Dates.{Dated}
use Rattle.record.specs.declared.text.Text.{Text}
use Rattle.record.specs.declared.command as D
use Rattle.record.specs.declared.command.Cursor.{Cursor}
use Rattle.record.specs.declared.keys.StoredAt.{StoredAt}
use Rattle.definition.specs.FirstReleases.{constant_release, enum_release, value_release, key_release}
use Rattle.compare.specs.Shipped.{shipped_of, ShippedWith, EnumShipped}
use Rattle.compare.specs.declared.shipped.Shipped.{Shipped}
use Rattle.compare.specs.declared.shipped.Shipped.TheVariants.{Absent, Named, Unstated}
use Rattle.record.specs.Commands.{Step}

-- an item that the copy has
module _ (t : Option Text) where
  pub shipped-unstated : t ≡ None → ShippedWith t Unstated
  shipped-unstated e = record { this = λ q. rw e }

  pub shipped-named : (x : Text) → t ≡ Some x → ShippedWith t (Named x)
  shipped-named x e = record { this = λ q. rw e }

pub ruleset shipped-laws = (shipped-unstated, shipped-named)

-- constants
module _ (b q n : Str) (r : Step D.Constant.Constant) (h : find_last (λ (c : Const). c.api && eqs c.name n) (constants_at b q 0) ≡ constant_found b q r) where
  released : constant_release n (constants_at b q 0) ≡ map_option (λ (c : Const). c.since) (constant_found b q r)
  unfolding constant_release
  released = ap (map_option (λ (c : Const). c.since)) h

  pub constant-absent : r ≡ None → shipped_of q Absent ≡ constant_release n (constants_at b q 0)
  unfolding map_option
  constant-absent m = rw (released, m)

  pub constant-shipped : (c : D.Constant.Constant) (k : Cursor) (w : Shipped) → r ≡ Some (c, k) → ShippedWith c.first_release w → shipped_of q w ≡ constant_release n (constants_at b q 0)
  unfolding map_option
  constant-shipped c k w m g = rw (released, m) (g.this q)

pub ruleset constant-release-laws = (constant-absent, constant-shipped)

-- the last of a list ---------------------------------------------------------------------------------------------------------------

-- what the last element that passes a test gives, after one that gave o
module _ {A B : Type 0} (t : A → Bool) (f : A → B) where
  latest : Option B → List A → Option B
  latest o [] = o
  latest o (x ∷ xs) = latest (cond (t x) (Some (f x)) o) xs

  last-latest : (o : Option A) (l : List A) → map_option f (last_or o t l) ≡ latest (map_option f o) l
  unfolding last_or map_option latest
  last-latest o [] = refl
  last-latest o (x ∷ xs) = last-latest (cond (t x) (Some x) o) xs ∙ ap (λ y. latest y xs) (step (t x))
    where
      step : (b : Bool) → map_option f (cond b (Some x) o) ≡ cond b (Some (f x)) (map_option f o)
      step true = refl
      step false = refl

  module _ (o : Option B) (l : List A) where
    latest-end : l ≡ [] → latest o l ≡ o
    unfolding latest
    latest-end e = rw e

    module _ (x : A) (m : List A) (e : l ≡ x ∷ m) where
      latest-hit : t x ≡ true → latest o l ≡ latest (Some (f x)) m
      unfolding latest
      latest-hit h = rw (e, h)

      latest-miss : t x ≡ false → latest o l ≡ latest o m
      unfolding latest
      latest-miss h = rw (e, h)

-- plugin keys of fields
pub key_latest : Str → Option (Option Str) → List Key → Option (Option Str)
key_latest n = latest (λ (k : Key). eqs k.name n) (λ (k : Key). k.since)

module _ (b q n : Str) where
  pub key-begin : (z : StoredAt) → AllStored z → key_release n (plugin_keys (structs_at b q 0) []) ≡ key_latest n (shipped_of q Absent) (stored_from b q z [])
  unfolding key_release key_latest find_last map_option
  key-begin z y = last-latest _ _ None _ ∙ ap (key_latest n None) (sym (y.list b q []))

  module _ (at : StoredAt) (r : Option (D.PluginKey.PluginKey × StoredAt)) (f : StoredFrom b at r) (o : Shipped) where
    pub key-end : r ≡ None → key_latest n (shipped_of q o) (stored_from b q at []) ≡ shipped_of q o
    unfolding key_latest
    key-end m = latest-end _ _ _ _ (f.list q [] ∙ ap (λ (x : Option (D.PluginKey.PluginKey × StoredAt)). stored_of b q x []) m)

    module _ (e : D.PluginKey.PluginKey) (k : StoredAt) (x : Str) (t : Bool) (m : r ≡ Some (e, k)) (i : x ≡ text_of q e.name) (h : t ≡ eqs x n) where
      named : eqs (text_of q e.name) n ≡ t
      named = sym (h ∙ ap (λ y. eqs y n) i)

      next : stored_from b q at [] ≡ key_of q e ∷ stored_from b q k []
      next = f.list q [] ∙ ap (λ (x : Option (D.PluginKey.PluginKey × StoredAt)). stored_of b q x []) m

      pub key-hit : (w : Shipped) → t ≡ true → ShippedWith e.first_release w
          → key_latest n (shipped_of q o) (stored_from b q at []) ≡ key_latest n (shipped_of q w) (stored_from b q k [])
      unfolding key_latest
      key-hit w g j = latest-hit _ _ _ _ _ _ next (named ∙ g) ∙ ap (λ y. key_latest n y (stored_from b q k [])) (sym (j.this q))

      pub key-miss : t ≡ false → key_latest n (shipped_of q o) (stored_from b q at []) ≡ key_latest n (shipped_of q o) (stored_from b q k [])
      unfolding key_latest
      key-miss g = latest-miss _ _ _ _ _ _ next (named ∙ g)

pub ruleset key-release-laws = (key-end, key-hit, key-miss)

-- each step makes the list of keys shorter: its length is a measure for loops over them
pub stored-nearer : (s p : Str) (at : StoredAt) (r : Option (D.PluginKey.PluginKey × StoredAt)) → StoredFrom s at r → (e : D.PluginKey.PluginKey) (k : StoredAt) → r ≡ Some (e, k)
    → length (stored_from s p k []) < length (stored_from s p at [])
stored-nearer s p at r f e k m =
    let h : length (stored_from s p at []) ≡ suc (length (stored_from s p k [])) = ap length (f.list p []) ∙ rw m in
    omega arith

-- the unstored ones come last
module _ (t : Key → Bool) where
  -- the last of a list, else what was known
  last_else : (o : Option Key) (l : List Key) → last_or o t l ≡ or_option (last_or None t l) o
  unfolding last_or or_option
  last_else o [] = refl
  last_else o (x ∷ l) =
      last_else (cond (t x) (Some x) o) l ∙ go (last_or None t l) (t x) ∙ ap (λ (y : Option Key). or_option y o) (sym (last_else (cond (t x) (Some x) None) l))
    where
      go : (a : Option Key) (v : Bool) → or_option a (cond v (Some x) o) ≡ or_option (or_option a (cond v (Some x) None)) o
      go None true = refl
      go None false = refl
      go (Some y) v = refl

  in-fields : (o : Option Key) (fs : List Field) (l : List Key) → last_or o t (field_keys fs l) ≡ last_or (last_or o t (field_keys fs [])) t l
  unfolding field_keys last_or with_some
  in-fields o [] l = refl
  in-fields o (f ∷ fs) l = go (λ y. in-fields y fs l) f.key
    where
      go : ((y : Option Key) → last_or y t (field_keys fs l) ≡ last_or (last_or y t (field_keys fs [])) t l) → (k : Option Key)
          → last_or o t (with_some k (field_keys fs l)) ≡ last_or (last_or o t (with_some k (field_keys fs []))) t l
      go ih None = ih o
      go ih (Some x) = ih (cond (t x) (Some x) o)

  in-structs : (o : Option Key) (ss : List Struct) (l : List Key) → last_or o t (plugin_keys ss l) ≡ last_or (last_or o t (plugin_keys ss [])) t l
  unfolding plugin_keys last_or
  in-structs o [] l = refl
  in-structs o (s ∷ ss) l =
      in-fields o s.fields (plugin_keys ss l) ∙ in-structs (last_or o t (field_keys s.fields [])) ss l
      ∙ ap (λ (y : Option Key). last_or y t l) (sym (in-fields o s.fields (plugin_keys ss [])))

  unstored-first : (ss : List Struct) (l : List Key) → find_last t (plugin_keys ss l) ≡ or_option (find_last t l) (find_last t (plugin_keys ss []))
  unfolding find_last
  unstored-first ss l = in-structs None ss l ∙ last_else (last_or None t (plugin_keys ss [])) l

module _ (b q n : Str) (r : Step D.PluginKey.PluginKey) (h : find_last (λ (k : Key). eqs k.name n) (unstored_at b q 0) ≡ unstored_found q r) where
  either : key_release n (plugin_keys (structs_at b q 0) (unstored_at b q 0))
      ≡ map_option (λ (k : Key). k.since) (or_option (unstored_found q r) (find_last (λ (k : Key). eqs k.name n) (plugin_keys (structs_at b q 0) [])))
  unfolding key_release
  either =
      ap (map_option (λ (k : Key). k.since))
      (unstored-first (λ (k : Key). eqs k.name n) (structs_at b q 0) (unstored_at b q 0)
      ∙ ap (λ (y : Option Key). or_option y (find_last (λ (k : Key). eqs k.name n) (plugin_keys (structs_at b q 0) []))) h)

  pub key-stored : (w : Shipped) → r ≡ None → shipped_of q w ≡ key_release n (plugin_keys (structs_at b q 0) []) → shipped_of q w ≡ key_release n (plugin_keys (structs_at b q 0) (unstored_at b q 0))
  unfolding key_release or_option
  key-stored w m g = g ∙ sym (either ∙ rw m)

  pub key-unstored : (e : D.PluginKey.PluginKey) (k : Cursor) (w : Shipped) → r ≡ Some (e, k) → ShippedWith e.first_release w
      → shipped_of q w ≡ key_release n (plugin_keys (structs_at b q 0) (unstored_at b q 0))
  unfolding map_option or_option
  key-unstored e k w m g = g.this q ∙ sym (either ∙ rw m)

pub ruleset key_laws = (key-stored, key-unstored)

-- enums that were looked up, and their values ---------------------------------------------------------------------------------------

module _ (was : Step D.Enum.Enum) where
  pub enum-absent : was ≡ None → EnumShipped was Absent
  unfolding enum_release map_option
  enum-absent m = record { this = λ s q. rw m }

  pub enum-shipped : (e : D.Enum.Enum) (k : Cursor) (w : Shipped) → was ≡ Some (e, k) → ShippedWith e.first_release w → EnumShipped was w
  unfolding enum_release map_option
  enum-shipped e k w m i = record { this = λ s q. rw m (i.this q) }

pub ruleset enum-release-laws = (enum-absent, enum-shipped)

module _ (b q n : Str) (was : Step D.Enum.Enum) where
  pub value-alone : was ≡ None → shipped_of q Absent ≡ value_release (enum_found b q was) n
  unfolding value_release
  value-alone m = rw m

  module _ (e : D.Enum.Enum) (k : Cursor) (r : Step D.Value.Value) (m : was ≡ Some (e, k)) (h : value_in n (values_at b q k.at) ≡ value_found b q r) where
    pub value-absent : r ≡ None → shipped_of q Absent ≡ value_release (enum_found b q was) n
    unfolding value_release map_option
    value-absent g = rw (m, h, g)

    pub value-shipped : (v : D.Value.Value) (j : Cursor) (t : Option Text) (w : Shipped) → r ≡ Some (v, j) → Dated v.first_release e.first_release t → ShippedWith t w
        → shipped_of q w ≡ value_release (enum_found b q was) n
    unfolding value_release map_option
    value-shipped v j t w g d i = rw (m, h, g) (i.this q ∙ ap Some (d.release q))

pub ruleset value-release-laws = (value-alone, value-absent, value-shipped)
