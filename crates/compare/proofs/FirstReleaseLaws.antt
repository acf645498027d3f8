-- The cases of the pass over the first releases. s and p are the current stream and pool, b and q the released ones. Assumes nothing.
use mathlib.Core.Path.{◌≡◌, sym, ap, ◌∙◌}
use mathlib.Core.List.{List}
use mathlib.Core.Bool.{Bool, ◌&&◌, true, false, not}
use Prim.Native.Nat.{ℕ, suc, ◌<◌}
use native.Mathlib.Omega.{arith}
use lib.ListN.{length, take}
use Rattle.std.specs.Prelude.{Result, Ok, Err, ⊤, Option, Some, None}
use Rattle.record.specs.Base.{Str, eqs, is_some, or_option, find_last}
use Rattle.record.specs.Schema as M
use Rattle.record.specs.Stretch.{text_of}
use Rattle.record.specs.Commands.{start}
use Rattle.record.specs.Lists.{opt_of, constant_of, enum_of, value_of, key_of}
use Rattle.record.specs.Steps.{constants_at, enums_at, values_at, structs_at, unstored_at, ConstantsFrom, EnumsFrom, ValuesFrom, enum_found}
use Rattle.record.specs.Ends.{EndsOf}
use Rattle.record.specs.declared.ends.Ends.{Ends}
use Rattle.record.specs.Keys.{plugin_keys, keys_from, plugin_keys_of, AllKeys, PluginKeysFrom}
use Rattle.record.specs.Dates.{Dated}
use Rattle.record.specs.declared.text.Text.{Text}
use Rattle.record.specs.declared.command.Cursor.{Cursor}
use Rattle.record.specs.declared.command.Constant.{Constant}
use Rattle.record.specs.declared.command.Enum.{Enum}
use Rattle.record.specs.declared.command.Value.{Value}
use Rattle.record.specs.declared.command.PluginKey.{PluginKey}
use Rattle.record.specs.declared.keys.KeysAt.{KeysAt}
use Rattle.record.proofs.EndLaws.{constants-front, enums-front, plugin-keys-front}
use Rattle.record.proofs.StepLaws.{constants-now, constants-over-now, enums-now, enums-over-now, values-now, values-over-now}
use Rattle.definition.specs.Verdicts as D
use Rattle.definition.specs.Verdicts.{a_constant, an_enum, a_key, within, value_undated}
use Rattle.definition.specs.Pass.{◌then◌, ensure, on_found}
use Rattle.verdicts.specs.Arguments.{item_of}
use Rattle.compare.specs.Required.{RequiredText}
use Rattle.definition.specs.FirstReleases.{constant_release, api_enum, value_release, key_release}
use Rattle.compare.specs.Shipped.{shipped_of, EnumShipped}
use Rattle.compare.specs.Sought.{PassedIf, ValueDated}
use Rattle.definition.specs.FirstReleases.{check_arrival, check_constant_arrival, check_constant_arrivals, check_value_arrival, check_value_arrivals, check_enum_arrival, check_enum_arrivals, check_key_arrival, check_key_arrivals, check_first_releases}
use Rattle.verdicts.specs.Meaning.{violation, meaning}
use Rattle.verdicts.specs.declared.arguments.Item.{Item}
use Rattle.compare.specs.declared.shipped.Shipped.{Shipped}
use Rattle.compare.specs.declared.shipped.Shipped.TheVariants.{Absent, Named, Unstated}
use Rattle.verdicts.specs.declared.verdict.Verdict.{Verdict}
use Rattle.verdicts.specs.declared.verdict.Verdict.TheVariants.{ValueUndated, Late, Redated, Backdated}
use Rattle.verdicts.proofs.PassLaws.{HandedOn, again, stays, then-on, then-stop}
use Rattle.verdicts.proofs.Each.{each-end, each_on, each-stop}
use Rattle.record.specs.Commands.{Step}
use Rattle.record.specs.declared.command as C

-- a verdict unless a test holds
module _ (holds : Bool) (v : Verdict) where
  pub passed-held : holds ≡ true → PassedIf holds v (Ok tt)
  unfolding meaning ensure
  passed-held g = record { this = λ p q. rw g }

  pub passed-not : holds ≡ false → PassedIf holds v (Err v)
  unfolding ensure
  passed-not g = record { this = λ p q. rw g }

pub ruleset passed-laws = (passed-held, passed-not)

-- one item: x is the release that it names, y the text that this is compared with
module _ (p q x y : Str) (now : Text) (copy : Option Text) (what : Item) (names : Text) (was : Shipped) (t : Bool) (v : Result ⊤ Verdict) (i : x ≡ text_of p names) (h : t ≡ eqs x y) where
  compared : (z : Str) → y ≡ z → eqs (text_of p names) z ≡ t
  compared z j = rw (← i, ← j) (sym h)

  pub arrives-absent : was ≡ Absent → y ≡ text_of p now → PassedIf t (Late what now names) v
      → meaning p q v ≡ check_arrival (text_of p now) (opt_of q copy) (item_of p what) (text_of p names) (shipped_of q was)
  unfolding meaning violation check_arrival
  arrives-absent m j g = rw (m, compared (text_of p now) j) (g.this p q)

  pub arrives-named : (w : Text) → was ≡ Named w → y ≡ text_of q w → PassedIf t (Redated what w names) v
      → meaning p q v ≡ check_arrival (text_of p now) (opt_of q copy) (item_of p what) (text_of p names) (shipped_of q was)
  unfolding meaning violation check_arrival
  arrives-named w m j g = rw (m, compared (text_of q w) j) (g.this p q)

  pub arrives-unstated : was ≡ Unstated → y ≡ text_of p now → PassedIf (not t) (Backdated what copy now) v
      → meaning p q v ≡ check_arrival (text_of p now) (opt_of q copy) (item_of p what) (text_of p names) (shipped_of q was)
  unfolding meaning violation check_arrival
  arrives-unstated m j g = rw (m, compared (text_of p now) j) (g.this p q)

pub ruleset arrival-laws = (arrives-absent, arrives-named, arrives-unstated)

-- one constant
module _ (p b q : Str) (now : Text) (copy : Option Text) (e : Constant) where
  pub constant-outside : not e.ora_api ≡ true → meaning p q (Ok tt) ≡ check_constant_arrival (text_of p now) (opt_of q copy) (constants_at b q 0) (constant_of p e)
  unfolding meaning check_constant_arrival ensure
  constant-outside a = rw a

  module _ (a : not e.ora_api ≡ false) where
    pub constant-undated : e.first_release ≡ None → meaning p q (Ok tt) ≡ check_constant_arrival (text_of p now) (opt_of q copy) (constants_at b q 0) (constant_of p e)
    unfolding meaning check_constant_arrival ensure on_found
    constant-undated g = rw (a, g)

    pub constant-arrives : (names : Text) (x : Str) (w : Shipped) (v : Result ⊤ Verdict) → e.first_release ≡ Some names → x ≡ text_of p e.name → shipped_of q w ≡ constant_release x (constants_at b q 0)
        → meaning p q v ≡ check_arrival (text_of p now) (opt_of q copy) (a_constant (text_of p e.name)) (text_of p names) (shipped_of q w)
        → meaning p q v ≡ check_constant_arrival (text_of p now) (opt_of q copy) (constants_at b q 0) (constant_of p e)
    unfolding check_constant_arrival ensure on_found
    constant-arrives names x w v g t h k = rw (a, g, ← t, ← h) (rw t k)

pub ruleset constant-arrival-laws = (constant-outside, constant-undated, constant-arrives)

-- the constants
module _ (s p b q : Str) (now : Text) (copy : Option Text) where
  pub constants-begin : (z : Cursor) → z ≡ start
      → check_constant_arrivals (text_of p now) (opt_of q copy) (constants_at s p 0) (constants_at b q 0) ≡ check_constant_arrivals (text_of p now) (opt_of q copy) (constants_at s p z.at) (constants_at b q 0)
  constants-begin z y = ap (λ (c : Cursor). check_constant_arrivals (text_of p now) (opt_of q copy) (constants_at s p c.at) (constants_at b q 0)) (sym y)

  module _ (at : ℕ) (r : Step C.Constant.Constant) (f : ConstantsFrom s at r) where
    pub constants-end : r ≡ None → check_constant_arrivals (text_of p now) (opt_of q copy) (constants_at s p at) (constants_at b q 0) ≡ meaning p q (Ok tt)
    unfolding check_constant_arrivals
    constants-end m = each-end _ _ p q (constants-over-now s at r f p m)

    module _ (e : Constant) (k : Cursor) (v : Result ⊤ Verdict) (m : r ≡ Some (e, k)) (h : meaning p q v ≡ check_constant_arrival (text_of p now) (opt_of q copy) (constants_at b q 0) (constant_of p e)) where
      pub constants-on : v ≡ Ok tt
          → check_constant_arrivals (text_of p now) (opt_of q copy) (constants_at s p at) (constants_at b q 0) ≡ check_constant_arrivals (text_of p now) (opt_of q copy) (constants_at s p k.at) (constants_at b q 0)
      unfolding check_constant_arrivals
      constants-on g = each_on _ _ p q _ _ v (constants-now s at r f p e k m) h g

      pub constants-stop : (z : Result ⊤ Verdict) → HandedOn v z → check_constant_arrivals (text_of p now) (opt_of q copy) (constants_at s p at) (constants_at b q 0) ≡ meaning p q z
      unfolding check_constant_arrivals
      constants-stop z g = each-stop _ _ p q _ _ v (constants-now s at r f p e k m) h z g

pub ruleset constant-arrivals-laws = (constants-end, constants-on, constants-stop)

-- whether a value is dated
module _ (p x y : Str) (now : Text) (was : Shipped) (own : Option Text) (release : Text) where
  pub dated-named : (w : Text) → was ≡ Named w → ValueDated p now was own release true
  unfolding is_some
  dated-named w m = record { this = λ q. rw m }

  pub dated-unstated : was ≡ Unstated → ValueDated p now was own release true
  unfolding is_some
  dated-unstated m = record { this = λ q. rw m }

  module _ (m : was ≡ Absent) where
    pub dated-own : (w : Text) → own ≡ Some w → ValueDated p now was own release true
    unfolding is_some
    dated-own w g = record { this = λ q. rw (m, g) }

    pub dated-now : (t : Bool) → own ≡ None → x ≡ text_of p release → y ≡ text_of p now → t ≡ eqs x y → ValueDated p now was own release t
    unfolding is_some
    dated-now t g i j h = record { this = λ q. rw (m, g, ← i, ← j) h }

pub ruleset dated-laws = (dated-named, dated-unstated, dated-own, dated-now)

-- one value: o is its enum, d its release, x its name
module _ (p b q : Str) (now : Text) (copy : Option Text) (o : Enum) (was : Step C.Enum.Enum) (e : Value) (d : Option Text) (u : Dated e.first_release o.first_release d) where
  pub value-passed : d ≡ None
      → meaning p q (Ok tt) ≡ check_value_arrival (text_of p now) (opt_of q copy) (text_of p o.name) (opt_of p o.first_release) (enum_found b q was) (value_of p e)
  unfolding meaning check_value_arrival on_found
  value-passed m = rw (← u.release p, m)

  module _ (release : Text) (x : Str) (w : Shipped) (t : Bool) (m : d ≡ Some release) (i : x ≡ text_of p e.name) (h : shipped_of q w ≡ value_release (enum_found b q was) x)
      (l : ValueDated p now w e.first_release release t) where
    dates : or_option (opt_of p e.first_release) (opt_of p o.first_release) ≡ Some (text_of p release)
    dates = sym (u.release p) ∙ ap (opt_of p) m

    said : value_release (enum_found b q was) (text_of p e.name) ≡ shipped_of q w
    said = sym (h ∙ ap (value_release (enum_found b q was)) i)

    pub value-undated : t ≡ false
        → meaning p q (Err (ValueUndated o.name e.name now release)) ≡ check_value_arrival (text_of p now) (opt_of q copy) (text_of p o.name) (opt_of p o.first_release) (enum_found b q was) (value_of p e)
    unfolding meaning violation check_value_arrival on_found ensure ◌then◌ value_undated
    value-undated g = rw (dates, said, sym (l.this q) ∙ g)

    pub value-arrives : (v : Result ⊤ Verdict) → t ≡ true
        → meaning p q v ≡ check_arrival (text_of p now) (opt_of q copy) (within (text_of p o.name) (text_of p e.name)) (text_of p release) (shipped_of q w)
        → meaning p q v ≡ check_value_arrival (text_of p now) (opt_of q copy) (text_of p o.name) (opt_of p o.first_release) (enum_found b q was) (value_of p e)
    unfolding check_value_arrival on_found ensure ◌then◌
    value-arrives v g k = rw (dates, said, sym (l.this q) ∙ g) k

pub ruleset value-arrival-laws = (value-passed, value-undated, value-arrives)

-- the values of an enum
module _ (s p b q : Str) (now : Text) (copy : Option Text) (o : Enum) (was : Step C.Enum.Enum) (at : ℕ) (r : Step C.Value.Value) (f : ValuesFrom s at r) where
  pub values-end : r ≡ None
      → check_value_arrivals (text_of p now) (opt_of q copy) (text_of p o.name) (opt_of p o.first_release) (enum_found b q was) (values_at s p at) ≡ meaning p q (Ok tt)
  unfolding check_value_arrivals
  values-end m = each-end _ _ p q (values-over-now s at r f p m)

  module _ (e : Value) (k : Cursor) (v : Result ⊤ Verdict) (m : r ≡ Some (e, k))
      (h : meaning p q v ≡ check_value_arrival (text_of p now) (opt_of q copy) (text_of p o.name) (opt_of p o.first_release) (enum_found b q was) (value_of p e)) where
    pub values-on : v ≡ Ok tt
        → check_value_arrivals (text_of p now) (opt_of q copy) (text_of p o.name) (opt_of p o.first_release) (enum_found b q was) (values_at s p at)
        ≡ check_value_arrivals (text_of p now) (opt_of q copy) (text_of p o.name) (opt_of p o.first_release) (enum_found b q was) (values_at s p k.at)
    unfolding check_value_arrivals
    values-on g = each_on _ _ p q _ _ v (values-now s at r f p e k m) h g

    pub values-stop : (z : Result ⊤ Verdict) → HandedOn v z
        → check_value_arrivals (text_of p now) (opt_of q copy) (text_of p o.name) (opt_of p o.first_release) (enum_found b q was) (values_at s p at) ≡ meaning p q z
    unfolding check_value_arrivals
    values-stop z g = each-stop _ _ p q _ _ v (values-now s at r f p e k m) h z g

pub ruleset value-arrivals-laws = (values-end, values-on, values-stop)

-- one enum
module _ (s p b q : Str) (now : Text) (copy : Option Text) (e : Enum) (at : ℕ) where
  pub enum-outside : not e.ora_api ≡ true → meaning p q (Ok tt) ≡ check_enum_arrival (text_of p now) (opt_of q copy) (enums_at b q 0) (enum_of p e (values_at s p at))
  unfolding meaning check_enum_arrival ensure
  enum-outside a = rw a

  module _ (a : not e.ora_api ≡ false) where
    pub enum-undated : e.first_release ≡ None → meaning p q (Ok tt) ≡ check_enum_arrival (text_of p now) (opt_of q copy) (enums_at b q 0) (enum_of p e (values_at s p at))
    unfolding meaning check_enum_arrival ensure on_found
    enum-undated g = rw (a, g)

    module _ (names : Text) (x : Str) (w : Step C.Enum.Enum) (u : Shipped) (v : Result ⊤ Verdict) (g : e.first_release ≡ Some names) (t : x ≡ text_of p e.name)
        (h : find_last (λ (m : M.Enum). m.api && eqs m.name x) (enums_at b q 0) ≡ enum_found b q w) (i : EnumShipped w u)
        (j : meaning p q v ≡ check_arrival (text_of p now) (opt_of q copy) (an_enum (text_of p e.name)) (text_of p names) (shipped_of q u)) where
      found : api_enum (text_of p e.name) (enums_at b q 0) ≡ enum_found b q w
      unfolding api_enum
      found = ap (λ z. api_enum z (enums_at b q 0)) (sym t) ∙ h

      opened : check_enum_arrival (text_of p now) (opt_of q copy) (enums_at b q 0) (enum_of p e (values_at s p at))
          ≡ (meaning p q v then check_value_arrivals (text_of p now) (opt_of q copy) (text_of p e.name) (opt_of p e.first_release) (enum_found b q w) (values_at s p at))
      unfolding check_enum_arrival ensure on_found
      opened = rw (a, j, g, found, ← i.this b q)

      pub enum-stops : (z : Result ⊤ Verdict) → HandedOn v z → meaning p q z ≡ check_enum_arrival (text_of p now) (opt_of q copy) (enums_at b q 0) (enum_of p e (values_at s p at))
      enum-stops z k = sym (opened ∙ stays p q v z _ k)

      pub enum-goes-on : (z : Result ⊤ Verdict) → v ≡ Ok tt
          → meaning p q z ≡ check_value_arrivals (text_of p now) (opt_of q copy) (text_of p e.name) (opt_of p e.first_release) (enum_found b q w) (values_at s p at)
          → meaning p q z ≡ check_enum_arrival (text_of p now) (opt_of q copy) (enums_at b q 0) (enum_of p e (values_at s p at))
      unfolding meaning ◌then◌
      enum-goes-on z k l = l ∙ sym (opened ∙ ap (λ y. meaning p q y then check_value_arrivals (text_of p now) (opt_of q copy) (text_of p e.name) (opt_of p e.first_release) (enum_found b q w) (values_at s p at)) k)

pub ruleset enum-arrival-laws = (enum-outside, enum-undated, enum-stops, enum-goes-on)

-- the enums
module _ (s p b q : Str) (now : Text) (copy : Option Text) where
  pub enums-begin : (z : Cursor) → z ≡ start
      → check_enum_arrivals (text_of p now) (opt_of q copy) (enums_at s p 0) (enums_at b q 0) ≡ check_enum_arrivals (text_of p now) (opt_of q copy) (enums_at s p z.at) (enums_at b q 0)
  enums-begin z y = ap (λ (c : Cursor). check_enum_arrivals (text_of p now) (opt_of q copy) (enums_at s p c.at) (enums_at b q 0)) (sym y)

  module _ (at : ℕ) (r : Step C.Enum.Enum) (f : EnumsFrom s at r) where
    pub enums-end : r ≡ None → check_enum_arrivals (text_of p now) (opt_of q copy) (enums_at s p at) (enums_at b q 0) ≡ meaning p q (Ok tt)
    unfolding check_enum_arrivals
    enums-end m = each-end _ _ p q (enums-over-now s at r f p m)

    module _ (e : Enum) (k : Cursor) (v : Result ⊤ Verdict) (m : r ≡ Some (e, k))
        (h : meaning p q v ≡ check_enum_arrival (text_of p now) (opt_of q copy) (enums_at b q 0) (enum_of p e (values_at s p k.at))) where
      pub enums-on : v ≡ Ok tt
          → check_enum_arrivals (text_of p now) (opt_of q copy) (enums_at s p at) (enums_at b q 0) ≡ check_enum_arrivals (text_of p now) (opt_of q copy) (enums_at s p k.at) (enums_at b q 0)
      unfolding check_enum_arrivals
      enums-on g = each_on _ _ p q _ _ v (enums-now s at r f p e k m) h g

      pub enums-stop : (z : Result ⊤ Verdict) → HandedOn v z → check_enum_arrivals (text_of p now) (opt_of q copy) (enums_at s p at) (enums_at b q 0) ≡ meaning p q z
      unfolding check_enum_arrivals
      enums-stop z g = each-stop _ _ p q _ _ v (enums-now s at r f p e k m) h z g

pub ruleset enum-arrivals-laws = (enums-end, enums-on, enums-stop)

-- one plugin key: l is the copy's keys
pub key-arrives : (p q x : Str) (now : Text) (copy : Option Text) (l : List M.Key) (e : PluginKey) (names : Text) (w : Shipped) (v : Result ⊤ Verdict)
    → RequiredText e.first_release names → x ≡ text_of p e.name → shipped_of q w ≡ key_release x l
    → meaning p q v ≡ check_arrival (text_of p now) (opt_of q copy) (a_key (text_of p e.name)) (text_of p names) (shipped_of q w)
    → meaning p q v ≡ check_key_arrival (text_of p now) (opt_of q copy) l (key_of p e)
unfolding check_key_arrival
key-arrives p q x now copy l e names w v u t h k = rw (← u.this p, ← t, ← h) (rw t k)

-- each step makes the list of keys shorter: its length is a measure for loops over them
pub plugin-keys-nearer : (s p : Str) (at : KeysAt) (r : Option (C.PluginKey.PluginKey × KeysAt)) → PluginKeysFrom s at r → (e : PluginKey) (k : KeysAt) → r ≡ Some (e, k)
    → length (keys_from s p k) < length (keys_from s p at)
plugin-keys-nearer s p at r f e k m =
    let h : length (keys_from s p at) ≡ suc (length (keys_from s p k)) = ap length (f.list p) ∙ rw m in
    omega arith

-- the plugin keys
module _ (s p q : Str) (now : Text) (copy : Option Text) (l : List M.Key) where
  pub keys-begin : (z : KeysAt) → AllKeys z
      → check_key_arrivals (text_of p now) (opt_of q copy) (plugin_keys (structs_at s p 0) (unstored_at s p 0)) l ≡ check_key_arrivals (text_of p now) (opt_of q copy) (keys_from s p z) l
  keys-begin z y = ap (λ m. check_key_arrivals (text_of p now) (opt_of q copy) m l) (sym (y.list s p))

  module _ (at : KeysAt) (r : Option (C.PluginKey.PluginKey × KeysAt)) (f : PluginKeysFrom s at r) where
    pub keys-end : r ≡ None → check_key_arrivals (text_of p now) (opt_of q copy) (keys_from s p at) l ≡ meaning p q (Ok tt)
    unfolding check_key_arrivals
    keys-end m = each-end _ _ p q (f.list p ∙ ap (plugin_keys_of s p) m)

    module _ (e : PluginKey) (k : KeysAt) (v : Result ⊤ Verdict) (m : r ≡ Some (e, k)) (h : meaning p q v ≡ check_key_arrival (text_of p now) (opt_of q copy) l (key_of p e)) where
      pub keys_on : v ≡ Ok tt → check_key_arrivals (text_of p now) (opt_of q copy) (keys_from s p at) l ≡ check_key_arrivals (text_of p now) (opt_of q copy) (keys_from s p k) l
      unfolding check_key_arrivals
      keys_on g = each_on _ _ p q _ _ v (f.list p ∙ ap (plugin_keys_of s p) m) h g

      pub keys-stop : (z : Result ⊤ Verdict) → HandedOn v z → check_key_arrivals (text_of p now) (opt_of q copy) (keys_from s p at) l ≡ meaning p q z
      unfolding check_key_arrivals
      keys-stop z g = each-stop _ _ p q _ _ v (f.list p ∙ ap (plugin_keys_of s p) m) h z g

pub ruleset key-arrivals-laws = (keys-end, keys_on, keys-stop)

-- the whole pass, each list of a stream that is cut off where the list ends
module _ (s p q now : Str) (copy : Option Str) (is : Ends) (i : EndsOf s is) (cs₀ : List M.Const) (es₀ : List M.Enum) (ks₀ : List M.Key) (a : Result ⊤ Verdict)
    (t₁ : Str) (e₁ : t₁ ≡ take is.constants s) (h₁ : meaning p q a ≡ check_constant_arrivals now copy (constants_at t₁ p 0) cs₀) where
  abbrev whole : D.Verdict
  whole = check_first_releases now copy (constants_at s p 0) cs₀ (enums_at s p 0) es₀ (plugin_keys (structs_at s p 0) (unstored_at s p 0)) ks₀

  abbrev in-constants : D.Verdict
  in-constants = check_constant_arrivals now copy (constants_at s p 0) cs₀

  abbrev in-enums : D.Verdict
  in-enums = check_enum_arrivals now copy (enums_at s p 0) es₀

  of-constants : meaning p q a ≡ in-constants
  of-constants = h₁ ∙ ap (λ (l : List M.Const). check_constant_arrivals now copy l cs₀) (constants-front s p t₁ is i e₁)

  pub first-constants : (z : Result ⊤ Verdict) → HandedOn a z → meaning p q z ≡ whole
  unfolding check_first_releases
  first-constants z g = then-stop p q (in-constants then in-enums) _ z (then-stop p q in-constants in-enums a of-constants z g) z (again a z g)

  module _ (o : a ≡ Ok tt) (b : Result ⊤ Verdict) (t₂ : Str) (e₂ : t₂ ≡ take is.enums s) (h₂ : meaning p q b ≡ check_enum_arrivals now copy (enums_at t₂ p 0) es₀) where
    both : meaning p q b ≡ (in-constants then in-enums)
    both = then-on p q in-constants in-enums a of-constants b o (h₂ ∙ ap (λ (l : List M.Enum). check_enum_arrivals now copy l es₀) (enums-front s p t₂ is i e₂))

    pub first-enums : (z : Result ⊤ Verdict) → HandedOn b z → meaning p q z ≡ whole
    unfolding check_first_releases
    first-enums z g = then-stop p q (in-constants then in-enums) _ b both z g

    pub first-keys : (c : Result ⊤ Verdict) (t₃ : Str) → b ≡ Ok tt → t₃ ≡ take is.keys s
        → meaning p q c ≡ check_key_arrivals now copy (plugin_keys (structs_at t₃ p 0) (unstored_at t₃ p 0)) ks₀ → meaning p q c ≡ whole
    unfolding check_first_releases
    first-keys c t₃ n e₃ h₃ =
        then-on p q (in-constants then in-enums) _ b both c n (h₃ ∙ ap (λ (l : List M.Key). check_key_arrivals now copy l ks₀) (plugin-keys-front s p t₃ is i e₃))
