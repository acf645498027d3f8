-- The cases of the pass over the enums. s and p are the current stream and pool, b and q the released ones. Assumes nothing.
use mathlib.Core.Path.{◌≡◌, refl, sym, ap, ◌∙◌}
use mathlib.Core.Bool.{false}
use Prim.Native.Nat.{ℕ}
use lib.Dec.{eqb}
use borrow.Author.Tests.{eq-eqb, ne_eqb}
use Rattle.std.specs.Prelude.{Result, Ok, Err, ⊤, Some, None}
use Rattle.record.specs.Base.{Str}
use Rattle.record.specs.Schema as M
use Rattle.record.specs.Stretch.{text_of}
use Rattle.record.specs.Commands.{start}
use Rattle.record.specs.Lists.{enum_of, value_of}
use Rattle.record.specs.Steps.{enums_at, values_at, EnumsFrom, ValuesFrom, enum_in, value_in, enum_found, value_found}
use Rattle.record.specs.declared.text.Text.{Text}
use Rattle.record.specs.declared.command.Cursor.{Cursor}
use Rattle.record.specs.declared.command.Enum.{Enum}
use Rattle.record.specs.declared.command.Value.{Value}
use Rattle.record.proofs.ListLaws.{find_none, find-hit, find-miss}
use Rattle.record.proofs.StepLaws.{values-over-now, values-now, enums-over-now, enums-now}
use Rattle.definition.specs.Pass.{ensure, on_found, empty}
use Rattle.definition.specs.Enums.{number_in, check_value, check_values, check_enum, check_enums}
use Rattle.compare.specs.Sought.{NumberFrom}
use Rattle.verdicts.specs.Meaning.{violation, meaning}
use Rattle.verdicts.specs.declared.verdict.Verdict.{Verdict}
use Rattle.verdicts.specs.declared.verdict.Verdict.TheVariants.{EnumGone, Renumbered, Renamed, ValueGone}
use Rattle.verdicts.proofs.PassLaws.{HandedOn}
use Rattle.verdicts.proofs.Each.{each-end, each_on, each-stop}
use Rattle.record.specs.Commands.{Step}
use Rattle.record.specs.declared.command as D

-- a value by its number
pub record NumberOn (n : ℕ) (s : Str) (a b : ℕ) : Type 0 where
  pub same : (p : Str) → number_in n (values_at s p a) ≡ number_in n (values_at s p b)

pub number-here : (n : ℕ) (s : Str) (a : ℕ) → NumberOn n s a a
number-here n s a = record { same = λ p. refl }

module _ (n : ℕ) (s : Str) (a at : ℕ) (r : Step D.Value.Value) (i : NumberOn n s a at) (f : ValuesFrom s at r) where
  pub number-none : r ≡ None → NumberFrom n s a None
  unfolding number_in
  number-none m = record { this = λ p. i.same p ∙ find_none (λ (v : M.EnumValue). eqb v.number n) _ (values-over-now s at r f p m) }

  module _ (e : Value) (k : Cursor) (m : r ≡ Some (e, k)) where
    pub number-hit : e.value ≡ n → NumberFrom n s a (Some (e, k))
    unfolding number_in
    number-hit g = record { this = λ p. i.same p ∙ find-hit (λ (v : M.EnumValue). eqb v.number n) _ _ _ (values-now s at r f p e k m) (eq-eqb e.value n g) }

    pub number-miss : (e.value ≡ n → ⊥) → NumberOn n s a k.at
    unfolding number_in
    number-miss g = record { same = λ p. i.same p ∙ find-miss (λ (v : M.EnumValue). eqb v.number n) _ _ _ (values-now s at r f p e k m) (ne_eqb e.value n g) }

pub ruleset number-laws = (number-none, number-hit, number-miss)

-- one value
module _ (s p q x : Str) (o : Text) (at : ℕ) (w : Value) (r : Step D.Value.Value) (t : x ≡ text_of q w.name) (h : value_in x (values_at s p at) ≡ value_found s p r) where
  named : value_in (text_of q w.name) (values_at s p at) ≡ value_found s p r
  named = ap (λ y. value_in y (values_at s p at)) (sym t) ∙ h

  module _ (e : Value) (k : Cursor) (m : r ≡ Some (e, k)) where
    pub value_same : e.value ≡ w.value → meaning p q (Ok tt) ≡ check_value (text_of q o) (values_at s p at) (value_of q w)
    unfolding meaning check_value on_found ensure
    value_same g = rw (named, m, eq-eqb e.value w.value g)

    pub value-other : (e.value ≡ w.value → ⊥) → meaning p q (Err (Renumbered o w.name w.value e.value)) ≡ check_value (text_of q o) (values_at s p at) (value_of q w)
    unfolding meaning violation check_value on_found ensure
    value-other g = rw (named, m, ne_eqb e.value w.value g)

  module _ (m : r ≡ None) (i : Step D.Value.Value) (j : NumberFrom w.value s at i) where
    pub value-renamed : (e : Value) (k : Cursor) → i ≡ Some (e, k) → meaning p q (Err (Renamed o w.name e.name)) ≡ check_value (text_of q o) (values_at s p at) (value_of q w)
    unfolding meaning violation check_value on_found
    value-renamed e k g = rw (named, m, j.this p, g)

    pub value_gone : i ≡ None → meaning p q (Err (ValueGone o w.name)) ≡ check_value (text_of q o) (values_at s p at) (value_of q w)
    unfolding meaning violation check_value on_found
    value_gone g = rw (named, m, j.this p, g)

pub ruleset value-laws = (value_same, value-other, value-renamed, value_gone)

-- the values of an enum
module _ (s p b q : Str) (o : Text) (is at : ℕ) (r : Step D.Value.Value) (f : ValuesFrom b at r) where
  pub all_end : r ≡ None → check_values (text_of q o) (values_at s p is) (values_at b q at) ≡ meaning p q (Ok tt)
  unfolding check_values
  all_end m = each-end _ _ p q (values-over-now b at r f q m)

  module _ (e : Value) (k : Cursor) (v : Result ⊤ Verdict) (m : r ≡ Some (e, k)) (h : meaning p q v ≡ check_value (text_of q o) (values_at s p is) (value_of q e)) where
    pub all-on : v ≡ Ok tt → check_values (text_of q o) (values_at s p is) (values_at b q at) ≡ check_values (text_of q o) (values_at s p is) (values_at b q k.at)
    unfolding check_values
    all-on g = each_on _ _ p q _ _ v (values-now b at r f q e k m) h g

    pub all-stop : (z : Result ⊤ Verdict) → HandedOn v z → check_values (text_of q o) (values_at s p is) (values_at b q at) ≡ meaning p q z
    unfolding check_values
    all-stop z g = each-stop _ _ p q _ _ v (values-now b at r f q e k m) h z g

pub ruleset values-laws = (all_end, all-on, all-stop)

-- one enum
module _ (s p b q : Str) (w : Enum) (at : ℕ) (r : Step D.Value.Value) (f : ValuesFrom b at r) where
  pub enum-empty : r ≡ None → meaning p q (Ok tt) ≡ check_enum (enums_at s p 0) (enum_of q w (values_at b q at))
  unfolding meaning check_enum empty ensure
  enum-empty m = rw (values-over-now b at r f q m)

  module _ (e : Value) (k : Cursor) (m : r ≡ Some (e, k)) (x : Str) (i : Step D.Enum.Enum) (t : x ≡ text_of q w.name) (h : enum_in x (enums_at s p 0) ≡ enum_found s p i) where
    sought : enum_in (text_of q w.name) (enums_at s p 0) ≡ enum_found s p i
    sought = rw (← t) h

    some-values : empty (values_at b q at) ≡ false
    unfolding empty
    some-values = ap empty (values-now b at r f q e k m)

    pub enum-gone : i ≡ None → meaning p q (Err (EnumGone w.name)) ≡ check_enum (enums_at s p 0) (enum_of q w (values_at b q at))
    unfolding meaning violation check_enum ensure on_found
    enum-gone g = rw (some-values, sought, g)

    pub enum-there : (c : Enum) (j : Cursor) (v : Result ⊤ Verdict) → i ≡ Some (c, j) → meaning p q v ≡ check_values (text_of q w.name) (values_at s p j.at) (values_at b q at)
        → meaning p q v ≡ check_enum (enums_at s p 0) (enum_of q w (values_at b q at))
    unfolding check_enum ensure on_found
    enum-there c j v g l = rw (some-values, sought, g) l

pub ruleset enum_laws = (enum-empty, enum-gone, enum-there)

-- the enums of a record
module _ (s p b q : Str) where
  pub enums-begin : (z : Cursor) → z ≡ start → check_enums (enums_at s p 0) (enums_at b q 0) ≡ check_enums (enums_at s p 0) (enums_at b q z.at)
  enums-begin z y = ap (λ (c : Cursor). check_enums (enums_at s p 0) (enums_at b q c.at)) (sym y)

  module _ (at : ℕ) (r : Step D.Enum.Enum) (f : EnumsFrom b at r) where
    pub every-end : r ≡ None → check_enums (enums_at s p 0) (enums_at b q at) ≡ meaning p q (Ok tt)
    unfolding check_enums
    every-end m = each-end _ _ p q (enums-over-now b at r f q m)

    module _ (e : Enum) (k : Cursor) (v : Result ⊤ Verdict) (m : r ≡ Some (e, k)) (h : meaning p q v ≡ check_enum (enums_at s p 0) (enum_of q e (values_at b q k.at))) where
      pub every-on : v ≡ Ok tt → check_enums (enums_at s p 0) (enums_at b q at) ≡ check_enums (enums_at s p 0) (enums_at b q k.at)
      unfolding check_enums
      every-on g = each_on _ _ p q _ _ v (enums-now b at r f q e k m) h g

      pub every-stop : (z : Result ⊤ Verdict) → HandedOn v z → check_enums (enums_at s p 0) (enums_at b q at) ≡ meaning p q z
      unfolding check_enums
      every-stop z g = each-stop _ _ p q _ _ v (enums-now b at r f q e k m) h z g

pub ruleset enums-laws = (every-end, every-on, every-stop)
