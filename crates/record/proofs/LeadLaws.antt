-- The table of leads while it is filled, and what it says of a name. Assumes nothing.
use Rattle.std.specs.Prelude.{Option, Some, None}
use mathlib.Core.Path.{◌≡◌, refl, sym, ap, subst, ◌∙◌}
use mathlib.Core.List.{List}
use mathlib.Core.Bool.{Bool, true, false}
use Prim.Native.Nat.{ℕ, ◌+◌, ◌-◌, ◌/◌, ◌≤◌, ◌<◌}
use native.Mathlib.Omega.{arith}
use lib.Dec.{eqb, ltb}
use lib.ListN.{length, get_or, set, length-set, get_or-eq_default}
use lib.Seq.{get_or-set_same, get_or-set_other}
use borrow.Author.Tests.{eq-eqb, ne_eqb, eqb-true, eqb-false, ltb-true, ltb-false}
use Rattle.record.specs.Base.{Str}
use Rattle.record.specs.Stretch.{text_of}
use Rattle.record.specs.Lists.{opt_of}
use Rattle.record.specs.Index.{Indexed, FirstNamed}
use Rattle.record.specs.Marks.{reference_at}
use Rattle.record.specs.Leads.{entry_of, EntryNamed, Least, IsLeast, PutLeast, LedTo, PutLead, LeadTable, LeadsFilled, LeadsTo, LeadGiven}
use Rattle.record.specs.Ownership.{EightClear}
use Rattle.record.specs.declared.text.Text.{Text}
use Rattle.record.specs.declared.leads.Lead.TheVariants.{Unknown, NoField, AField}
use Rattle.record.proofs.Basics.{none≢some}

-- entries ----------------------------------------------------------------------------------------------------------------

module _ (s p : Str) (x : List ℕ) (n : Str) (a : ℕ) (first : FirstNamed s p x 8 n a) where
  pub entry-struct : (a ≡ 0 → ⊥) → EntryNamed s p x n (a / 10)
  unfolding entry_of
  entry-struct z = record { is = λ i. rw (← first.first i, ne_eqb a 0 z) }

  pub entry-family : (b : ℕ) → a ≡ 0 → FirstNamed s p x 9 n b → EntryNamed s p x n (b / 10)
  unfolding entry_of
  entry-family b z second = record { is = λ i. rw (← first.first i, ← second.first i, eq-eqb a 0 z) }

pub ruleset entry-laws = (entry-struct, entry-family)

-- the lowest mark --------------------------------------------------------------------------------------------------------

module _ (m t : List ℕ) (e q : ℕ) where
  pub put-past : length t ≤ e → PutLeast m t e q t
  put-past h = record { same_length = refl; here = λ l. absurd (omega arith); kept = λ j k l. l }

  module _ (l : e < length t) (was : ℕ) (v : Bool) (i : was ≡ get_or t e 0) (c : IsLeast m was q v) where
    pub put-kept : v ≡ true → PutLeast m t e q t
    put-kept h = record { same_length = refl; here = λ j. subst (λ (a : ℕ). Least m a q) i (c.yes h); kept = λ j k g. g }

    own : (k : ℕ) → get_or m q 0 ≤ get_or m k 0 → Least m (q + 1) k
    own k h = record { there = λ z. omega arith; least = subst (λ (a : ℕ). get_or m a 0 ≤ get_or m k 0) (let z : q ≡ q + 1 - 1 = omega arith in z) h }

    pub put-over : v ≡ false → PutLeast m t e q (set t e (q + 1))
    put-over h = record {
      same_length = length-set t e (q + 1);
      here = λ j. subst (λ (a : ℕ). Least m a q) (sym (get_or-set_same t e (q + 1) 0 l)) (own q (omega arith));
      kept = λ j k g. go j k g (eqb j e) refl;
    }
      where
        go : (j k : ℕ) → Least m (get_or t j 0) k → (b : Bool) → eqb j e ≡ b → Least m (get_or (set t e (q + 1)) j 0) k
        go j k g true y =
            let d : j ≡ e = eqb-true j e y in
            let low : Least m was k = subst (λ (a : ℕ). Least m a k) (ap (λ (a : ℕ). get_or t a 0) d ∙ sym i) g in
            subst (λ (a : ℕ). Least m a k) (sym (ap (λ (a : ℕ). get_or (set t e (q + 1)) a 0) d ∙ get_or-set_same t e (q + 1) 0 l)) (own k (c.lower h k low))
        go j k g false y = subst (λ (a : ℕ). Least m a k) (sym (get_or-set_other t e j (q + 1) 0 (eqb-false j e y))) g

pub ruleset put-least-laws = (put-past, put-kept, put-over)

-- one field after the other ----------------------------------------------------------------------------------------------

module _ (s p : Str) (m t : List ℕ) (i : ℕ) (g : LedTo s p m t i) where
  -- the next one: those before stay, and it is put where it has a mark and refers to a name
  led-next : (after : List ℕ) → length after ≡ length t → ((j k : ℕ) → Least m (get_or t j 0) k → Least m (get_or after j 0) k)
      → ((n : Str) → (get_or m i 0 ≡ 0 → ⊥) → reference_at s p i ≡ Some n → entry_of s p n < length t → Least m (get_or after (entry_of s p n) 0) i) → LedTo s p m after (i + 1)
  led-next after long kept here = record { each = λ q n l a b c. go q n l a b c (eqb q i) refl }
    where
      go : (q : ℕ) (n : Str) → q < i + 1 → (get_or m q 0 ≡ 0 → ⊥) → reference_at s p q ≡ Some n → entry_of s p n < length after → (v : Bool) → eqb q i ≡ v → Least m (get_or after (entry_of s p n) 0) q
      go q n l a b c true e =
          subst (λ (k : ℕ). (get_or m k 0 ≡ 0 → ⊥) → reference_at s p k ≡ Some n → Least m (get_or after (entry_of s p n) 0) k) (sym (eqb-true q i e))
          (λ x y. here n x y (subst (λ (k : ℕ). entry_of s p n < k) long c)) a b
      go q n l a b c false e =
          let d : q ≡ i → ⊥ = eqb-false q i e in
          kept (entry_of s p n) q (g.each q n (omega arith) a b (subst (λ (k : ℕ). entry_of s p n < k) long c))

module _ (s p : Str) (m x t : List ℕ) (i : ℕ) where
  pub lead-unmarked : (b : ℕ) → b ≡ get_or m i 0 → b ≡ 0 → PutLead s p m x t i t
  lead-unmarked b e z = record { same_length = refl; next = λ j g. led-next s p m t i g t refl (λ k q l. l) (λ n a. absurd (a (sym e ∙ z))) }

  module _ (r : Option Text) (h : opt_of p r ≡ reference_at s p i) where
    pub lead-nowhere : r ≡ None → PutLead s p m x t i t
    lead-nowhere f = record {
      same_length = refl;
      next = λ j g. led-next s p m t i g t refl (λ k q l. l) (λ n a c. absurd (none≢some (sym (ap (opt_of p) f) ∙ h ∙ c)));
    }

    pub lead-put : (y : Text) (w : Str) (e : ℕ) (after : List ℕ) → r ≡ Some y → w ≡ text_of p y → EntryNamed s p x w e → PutLeast m t e i after → PutLead s p m x t i after
    lead-put y w e after f u a c = record {
      same_length = c.same_length;
      next = λ j g. led-next s p m t i g after c.same_length c.kept (λ n b k l. here n (a.is j) k l);
    }
      where
        named : (n : Str) → reference_at s p i ≡ Some n → w ≡ n
        named n k = let z : Some (text_of p y) ≡ Some n = ap (opt_of p) (sym f) ∙ h ∙ k in u ∙ (let o : text_of p y ≡ n = cc in o)

        here : (n : Str) → e ≡ entry_of s p w → reference_at s p i ≡ Some n → entry_of s p n < length t → Least m (get_or after (entry_of s p n) 0) i
        here n is k l =
            let z : e ≡ entry_of s p n = is ∙ ap (entry_of s p) (named n k) in
            subst (λ (b : ℕ). Least m (get_or after b 0) i) z (c.here (subst (λ (b : ℕ). b < length t) (sym z) l))

pub ruleset put-lead-laws = (lead-unmarked, lead-nowhere, lead-put)

-- the whole table --------------------------------------------------------------------------------------------------------

pub record Leading (s p : Str) (m x before t : List ℕ) (i : ℕ) : Type 0 where
  pub same_length : length t ≡ length before
  pub led : Indexed s p x → LedTo s p m t i

module _ (s p : Str) (m x : List ℕ) where
  pub leads-long : (t : List ℕ) → 32768 < length m → LeadsFilled s p m x t
  leads-long t h = record { led = λ j l. absurd (omega arith) }

  pub leading-start : (t : List ℕ) → Leading s p m x t t 0
  leading-start t = record { same_length = refl; led = λ j. record { each = λ q n l. absurd (omega arith) } }

  module _ (before t : List ℕ) (i : ℕ) (g : Leading s p m x before t i) where
    pub leading-eight : (v : Bool) → EightClear m i v → v ≡ true → Leading s p m x before t (i + 8)
    leading-eight v c y = record { same_length = g.same_length; led = λ j. record { each = λ q n l a. go q n j l a (ltb q i) refl } }
      where
        go : (q : ℕ) (n : Str) → Indexed s p x → q < i + 8 → (get_or m q 0 ≡ 0 → ⊥) → (b : Bool) → ltb q i ≡ b → reference_at s p q ≡ Some n → entry_of s p n < length t → Least m (get_or t (entry_of s p n) 0) q
        go q n j l a true e = (g.led j).each q n (ltb-true q i e) a
        go q n j l a false e = absurd (a (c.clear y q (ltb-false q i e) l))

    pub leading-on : (after : List ℕ) → PutLead s p m x t i after → Leading s p m x before after (i + 1)
    leading-on after c = record { same_length = c.same_length ∙ g.same_length; led = λ j. c.next j (g.led j) }

    pub leading_end : length m ≤ i → LeadsFilled s p m x t
    leading_end h = record { led = λ j l. record { each = λ q n a. go q n j a (ltb q i) refl } }
      where
        go : (q : ℕ) (n : Str) → Indexed s p x → (get_or m q 0 ≡ 0 → ⊥) → (b : Bool) → ltb q i ≡ b → reference_at s p q ≡ Some n → entry_of s p n < length t → Least m (get_or t (entry_of s p n) 0) q
        go q n j a true e = (g.led j).each q n (ltb-true q i e) a
        go q n j a false e = absurd (a (get_or-eq_default m 0 {n = q} (let z = ltb-false q i e in omega arith)))

    pub leading_length : length t ≡ length before
    leading_length = g.same_length

-- what it says of a name -------------------------------------------------------------------------------------------------

Unknown≢NoField : Unknown ≡ NoField → ⊥
Unknown≢NoField e = let z : ◌≡◌ {A = ℕ} 0 1 = cc in omega arith

Unknown≢AField : {i : ℕ} → Unknown ≡ AField i → ⊥
Unknown≢AField e = let z : ◌≡◌ {A = ℕ} 0 1 = cc in omega arith

NoField≢AField : {i : ℕ} → NoField ≡ AField i → ⊥
NoField≢AField e = let z : ◌≡◌ {A = ℕ} 0 1 = cc in omega arith

pub leads-unknown : (s p : Str) (m : List ℕ) (n : Str) → LeadsTo s p m n Unknown
leads-unknown s p m n = record { none = λ e. absurd (Unknown≢NoField e); least = λ i e. absurd (Unknown≢AField e) }

-- a table of no entries is that of any record
pub led-none : (s p : Str) (m t : List ℕ) → length t ≤ 0 → LeadTable s p m t
led-none s p m t h = record { each = λ q n a b c. absurd (omega arith) }

module _ (s p : Str) (x t : List ℕ) (n : Str) where
  pub given-unknown : LeadGiven s p x t n Unknown
  given-unknown = record { by = λ i m l. leads-unknown s p m n }

  module _ (e : ℕ) (named : EntryNamed s p x n e) (inside : e < length t) (link : ℕ) (is : link ≡ get_or t e 0) where
    there : Indexed s p x → (m : List ℕ) → LeadTable s p m t → (q : ℕ) → (get_or m q 0 ≡ 0 → ⊥) → reference_at s p q ≡ Some n → Least m link q
    there i m l q a b =
        let z : e ≡ entry_of s p n = named.is i in
        subst (λ (k : ℕ). Least m k q) (ap (λ (k : ℕ). get_or t k 0) (sym z) ∙ sym is) (l.each q n a b (subst (λ (k : ℕ). k < length t) z inside))

    pub given-none : link ≡ 0 → LeadGiven s p x t n NoField
    given-none z = record { by = λ i m l. record { none = λ e q a b. (there i m l q a b).there z; least = λ k e. absurd (NoField≢AField e) } }

    pub given-field : (at : ℕ) → at ≡ link - 1 → LeadGiven s p x t n (AField at)
    given-field at f = record {
      by = λ i m l. record {
        none = λ e. absurd (NoField≢AField (sym e));
        least = λ k e q a b. subst (λ (j : ℕ). get_or m j 0 ≤ get_or m q 0) (sym f ∙ same k e) (there i m l q a b).least;
      };
    }
      where
        same : (k : ℕ) → AField at ≡ AField k → at ≡ k
        same k e = cc

pub ruleset given-laws = (given-unknown, given-none, given-field)
