-- From the marks of a record to the owner of a name. Assumes nothing.
use Rattle.std.specs.Prelude.{Option, Some, None}
use mathlib.Core.Path.{◌≡◌, refl, sym, ap, subst, ◌∙◌}
use mathlib.Core.List.{List, [], ◌∷◌}
use mathlib.Core.Bool.{Bool, true, false, false≢true}
use mathlib.Core.Logic.{inl, inr}
use Prim.Native.Nat.{ℕ, suc, ◌+◌, ◌-◌, ◌≤◌, ◌<◌}
use native.Mathlib.Omega.{arith}
use lib.ListN.{length, get_or, drop, get_or-eq_default}
use lib.Dec.{eqb, leb, ltb}
use borrow.Author.Tests.{eqb-true, eqb-false, leb-true, leb-false, ltb-true, ltb-false}
use Rattle.record.specs.Base.{Str, bytes, eqs, is_text, find}
use Rattle.record.specs.Stretch.{text_of}
use Rattle.record.specs.Schema.{Field, Struct}
use Rattle.record.specs.Le.{u16_at, u32_at, u64_at}
use Rattle.record.specs.Operands.{text_at, opt_text_at}
use Rattle.record.specs.Commands.{field_at}
use Rattle.record.specs.Kind.{kind_of}
use Rattle.record.specs.Lists.{opt_of, field_of, struct_of}
use Rattle.record.specs.Steps.{structs_at, fields_at, struct_found}
use Rattle.record.specs.Owner.{Types, referenced, referenced_as, has_slot, struct_in_slot, with_name, roots_in, ownership_order, roots, owner_of, Leads, here, along, First, now, later}
use Rattle.record.specs.References.{types_at, HasSlot}
use Rattle.record.specs.Marks.{reference_at, target_at}
use Rattle.record.specs.Leads.{LeadsTo}
use Rattle.record.specs.Versioned.{struct_commands_at, command_found, InSlot, InSlots}
use Rattle.record.specs.Index.{IndexRoom, Indexed}
use Rattle.record.specs.Ownership.{Within, Resolved, OwnerMarks, Known, RootsMarked, EightClear, OwnerBy, MarkedName, NamedBy, Claims, OwnerIn, with_stretch, stretches_in, stretch_of, owner_at, IsOwner, OwnerFound}
use Rattle.record.specs.declared.text.Text.{Text}
use Rattle.record.specs.declared.kind.Kind.{Kind}
use Rattle.record.specs.declared.kind.Kind.TheVariants as K
use Rattle.record.specs.declared.command as D
use Rattle.record.specs.declared.command.Cursor.{Cursor}
use Rattle.record.specs.declared.versioned.Versioned.{Versioned}
use Rattle.record.specs.declared.leads.Lead.{Lead}
use Rattle.record.specs.declared.leads.Lead.TheVariants.{Unknown, NoField, AField}
use Rattle.record.proofs.Basics.{eqs→eq, eqs-refl, none≢some, same-parts}
use Rattle.record.proofs.ListLaws.{find-hit, find-miss}
use Rattle.record.proofs.Walk.{owner-is-first}
use Rattle.record.proofs.LeadLaws.{leads-unknown}
use Rattle.record.proofs.PlaceLaws.{entered-is, is-entered}
use Rattle.record.specs.Commands.{Step}

-- a field with a mark that refers to the name ----------------------------------------------------------------------------

pub record NoneTo (s p : Str) (m : List ℕ) (n : Str) (mark i : ℕ) : Type 0 where
  pub below : (q : ℕ) → q < i → get_or m q 0 ≡ mark → reference_at s p q ≡ Some n → ⊥

text-is : (o : Option Str) (n : Str) → is_text o n ≡ true → o ≡ Some n
unfolding is_text
text-is None n e = absurd (false≢true e)
text-is (Some x) n e = ap Some (eqs→eq x n e)

is-text : (o : Option Str) (n : Str) → o ≡ Some n → is_text o n ≡ true
unfolding is_text
is-text o n e = rw e (eqs-refl n)

module _ (s p : Str) (m : List ℕ) (n : Str) (mark : ℕ) where
  pub none_yet : NoneTo s p m n mark 0
  none_yet = record { below = λ q h. absurd (omega arith) }

  module _ (i : ℕ) (h : NoneTo s p m n mark i) where
    step : (get_or m i 0 ≡ mark → reference_at s p i ≡ Some n → ⊥) → NoneTo s p m n mark (i + 1)
    step g = record { below = λ q l. go q l (eqb q i) refl }
      where
        go : (q : ℕ) → q < i + 1 → (b : Bool) → eqb q i ≡ b → get_or m q 0 ≡ mark → reference_at s p q ≡ Some n → ⊥
        go q l true e = subst (λ (x : ℕ). get_or m x 0 ≡ mark → reference_at s p x ≡ Some n → ⊥) (sym (eqb-true q i e)) g
        go q l false e = h.below q (let z : q ≡ i → ⊥ = eqb-false q i e in omega arith)

    pub none-marked : (get_or m i 0 ≡ mark → ⊥) → NoneTo s p m n mark (i + 1)
    none-marked g = step (λ e t. g e)

    pub none-ends : length m ≤ i → MarkedName s p m n mark false
    none-ends l = record { yes = λ e. absurd (false≢true e); never = λ e r. let j = r.inside in h.below r.place (omega arith) r.is r.name }

    -- eight at once
    pub none-eight : (v : Bool) → 0 < mark → EightClear m i v → v ≡ true → NoneTo s p m n mark (i + 8)
    none-eight v real c y = record { below = λ q l. go q l (ltb q i) refl }
      where
        go : (q : ℕ) → q < i + 8 → (b : Bool) → ltb q i ≡ b → get_or m q 0 ≡ mark → reference_at s p q ≡ Some n → ⊥
        go q l true e g t = h.below q (ltb-true q i e) g t
        go q l false e g t = let z = c.clear y q (ltb-false q i e) l in omega arith

    module _ (b : Bool) (is : b ≡ is_text (reference_at s p i) n) where
      pub none_other : b ≡ false → NoneTo s p m n mark (i + 1)
      none_other e = step (λ g t. false≢true (sym e ∙ is ∙ is-text (reference_at s p i) n t))

      pub one_found : i < length m → get_or m i 0 ≡ mark → b ≡ true → MarkedName s p m n mark true
      one_found l g e = record {
        yes = λ z. record { place = i; inside = l; is = g; name = text-is (reference_at s p i) n (sym is ∙ e) };
        never = λ z. absurd (false≢true (sym z));
      }

-- by what is known of the fields that refer to the name
module _ (s p : Str) (m : List ℕ) (n : Str) (mark : ℕ) (real : 0 < mark) where
  pub lead-none : (r : Lead) → LeadsTo s p m n r → r ≡ NoField → MarkedName s p m n mark false
  lead-none r l e = record {
    yes = λ z. absurd (false≢true z);
    never = λ z f. l.none e f.place (λ y. let i = f.is in omega arith) f.name;
  }

  pub lead-told : (r : Lead) (i : ℕ) (b : Bool) → r ≡ AField i → (LeadsTo s p m n (AField i) → MarkedName s p m n mark b) → LeadsTo s p m n r → MarkedName s p m n mark b
  lead-told r i b e h l = h (subst (LeadsTo s p m n) e l)

  module _ (i a : ℕ) (is : a ≡ get_or m i 0) where
    pub lead-later : LeadsTo s p m n (AField i) → mark < a → MarkedName s p m n mark false
    lead-later l h = record {
      yes = λ z. absurd (false≢true z);
      never = λ z f. let k = l.least i refl f.place (λ y. let j = f.is in omega arith) f.name in let j = f.is in omega arith;
    }

    pub lead-same : (b : Bool) → mark ≡ a → b ≡ is_text (reference_at s p i) n → b ≡ true → MarkedName s p m n mark true
    lead-same b h e t = record {
      yes = λ z. record { place = i; inside = inside (ltb i (length m)) refl; is = sym (h ∙ is); name = text-is (reference_at s p i) n (sym e ∙ t) };
      never = λ z. absurd (false≢true (sym z));
    }
      where
        inside : (v : Bool) → ltb i (length m) ≡ v → i < length m
        inside true z = ltb-true i (length m) z
        inside false z = absurd (let k = get_or-eq_default m 0 {n = i} (ltb-false i (length m) z) in omega arith)

-- bytes of a number that is 0
module _ (m : List ℕ) (q : ℕ) where
  zero-two : (a : ℕ) → u16_at m a ≡ 0 → a ≤ q → q < a + 2 → get_or m q 0 ≡ 0
  unfolding u16_at
  zero-two a z l h = go (eqb q a) refl
    where
      go : (b : Bool) → eqb q a ≡ b → get_or m q 0 ≡ 0
      go true e = subst (λ (x : ℕ). get_or m x 0 ≡ 0) (sym (eqb-true q a e)) (omega arith)
      go false e =
          let n = eqb-false q a e in
          let k : a + 1 ≡ q = omega arith in
          subst (λ (x : ℕ). get_or m x 0 ≡ 0) k (omega arith)

  zero-four : (a : ℕ) → u32_at m a ≡ 0 → a ≤ q → q < a + 4 → get_or m q 0 ≡ 0
  unfolding u32_at
  zero-four a z l h = go (ltb q (a + 2)) refl
    where
      go : (b : Bool) → ltb q (a + 2) ≡ b → get_or m q 0 ≡ 0
      go true e = zero-two a (omega arith) l (ltb-true q (a + 2) e)
      go false e = zero-two (a + 2) (omega arith) (ltb-false q (a + 2) e) (omega arith)

  zero-eight : (a : ℕ) → u64_at m a ≡ 0 → a ≤ q → q < a + 8 → get_or m q 0 ≡ 0
  unfolding u64_at
  zero-eight a z l h = go (ltb q (a + 4)) refl
    where
      go : (b : Bool) → ltb q (a + 4) ≡ b → get_or m q 0 ≡ 0
      go true e = zero-four a (omega arith) l (ltb-true q (a + 4) e)
      go false e = zero-four (a + 4) (omega arith) (ltb-false q (a + 4) e) (omega arith)

module _ (m : List ℕ) (i : ℕ) where
  pub eight-there : (w : ℕ) → w ≡ u64_at m i → 8 ≤ length m → i ≤ length m - 8 → EightClear m i (eqb w 0)
  eight-there w e l k = record { room = λ y. omega arith; clear = λ y q a b. zero-eight m q i (sym e ∙ eqb-true w 0 y) a b }

-- a field refers to no name that is neither its type's nor its element's
either : (k : Kind) (f : Field) (n : Str) → is_text f.typ n ≡ false → is_text f.element n ≡ false → is_text (referenced_as k f) n ≡ false
unfolding referenced_as is_text
either K.Scalar f n a b = refl
either K.Enum f n a b = refl
either K.TypeAlias f n a b = refl
either K.Bitfield f n a b = refl
either K.InlineArray f n a b = refl
either K.InlineArray2d f n a b = refl
either K.CstrPtr f n a b = refl
either K.StructPtr f n a b = a
either K.StructArrayPtr f n a b = b
either K.StructPtrArrayPtr f n a b = b
either K.TaggedFamPtr f n a b = a
either K.SimpleFamPtr f n a b = a
either K.OpaquePtr f n a b = refl
either K.FnPtr f n a b = refl
either K.Padding f n a b = refl
either K.Text f n a b = refl
either K.Other f n a b = refl

module _ (s p n : Str) (i : ℕ) where
  pub refers-not : (y : Str) (o u : Option Text) (a b : Bool) → y ≡ drop i s → o ≡ opt_text_at y 7 → a ≡ is_text (opt_of p o) n → a ≡ false → u ≡ opt_text_at y 10 → b ≡ is_text (opt_of p u) n → b ≡ false → false ≡ is_text (reference_at s p i) n
  unfolding reference_at referenced
  refers-not y o u a b d e f g h j k =
      sym (either (kind_of (text_of p (text_at (drop i s) 4))) (field_of p (field_at (drop i s)) None) n
      (ap (λ (x : Option Text). is_text (opt_of p x) n) (ap (λ (x : Str). opt_text_at x 7) (sym d) ∙ sym e) ∙ sym f ∙ g)
      (ap (λ (x : Option Text). is_text (opt_of p x) n) (ap (λ (x : Str). opt_text_at x 10) (sym d) ∙ sym h) ∙ sym j ∙ k))

-- what the marks say of one root -----------------------------------------------------------------------------------------

Nobody≢Owned : {t : Text} → None ≡ Some t → ⊥
Nobody≢Owned e = let z : ◌≡◌ {A = ℕ} 0 1 = cc in omega arith

module _ (s p : Str) (m : List ℕ) (n slot : Str) (mark : ℕ) (r : Step D.Struct.Struct) (i : InSlot s p slot r) where
  nobody-there : r ≡ None → OwnerIn s p m n slot mark None
  nobody-there e = record {
    filled = r;
    fills = i;
    owned = λ t g. absurd (Nobody≢Owned g);
    nobody = λ g root k h c. let z : ◌≡◌ {A = ℕ} 0 1 = cc in omega arith;
  }

  module _ (root : D.Struct.Struct) (k : Cursor) (e : r ≡ Some (root, k)) (x : Str) (b : Bool) (text : x ≡ text_of p root.name) (same : b ≡ eqs x n) where
    claimed : Claims s p m n mark root → OwnerIn s p m n slot mark (Some root.name)
    claimed c = record {
      filled = r;
      fills = i;
      owned = λ t g. record { root = root; after = k; stands = e; stretch = cc; claims = c };
      nobody = λ g. absurd (Nobody≢Owned (sym g));
    }

    unclaimed : (Claims s p m n mark root → ⊥) → OwnerIn s p m n slot mark None
    unclaimed c = record {
      filled = r;
      fills = i;
      owned = λ t g. absurd (Nobody≢Owned g);
      nobody = λ g y j h d. c (subst (Claims s p m n mark) (other y j h) d);
    }
      where
        other : (y : D.Struct.Struct) (j : Cursor) → r ≡ Some (y, j) → y ≡ root
        other y j h = (same-parts (sym h ∙ e)).0

    own : b ≡ true → OwnerIn s p m n slot mark (Some root.name)
    own h = claimed (inl (sym text ∙ eqs→eq x n (sym same ∙ h)))

    module _ (d : b ≡ false) where
      differ : text_of p root.name ≡ n → ⊥
      differ g = false≢true (sym d ∙ same ∙ ap (eqs x) (sym (text ∙ g)) ∙ eqs-refl x)

      neither : (NamedBy s p m mark n → ⊥) → Claims s p m n mark root → ⊥
      neither f (inl g) = differ g
      neither f (inr g) = f g

      free : (g : NamedBy s p m mark n) → (reference_at s p g.place ≡ Some n) × (has_slot (types_at s p) n ≡ false)
      unfolding target_at
      free g = entered-is (types_at s p) (reference_at s p g.place) n g.leads

      slotted-so : has_slot (types_at s p) n ≡ true → OwnerIn s p m n slot mark None
      slotted-so h = unclaimed (neither (λ g. false≢true (sym (free g).1 ∙ h)))

      module _ (v : Bool) (told : MarkedName s p m n mark v) where
        named-so : has_slot (types_at s p) n ≡ false → v ≡ true → OwnerIn s p m n slot mark (Some root.name)
        unfolding target_at
        named-so h y =
            let g = told.yes y in
            claimed (inr (record { place = g.place; inside = g.inside; is = g.is; leads = is-entered (types_at s p) _ n g.name h }))

        not_so : v ≡ false → OwnerIn s p m n slot mark None
        not_so y = unclaimed (neither (λ g. told.never y (record { place = g.place; inside = g.inside; is = g.is; name = (free g).0 })))

module _ (s p : Str) (m z : List ℕ) (n : Str) (mark : ℕ) (r : Step D.Struct.Struct) (lead : Lead) where
  pub owner-none : r ≡ None → OwnerBy s p m z r lead n mark None
  owner-none e = record { by = λ slot i j l. nobody-there s p m n slot mark r i e }

  module _ (root : D.Struct.Struct) (k : Cursor) (e : r ≡ Some (root, k)) (x : Str) (b : Bool) (text : x ≡ text_of p root.name) (same : b ≡ eqs x n) where
    pub owner-own : b ≡ true → OwnerBy s p m z r lead n mark (Some root.name)
    owner-own h = record { by = λ slot i j l. own s p m n slot mark r i root k e x b text same h }

    module _ (d : b ≡ false) (f : Bool) (slotted : HasSlot s p z n f) where
      pub owner-slotted : f ≡ true → OwnerBy s p m z r lead n mark None
      owner-slotted h = record { by = λ slot i j l. slotted-so s p m n slot mark r i root k e x b text same d (sym (slotted.is j) ∙ h) }

      module _ (v : Bool) (told : LeadsTo s p m n lead → MarkedName s p m n mark v) (h : f ≡ false) where
        pub owner-named : v ≡ true → OwnerBy s p m z r lead n mark (Some root.name)
        owner-named y = record { by = λ slot i j l. named-so s p m n slot mark r i root k e x b text same d v (told l) (sym (slotted.is j) ∙ h) y }

        pub owner-not : v ≡ false → OwnerBy s p m z r lead n mark None
        owner-not y = record { by = λ slot i j l. not_so s p m n slot mark r i root k e x b text same d v (told l) y }

pub ruleset owner-in-laws = (owner-none, owner-own, owner-slotted, owner-named, owner-not)

-- the answer -------------------------------------------------------------------------------------------------------------

-- an answer of these slots: the first root that leads to the name, and the first of their stretches that reads as its name does
record AnswerIn (s p n : Str) (slots : List Str) (r : Option Text) : Type 0 where
  first : (t : Text) → r ≡ Some t → First (types_at s p) n (roots_in (structs_at s p 0) slots) (text_of p t)
  leads : (t : Text) → r ≡ Some t → Leads (types_at s p) (text_of p t) n
  stretch : (t : Text) → r ≡ Some t → find (λ (x : Text). eqs (text_of p x) (text_of p t)) (stretches_in p (struct_commands_at s 0) slots) ≡ Some t
  nobody : r ≡ None → (x : Str) → First (types_at s p) n (roots_in (structs_at s p 0) slots) x → ⊥

first-nil : {t : Types} {n x : Str} → First t n [] x → ⊥
first-nil f = elim f [ ]

first-later : {t : Types} {n q x : Str} {rs : List Str} → (Leads t q n → ⊥) → First t n (q ∷ rs) x → First t n rs x
first-later d (now e l) = absurd (d l)
first-later d (later c f) = f

module _ (s p n : Str) where
  answer-end : AnswerIn s p n [] None
  unfolding roots_in
  answer-end = record {
    first = λ t e. absurd (Nobody≢Owned e);
    leads = λ t e. absurd (Nobody≢Owned e);
    stretch = λ t e. absurd (Nobody≢Owned e);
    nobody = λ e x f. first-nil f;
  }

  module _ (slot : Str) (slots : List Str) (f : Step D.Struct.Struct) (i : InSlot s p slot f) where
    roots-are : roots_in (structs_at s p 0) (slot ∷ slots) ≡ with_name (struct_found s p f) (roots_in (structs_at s p 0) slots)
    unfolding roots_in
    roots-are = ap (λ (o : Option Struct). with_name o (roots_in (structs_at s p 0) slots)) i.struct

    stretches-are : stretches_in p (struct_commands_at s 0) (slot ∷ slots) ≡ with_stretch (command_found f) (stretches_in p (struct_commands_at s 0) slots)
    unfolding stretches_in
    stretches-are = ap (λ (o : Option D.Struct.Struct). with_stretch o (stretches_in p (struct_commands_at s 0) slots)) i.command

    module _ (root : D.Struct.Struct) (k : Cursor) (e : f ≡ Some (root, k)) where
      roots-now : roots_in (structs_at s p 0) (slot ∷ slots) ≡ text_of p root.name ∷ roots_in (structs_at s p 0) slots
      unfolding with_name
      roots-now = roots-are ∙ ap (λ (x : Step D.Struct.Struct). with_name (struct_found s p x) (roots_in (structs_at s p 0) slots)) e

      stretches-now : stretches_in p (struct_commands_at s 0) (slot ∷ slots) ≡ root.name ∷ stretches_in p (struct_commands_at s 0) slots
      unfolding with_stretch
      stretches-now = stretches-are ∙ ap (λ (x : Step D.Struct.Struct). with_stretch (command_found x) (stretches_in p (struct_commands_at s 0) slots)) e

      answer-taken : Leads (types_at s p) (text_of p root.name) n → AnswerIn s p n (slot ∷ slots) (Some root.name)
      answer-taken l = record {
        first = λ t g. rw roots-now (now (ap (text_of p) (is t g)) l);
        leads = λ t g. subst (λ (x : Text). Leads (types_at s p) (text_of p x) n) (is t g) l;
        stretch = λ t g. find-hit _ _ root.name _ stretches-now (rw (is t g) (eqs-refl (text_of p t))) ∙ ap Some (is t g);
        nobody = λ g. absurd (Nobody≢Owned (sym g));
      }
        where
          is : (t : Text) → Some root.name ≡ Some t → root.name ≡ t
          is t g = cc

      answer-other : (r : Option Text) → (Leads (types_at s p) (text_of p root.name) n → ⊥) → AnswerIn s p n slots r → AnswerIn s p n (slot ∷ slots) r
      answer-other r d a = record {
        first = λ t g. rw roots-now (later d (a.first t g));
        leads = a.leads;
        stretch = λ t g. find-miss _ _ root.name _ stretches-now (differ t (a.leads t g) (eqs (text_of p root.name) (text_of p t)) refl) ∙ a.stretch t g;
        nobody = λ g x h. a.nobody g x (first-later d (rw roots-now at h));
      }
        where
          differ : (t : Text) → Leads (types_at s p) (text_of p t) n → (b : Bool) → eqs (text_of p root.name) (text_of p t) ≡ b → b ≡ false
          differ t l true g = absurd (d (subst (λ (x : Str). Leads (types_at s p) x n) (sym (eqs→eq _ _ g)) l))
          differ t l false g = refl

    answer-empty : (r : Option Text) → f ≡ None → AnswerIn s p n slots r → AnswerIn s p n (slot ∷ slots) r
    unfolding with_name with_stretch
    answer-empty r e a = record {
      first = λ t g. rw roots (a.first t g);
      leads = a.leads;
      stretch = λ t g. rw stretches (a.stretch t g);
      nobody = λ g x h. a.nobody g x (rw roots at h);
    }
      where
        roots : roots_in (structs_at s p 0) (slot ∷ slots) ≡ roots_in (structs_at s p 0) slots
        roots = roots-are ∙ ap (λ (x : Step D.Struct.Struct). with_name (struct_found s p x) (roots_in (structs_at s p 0) slots)) e

        stretches : stretches_in p (struct_commands_at s 0) (slot ∷ slots) ≡ stretches_in p (struct_commands_at s 0) slots
        stretches = stretches-are ∙ ap (λ (x : Step D.Struct.Struct). with_stretch (command_found x) (stretches_in p (struct_commands_at s 0) slots)) e

    -- a root that does not lead to the name is passed over
    answer-left : (r : Option Text) → ((root : D.Struct.Struct) (k : Cursor) → f ≡ Some (root, k) → Leads (types_at s p) (text_of p root.name) n → ⊥) → AnswerIn s p n slots r → AnswerIn s p n (slot ∷ slots) r
    answer-left r d a = go f refl
      where
        go : (x : Step D.Struct.Struct) → f ≡ x → AnswerIn s p n (slot ∷ slots) r
        go None e = answer-empty r e a
        go (Some (root, k)) e = answer-other root k e r (d root k e) a

  -- one root by its marks
  module _ (m : List ℕ) (slot : Str) (j : ℕ) (c : Resolved s p m (suc j) slot) (r : Option Text) (o : OwnerIn s p m n slot (suc j) r) where
    through : (root : D.Struct.Struct) (k : Cursor) → o.filled ≡ Some (root, k) → struct_in_slot slot (structs_at s p 0) ≡ Some (struct_of p root (fields_at s p k.at))
    through root k e = o.fills.struct ∙ ap (struct_found s p) e

    claims-lead : (root : D.Struct.Struct) (k : Cursor) → o.filled ≡ Some (root, k) → Claims s p m n (suc j) root → Leads (types_at s p) (text_of p root.name) n
    claims-lead root k e (inl g) = here g
    claims-lead root k e (inr g) =
        let t = c.sound g.place n g.is g.leads in
        let q : Some (struct_of p root (fields_at s p k.at)) ≡ Some t.root = sym (through root k e) ∙ t.fills in
        subst (λ (x : Str). Leads (types_at s p) x n) (named t.root q) t.leads
      where
        named : (x : Struct) → Some (struct_of p root (fields_at s p k.at)) ≡ Some x → x.name ≡ text_of p root.name
        named x q = let y : x ≡ struct_of p root (fields_at s p k.at) = cc in ap (λ (z : Struct). z.name) y

    root-taken : (slots : List Str) (t : Text) → r ≡ Some t → AnswerIn s p n (slot ∷ slots) (Some t)
    root-taken slots t e =
        let w = o.owned t e in
        subst (λ (x : Text). AnswerIn s p n (slot ∷ slots) (Some x)) w.stretch
        (answer-taken slot slots o.filled o.fills w.root w.after w.stands (claims-lead w.root w.after w.stands w.claims))

    -- where no earlier root has marked a field that leads to the name, and this one has not, none has so far
    module _ (none_before : Within s p m j n → ⊥) (e : r ≡ None) where
      none_so_far : Within s p m (suc j) n → ⊥
      none_so_far h = go (leb (get_or m h.place 0) j) refl o.filled refl
        where
          inside : h.place < length m
          inside = at (ltb h.place (length m)) refl
            where
              at : (b : Bool) → ltb h.place (length m) ≡ b → h.place < length m
              at true g = ltb-true h.place (length m) g
              at false g = absurd (h.marked (get_or-eq_default m 0 {n = h.place} (ltb-false h.place (length m) g)))

          equal : leb (get_or m h.place 0) j ≡ false → get_or m h.place 0 ≡ suc j
          equal g = let l = h.most in let k = leb-false (get_or m h.place 0) j g in omega arith

          go : (b : Bool) → leb (get_or m h.place 0) j ≡ b → (x : Step D.Struct.Struct) → o.filled ≡ x → ⊥
          go true g x y = none_before (record { place = h.place; leads = h.leads; marked = h.marked; most = leb-true (get_or m h.place 0) j g })
          go false g None y =
              let t = c.sound h.place n (equal g) h.leads in none≢some (sym (o.fills.struct ∙ ap (struct_found s p) y) ∙ t.fills)
          go false g (Some (root, k)) y = o.nobody e root k y (inr (record { place = h.place; inside = inside; is = equal g; leads = h.leads }))

      none-leads : (root : D.Struct.Struct) (k : Cursor) → o.filled ≡ Some (root, k) → Leads (types_at s p) (text_of p root.name) n → ⊥
      none-leads root k y (here g) = o.nobody e root k y (inl g)
      none-leads root k y (along l g) =
          none_so_far (c.complete _ n (record { root = struct_of p root (fields_at s p k.at); fills = through root k y; leads = l }) g)

      root-left : (slots : List Str) (x : Option Text) → AnswerIn s p n slots x → AnswerIn s p n (slot ∷ slots) x
      root-left slots x a = answer-left slot slots o.filled o.fills x none-leads a

  -- an answer of all three slots is the owner
  answered : (r : Option Text) → AnswerIn s p n ownership_order r → IsOwner s p n r
  unfolding owner_at stretch_of roots
  answered None a = record { owner = sym nobody; stretch = rw nobody }
    where
      none-owns : (x : Option Str) → owner_of (types_at s p) n ≡ x → x ≡ None
      none-owns None e = refl
      none-owns (Some x) e = absurd (a.nobody refl x ((owner-is-first (types_at s p) n x).0 e))

      nobody : owner_of (types_at s p) n ≡ None
      nobody = none-owns (owner_of (types_at s p) n) refl
  answered (Some t) a = record { owner = sym owns; stretch = rw owns (rw (a.stretch t refl)) }
    where
      owns : owner_of (types_at s p) n ≡ Some (text_of p t)
      owns = (owner-is-first (types_at s p) n (text_of p t)).1 (a.first t refl)

  -- the three slots, one after the other
  module _ (m x : List ℕ) (roots : Versioned) (lead : Lead) (known : Known s p m x) (slots : InSlots s p roots) (led : LeadsTo s p m n lead) (a : Option Text) (first : OwnerBy s p m x roots.metadata lead n 1 a) where
    g : OwnerMarks s p m
    g = known.marks

    one : OwnerIn s p m n (bytes "metadata") 1 a
    one = first.by (bytes "metadata") slots.metadata known.index led

    none_first : Within s p m 0 n → ⊥
    none_first h = h.marked (let l = h.most in omega arith)

    pub answer-first : (t : Text) → a ≡ Some t → IsOwner s p n (Some t)
    unfolding ownership_order
    answer-first t e = answered (Some t) (root-taken m (bytes "metadata") 0 g.metadata a one _ t e)

    module _ (e : a ≡ None) (b : Option Text) (second : OwnerBy s p m x roots.runtime lead n 2 b) where
      two : OwnerIn s p m n (bytes "runtime") 2 b
      two = second.by (bytes "runtime") slots.runtime known.index led

      none-second : Within s p m 1 n → ⊥
      none-second = none_so_far m (bytes "metadata") 0 g.metadata a one none_first e

      past_first : (slots : List Str) (r : Option Text) → AnswerIn s p n slots r → AnswerIn s p n (bytes "metadata" ∷ slots) r
      past_first = root-left m (bytes "metadata") 0 g.metadata a one none_first e

      pub answer-second : (t : Text) → b ≡ Some t → IsOwner s p n (Some t)
      unfolding ownership_order
      answer-second t h = answered (Some t) (past_first _ (Some t) (root-taken m (bytes "runtime") 1 g.runtime b two _ t h))

      module _ (h : b ≡ None) (c : Option Text) (third : OwnerBy s p m x roots.info lead n 3 c) where
        three : OwnerIn s p m n (bytes "info") 3 c
        three = third.by (bytes "info") slots.info known.index led

        last : (r : Option Text) → c ≡ r → AnswerIn s p n (bytes "info" ∷ []) r
        last None y =
            root-left m (bytes "info") 2 g.info c three (none_so_far m (bytes "runtime") 1 g.runtime b two none-second h) y [] None answer-end
        last (Some t) y = root-taken m (bytes "info") 2 g.info c three [] t y

        pub answer-third : IsOwner s p n c
        unfolding ownership_order
        answer-third = answered c (past_first _ c (root-left m (bytes "runtime") 1 g.runtime b two none-second h _ c (last c refl)))

-- the call ---------------------------------------------------------------------------------------------------------------

module _ (s p n : Str) (r : Option Text) where
  pub answered-lent : (room after x : List ℕ) (roots : Versioned) → length s ≤ 32768 → IndexRoom s room → (length s ≤ 32768 → IndexRoom s room → Indexed s p x) → RootsMarked s p roots x after
      → InSlots s p roots → (Known s p after x → InSlots s p roots → LeadsTo s p after n Unknown → IsOwner s p n r) → IsOwner s p n r
  answered-lent room after x roots h i fill f slots a =
      let index = fill h i in
      a (record { marks = f.by slots index; index = index }) slots (leads-unknown s p after n)

  pub found_within : length s ≤ 32768 → IsOwner s p n r → OwnerFound 32768 s p n r
  found_within h a = record { within = λ l. a; beyond = λ l. absurd (omega arith) }

pub found-beyond : (s p n : Str) → 32768 < length s → OwnerFound 32768 s p n None
found-beyond s p n h = record { within = λ l. absurd (omega arith); beyond = λ l. refl }
