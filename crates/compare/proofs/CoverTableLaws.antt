-- The table of what covers each type: how it is read, and that it says what the definition does. Assumes nothing.
use Prim.Native.Nat.{ℕ, suc, ◌+◌, ◌-◌, ◌≤◌, ◌<◌, ◌/◌, ◌%◌}
use mathlib.Core.Path.{◌≡◌, refl, sym, ap, ap₂, ◌∙◌}
use mathlib.Core.List.{List, [], ◌∷◌, map}
use mathlib.Core.Bool.{Bool, true, false, ◌&&◌, not, cond}
use native.Mathlib.Omega.{arith}
use lib.Dec.{eqb, ltb}
use lib.ListN.{length, drop, get_or, set, length-set}
use lib.Seq.{get_or-drop, get_or-set_same, get_or-set_other}
use borrow.Author.Tests.{eq-eqb, ne_eqb, lt-ltb, le-ltb, eqb-true, eqb-false, ltb-true}
use mathlib.Core.Logic.{◌⊎◌, inl, inr}
use Rattle.std.specs.Prelude.{Result, Ok, Err, ⊤, Option, Some, None}
use Rattle.record.specs.Base.{Str, eqs, is_text, map_option, find, filter_b}
use Rattle.record.specs.Stretch.{text_of}
use Rattle.record.specs.Scalars.{Scalar}
use Rattle.record.specs.Owner.{Types, owner_of}
use Rattle.record.specs.References.{types_at}
use Rattle.record.specs.Ownership.{Known}
use Rattle.record.specs.Leads.{LeadsFilled}
use Rattle.record.specs.Versioned.{InSlots}
use Rattle.record.specs.Reading.{Rec, rec, schema_of}
use Rattle.record.specs.declared.versioned.Versioned.{Versioned}
use Rattle.record.proofs.LeadLaws.{led-none}
use Rattle.layout.specs.Layout.{TypeLayout, types, type_in}
use Rattle.layout.specs.Handles.{type_name, layout_of}
use Rattle.layout.specs.Names.{name_of, stretches_of}
use Rattle.layout.specs.Table.{TypesTable}
use Rattle.layout.specs.declared.names.TypeName.{TypeName}
use Rattle.layout.proofs.NameLaws.{stretches-read}
use Rattle.definition.specs.Verdicts as D
use Rattle.definition.specs.Verdicts.{uncovered}
use Rattle.definition.specs.Pass.{◌then◌, ensure, each, on_found}
use Rattle.definition.specs.Fields.{same_as, changed}
use Rattle.definition.specs.Coverage.{owning, stands_alone, check_covered, check_all_covered, under, first_under}
use Rattle.compare.specs.CoverTable.{cover_in, cover_for, stretch_in, cover_meant, Owners, Knows, changed_types, Changes, Entered, CoverTable, first_uncovered, is_under, first_touched, touched_name, touched_by}
use Rattle.verdicts.specs.Meaning.{violation, meaning}
use Rattle.verdicts.specs.declared.verdict.Verdict.{Verdict}
use Rattle.verdicts.specs.declared.verdict.Verdict.TheVariants.{Uncovered}

-- entries one after the other ---------------------------------------------------------------------------------------------

-- where two lists end side by side, one of them is over
module _ {X Y : Type 0} {P : X → Type 0} {Q : Y → Type 0} where
  over : (u l : List ℕ) → ((x : X) × (length u ≡ 0 × P x)) ⊎ ((y : Y) × (length l ≡ 0 × Q y)) → (u ≡ []) ⊎ (l ≡ [])
  over [] l e = inl refl
  over (h ∷ u) [] e = inr refl
  over (h ∷ u) (n ∷ l) (inl e) = let z = e.1.0 in absurd (omega arith)
  over (h ∷ u) (n ∷ l) (inr e) = let z = e.1.0 in absurd (omega arith)

-- past the table's end no entry says anything
none-uncovered : (s : Str) (u l : List ℕ) → (u ≡ []) ⊎ (l ≡ []) → Ok tt ≡ first_uncovered s u l
unfolding first_uncovered
none-uncovered s u l (inl e) = rw e
none-uncovered s u l (inr e) = rw e (go u)
  where
    go : (u : List ℕ) → Ok tt ≡ first_uncovered s u []
    go [] = refl
    go (h ∷ u) = go u

-- u and l are what is left of the types and of their entries
module _ (s : Str) (t m u l : List ℕ) (i : first_uncovered s t m ≡ first_uncovered s u l) where
  pub uncovered-end : {X Y : Type 0} {P : X → Type 0} {Q : Y → Type 0} → ((x : X) × (length u ≡ 0 × P x)) ⊎ ((y : Y) × (length l ≡ 0 × Q y)) → Ok tt ≡ first_uncovered s t m
  uncovered-end e = none-uncovered s u l (over u l e) ∙ sym i

  module _ (h n : ℕ) (v k : List ℕ) (e : (u ≡ h ∷ v) × (l ≡ n ∷ k)) where
    uncovered-next : first_uncovered s t m ≡ cond (eqb n 1) (Err (Uncovered (stretches_of s h))) (first_uncovered s v k)
    unfolding first_uncovered
    uncovered-next = i ∙ ap₂ (first_uncovered s) e.0 e.1

    pub uncovered-here : (name : TypeName) → n ≡ 1 → name ≡ stretches_of s h → Err (Uncovered name) ≡ first_uncovered s t m
    uncovered-here name g f = sym (rw (uncovered-next, eq-eqb n 1 g, f))

    pub uncovered-on : (n ≡ 1 → ⊥) → first_uncovered s t m ≡ first_uncovered s v k
    uncovered-on g = rw (uncovered-next, ne_eqb n 1 g)

module _ (p root : Str) (n : ℕ) where
  pub under_low : n < 2 → false ≡ is_under p root n
  unfolding is_under
  under_low h = rw (lt-ltb n 2 h)

  pub under-root : (x : Str) (b : Bool) → 2 ≤ n → x ≡ text_of p (record { start = (n - 2) / 256 % 65536; len = (n - 2) % 256 }) → b ≡ eqs x root → b ≡ is_under p root n
  unfolding is_under stretch_in
  under-root x b h e f = rw (le-ltb n 2 h, ← e) f

none-touched : (p root : Str) (u l : List ℕ) → (u ≡ []) ⊎ (l ≡ []) → None ≡ first_touched p u l root
unfolding first_touched is_under
none-touched p root u l (inl e) = rw e
none-touched p root u l (inr e) = rw e (go u)
  where
    go : (u : List ℕ) → None ≡ first_touched p u [] root
    go [] = refl
    go (h ∷ u) = go u

module _ (p root : Str) (t m u l : List ℕ) (i : first_touched p t m root ≡ first_touched p u l root) where
  pub touched-end : {X Y : Type 0} {P : X → Type 0} {Q : Y → Type 0} → ((x : X) × (length u ≡ 0 × P x)) ⊎ ((y : Y) × (length l ≡ 0 × Q y)) → None ≡ first_touched p t m root
  touched-end e = none-touched p root u l (over u l e) ∙ sym i

  module _ (h n : ℕ) (v k : List ℕ) (e : (u ≡ h ∷ v) × (l ≡ n ∷ k)) (b : Bool) (g : b ≡ is_under p root n) where
    touched-next : first_touched p t m root ≡ cond (is_under p root n) (Some h) (first_touched p v k root)
    unfolding first_touched
    touched-next = i ∙ ap₂ (λ (x y : List ℕ). first_touched p x y root) e.0 e.1

    pub touched-here : b ≡ true → Some h ≡ first_touched p t m root
    touched-here f = sym (rw (touched-next, ← g, f))

    pub touched-on : b ≡ false → first_touched p t m root ≡ first_touched p v k root
    touched-on f = rw (touched-next, ← g, f)

-- what the table says is what the definition does ---------------------------------------------------------------------------

-- the verdict on a type of this name by what covers it
abbrev cover_verdict : Str → Option (Option Str) → D.Verdict
cover_verdict n None = D.pass
cover_verdict n (Some None) = uncovered n
cover_verdict n (Some (Some root)) = D.pass

abbrev covers_under : Str → Option (Option Str) → Bool
covers_under root None = false
covers_under root (Some None) = false
covers_under root (Some (Some r)) = eqs r root

module _ (ts : Types) (was : List TypeLayout) (x : TypeLayout) (xs : List TypeLayout) where
  covered-first : check_all_covered ts (changed (x ∷ xs) was) ≡ (cover_verdict x.name (cover_for ts was x) then check_all_covered ts (changed xs was))
  unfolding check_all_covered changed filter_b each check_covered cover_for cover_in ensure on_found ◌then◌
  covered-first = go (same_as (type_in x.name was) x)
    where
      l : List TypeLayout
      l = changed xs was

      rest : D.Verdict
      rest = each (check_covered ts) l

      asked : (b : Bool) (o : Option Str) → (ensure b (on_found o (uncovered x.name) (λ (root : Str). D.pass)) then rest) ≡ (cover_verdict x.name (cond b None (Some o)) then rest)
      asked true o = refl
      asked false None = refl
      asked false (Some r) = refl

      go : (a : Bool) → each (check_covered ts) (cond (not a) (x ∷ l) l) ≡ (cover_verdict x.name (cond a None (cover_in ts (owning x.name))) then rest)
      go true = refl
      go false = asked (stands_alone ts.families (owning x.name)) (owner_of ts (owning x.name))

  under_first : (root : Str) → find (under ts root) (changed (x ∷ xs) was) ≡ cond (covers_under root (cover_for ts was x)) (Some x) (find (under ts root) (changed xs was))
  unfolding changed filter_b find under is_text cover_for cover_in
  under_first root = go (same_as (type_in x.name was) x)
    where
      l : List TypeLayout
      l = changed xs was

      asked : (b : Bool) (o : Option Str) → cond (not b && is_text o root) (Some x) (find (under ts root) l) ≡ cond (covers_under root (cond b None (Some o))) (Some x) (find (under ts root) l)
      asked true o = refl
      asked false None = refl
      asked false (Some r) = refl

      go : (a : Bool) → find (under ts root) (cond (not a) (x ∷ l) l) ≡ cond (covers_under root (cond a None (cover_in ts (owning x.name)))) (Some x) (find (under ts root) l)
      go true = refl
      go false = asked (stands_alone ts.families (owning x.name)) (owner_of ts (owning x.name))

-- an entry and what it means
module _ (p q : Str) (n : TypeName) (v : Result ⊤ Verdict) (e : ℕ) where
  entry-verdict : meaning p q (cond (eqb e 1) (Err (Uncovered n)) v) ≡ (cover_verdict (name_of p n) (cover_meant p e) then meaning p q v)
  unfolding meaning violation cover_meant uncovered ◌then◌
  entry-verdict = go (eqb e 1) refl
    where
      low : (a b : Bool) → eqb e 1 ≡ false → ltb e 2 ≡ a → eqb e 0 ≡ b
          → meaning p q v ≡ (cover_verdict (name_of p n) (cond a (cond b None (Some None)) (Some (Some (text_of p (stretch_in e))))) then meaning p q v)
      low true true h f g = refl
      low false b h f g = refl
      low true false h f g =
          let a = ltb-true e 2 f in
          let y : e ≡ 1 → ⊥ = eqb-false e 1 h in
          let z : e ≡ 0 → ⊥ = eqb-false e 0 g in
          absurd (omega arith)

      go : (b : Bool) → eqb e 1 ≡ b → meaning p q (cond b (Err (Uncovered n)) v) ≡ (cover_verdict (name_of p n) (cover_meant p e) then meaning p q v)
      go true h = rw (eqb-true e 1 h)
      go false h = low (ltb e 2) (eqb e 0) h refl refl

entry-under : (p root : Str) (e : ℕ) → is_under p root e ≡ covers_under root (cover_meant p e)
unfolding is_under cover_meant
entry-under p root e = go (ltb e 2) (eqb e 0)
  where
    go : (a b : Bool) → cond a false (eqs (text_of p (stretch_in e)) root) ≡ covers_under root (cond a (cond b None (Some None)) (Some (Some (text_of p (stretch_in e)))))
    go true true = refl
    go true false = refl
    go false b = refl

module _ (s p : Str) (w : List Scalar) (was : List TypeLayout) where
  abbrev R : Rec
  R = rec s p w

  abbrev Entries : List ℕ → List ℕ → Type 0
  Entries t m = (i : ℕ) → i < length t → cover_meant p (get_or m i 0) ≡ cover_for (types_at s p) was (layout_of R (get_or t i 0))

  entries-later : (h : ℕ) (t m : List ℕ) → Entries (h ∷ t) m → Entries t (drop 1 m)
  entries-later h t m e i l = ap (cover_meant p) (get_or-drop 1 m i 0 ∙ ap (λ (n : ℕ). get_or m n 0) (omega arith)) ∙ e (suc i) (omega arith)

  covered-are : (q : Str) (t m : List ℕ) → Entries t m → meaning p q (first_uncovered s t m) ≡ check_all_covered (types_at s p) (changed (map (layout_of R) t) was)
  unfolding first_uncovered meaning check_all_covered changed filter_b each layout_of
  covered-are q [] m e = refl
  covered-are q (h ∷ t) m e =
      entry-verdict p q (stretches_of s h) (first_uncovered s t (drop 1 m)) (get_or m 0 0)
      ∙ ap (λ (n : Str). cover_verdict n (cover_meant p (get_or m 0 0)) then meaning p q (first_uncovered s t (drop 1 m))) (stretches-read s p h)
      ∙ ap (λ (c : Option (Option Str)). cover_verdict (type_name s p h) c then meaning p q (first_uncovered s t (drop 1 m))) (e 0 (omega arith))
      ∙ ap (λ (v : D.Verdict). cover_verdict (type_name s p h) (cover_for (types_at s p) was (layout_of R h)) then v) (covered-are q t (drop 1 m) (entries-later h t m e))
      ∙ sym (covered-first (types_at s p) was (layout_of R h) (map (layout_of R) t))

  touched-are : (root : Str) (t m : List ℕ) → Entries t m
      → touched_name s p (first_touched p t m root) ≡ map_option (λ (x : TypeLayout). x.name) (find (under (types_at s p) root) (changed (map (layout_of R) t) was))
  unfolding first_touched changed filter_b find map_option layout_of
  touched-are root [] m e = refl
  touched-are root (h ∷ t) m e =
      go (is_under p root (get_or m 0 0)) (touched-are root t (drop 1 m) (entries-later h t m e))
      ∙ ap (λ (b : Bool). map_option (λ (x : TypeLayout). x.name) (cond b (Some (layout_of R h)) rest)) (entry-under p root (get_or m 0 0) ∙ ap (covers_under root) (e 0 (omega arith)))
      ∙ sym (ap (map_option (λ (x : TypeLayout). x.name)) (under_first (types_at s p) was (layout_of R h) (map (layout_of R) t) root))
    where
      rest : Option TypeLayout
      rest = find (under (types_at s p) root) (changed (map (layout_of R) t) was)

      go : (b : Bool) → touched_name s p (first_touched p t (drop 1 m) root) ≡ map_option (λ (x : TypeLayout). x.name) rest
          → touched_name s p (cond b (Some h) (first_touched p t (drop 1 m) root)) ≡ map_option (λ (x : TypeLayout). x.name) (cond b (Some (layout_of R h)) rest)
      go true k = refl
      go false k = k

-- the table is filled -----------------------------------------------------------------------------------------------------

-- below an index the entries are filled, and the last that was found is known
pub record Entering (s p : Str) (t m₀ m : List ℕ) (i : ℕ) (last : Option (ℕ × ℕ)) : Type 0 where
  pub none : (j : ℕ) → j < i → get_or m₀ j 0 ≡ 0 → get_or m j 0 ≡ 0
  pub found : (j : ℕ) → j < i → (get_or m₀ j 0 ≡ 0 → ⊥) → cover_meant p (get_or m j 0) ≡ cover_in (types_at s p) (owning (type_name s p (get_or t j 0)))
  pub above : (j : ℕ) → i ≤ j → get_or m j 0 ≡ get_or m₀ j 0
  pub known : Knows s p last
  pub room : length t ≤ length m
  pub long : length m ≡ length m₀

pub entering-start : (s p : Str) (t m : List ℕ) → length t ≤ length m → Entering s p t m m 0 None
entering-start s p t m l = record { none = λ j h. absurd (omega arith); found = λ j h. absurd (omega arith); above = λ j h. refl; known = tt; room = l; long = refl }

module _ (s p : Str) (t m₀ m : List ℕ) (i : ℕ) (last : Option (ℕ × ℕ)) (c : Entering s p t m₀ m i last) where
  pub entering-end : length t ≤ i → Entered s p t m₀ m
  entering-end l = record { none = λ j h. c.none j (omega arith); found = λ j h. c.found j (omega arith) }

  -- an entry that stays
  pub entering-over : get_or m i 0 ≡ 0 → Entering s p t m₀ m (i + 1) last
  entering-over z = record {
    none = λ j k e. None j k e (eqb j i) refl;
    found = λ j k e. found j k e (eqb j i) refl;
    above = λ j k. c.above j (omega arith);
    known = c.known;
    room = c.room;
    long = c.long;
  }
    where
      None : (j : ℕ) → j < i + 1 → get_or m₀ j 0 ≡ 0 → (v : Bool) → eqb j i ≡ v → get_or m j 0 ≡ 0
      None j k e true d = ap (λ (a : ℕ). get_or m a 0) (eqb-true j i d) ∙ z
      None j k e false d = c.none j (let a : j ≡ i → ⊥ = eqb-false j i d in omega arith) e

      found : (j : ℕ) → j < i + 1 → (get_or m₀ j 0 ≡ 0 → ⊥) → (v : Bool) → eqb j i ≡ v → cover_meant p (get_or m j 0) ≡ cover_in (types_at s p) (owning (type_name s p (get_or t j 0)))
      found j k e true d = absurd (e (ap (λ (a : ℕ). get_or m₀ a 0) (eqb-true j i d) ∙ sym (c.above i (omega arith)) ∙ z))
      found j k e false d = c.found j (let a : j ≡ i → ⊥ = eqb-false j i d in omega arith) e

  -- one that is put
  pub entering-put : (h n : ℕ) (roots : Versioned) (marks index leads : List ℕ) → i < length t → (get_or m i 0 ≡ 0 → ⊥) → h ≡ get_or t i 0 → Owners s p roots marks index leads
      → (Owners s p roots marks index leads → Knows s p last → cover_meant p n ≡ cover_in (types_at s p) (owning (type_name s p h))) → Entering s p t m₀ (set m i n) (i + 1) (Some (h, n))
  entering-put h n roots marks index leads l z e o f = record {
    none = λ j k g. None j k g (eqb j i) refl;
    found = λ j k g. found j k g (eqb j i) refl;
    above = λ j k. get_or-set_other m i j n 0 (λ d. omega arith) ∙ c.above j (omega arith);
    known = f o c.known;
    room = let a = c.room in rw length-set (omega arith);
    long = rw length-set c.long;
  }
    where
      None : (j : ℕ) → j < i + 1 → get_or m₀ j 0 ≡ 0 → (v : Bool) → eqb j i ≡ v → get_or (set m i n) j 0 ≡ 0
      None j k g true d = absurd (z (c.above i (omega arith) ∙ ap (λ (a : ℕ). get_or m₀ a 0) (sym (eqb-true j i d)) ∙ g))
      None j k g false d = let a : j ≡ i → ⊥ = eqb-false j i d in get_or-set_other m i j n 0 a ∙ c.none j (omega arith) g

      found : (j : ℕ) → j < i + 1 → (get_or m₀ j 0 ≡ 0 → ⊥) → (v : Bool) → eqb j i ≡ v → cover_meant p (get_or (set m i n) j 0) ≡ cover_in (types_at s p) (owning (type_name s p (get_or t j 0)))
      found j k g true d =
          let a = c.room in
          rw (eqb-true j i d, get_or-set_same m i n 0 (omega arith), ← e) (f o c.known)
      found j k g false d =
          let a : j ≡ i → ⊥ = eqb-false j i d in
          rw (get_or-set_other m i j n 0 a) (c.found j (omega arith) g)

-- what an owner is asked by, without leads and with them
module _ (s p : Str) (roots : Versioned) (m x : List ℕ) (k : Known s p m x) (i : InSlots s p roots) where
  pub owners-few : Owners s p roots m x []
  owners-few = record { known = k; slots = i; leads = led-none s p m [] (omega arith) }

  pub owners-many : (t : List ℕ) → length m ≤ 32768 → LeadsFilled s p m x t → Owners s p roots m x t
  owners-many t h f = record { known = k; slots = i; leads = f.led k.index h }

-- the changes and the entries are the table
pub cover-filled : (s p b q : Str) (w : List Scalar) (t m n : List ℕ) → Changes (rec s p w) (rec b q w) t m → Entered s p t m n → CoverTable (rec s p w) (rec b q w) t n
unfolding cover_meant cover_for layout_of
cover-filled s p b q w t m n c e = record { entries = λ i l. go i l (eqb (get_or m i 0) 0) refl }
  where
    go : (i : ℕ) → i < length t → (v : Bool) → eqb (get_or m i 0) 0 ≡ v
        → cover_meant p (get_or n i 0) ≡ cover_for (types_at s p) (types (schema_of (rec b q w))) (layout_of (rec s p w) (get_or t i 0))
    go i l true h = rw (e.none i l (eqb-true (get_or m i 0) 0 h), ← c.same i l, h)
    go i l false h = rw (← c.same i l, h) (e.found i l (eqb-false (get_or m i 0) 0 h))

-- the pass asks the table ----------------------------------------------------------------------------------------------------

module _ (s p b q : Str) (w : List Scalar) (t m : List ℕ) (o : TypesTable s p t) (c : CoverTable (rec s p w) (rec b q w) t m) where
  pub covered-table : meaning p q (first_uncovered s t m) ≡ check_all_covered (types_at s p) (changed_types (rec s p w) (rec b q w))
  covered-table =
      covered-are s p w (types (schema_of (rec b q w))) q t m c.entries
      ∙ ap (λ (l : List TypeLayout). check_all_covered (types_at s p) (changed l (types (schema_of (rec b q w))))) (o.layouts w)

  pub touched-table : touched_by s p t m ≡ first_under (types_at s p) (changed_types (rec s p w) (rec b q w))
  unfolding touched_by first_under
  touched-table =
      (λ i root. touched-are s p w (types (schema_of (rec b q w))) root t m c.entries i)
      ∙ ap (λ (l : List TypeLayout). first_under (types_at s p) (changed l (types (schema_of (rec b q w))))) (o.layouts w)
