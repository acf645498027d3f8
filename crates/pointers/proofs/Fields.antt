-- The field commands of a readable record are the fields of its structures, families and variants: each gives one, by the rules of place, and each
-- of them comes from one. So what holds of all these fields is what holds at the places of the commands. Assumes nothing.
use Rattle.std.specs.Prelude.{Option, Some, None, Ok, Err}
use mathlib.Core.Path.{◌≡◌, refl, sym, ◌∙◌, ap, subst}
use mathlib.Core.List.Memᴰ
use mathlib.Core.List.{List, [], ◌∷◌, Memᴰ}
use mathlib.Core.Bool.{Bool, true, false, cond, false≢true}
use mathlib.Core.Logic.{◌⊎◌, inl, inr}
use Prim.Native.Nat.{ℕ, zero, suc, ◌+◌}
use native.Mathlib.Omega.{arith}
use borrow.Author.Tests.{eqb-true}
use lib.Dec.{eqb}
use lib.ListN.{length, get_or, drop}
use Rattle.record.specs.Base.{Str, first}
use Rattle.record.specs.Schema.{Schema, Key, Field, Struct, Family, Variant}
use Rattle.record.specs.Seek.{places_of}
use Rattle.record.specs.Commands.{widths, struct_at, family_at, variant_at, field_at, command_of, commands_at, start}
use Rattle.record.specs.Lists.{struct_of, family_of, variant_of, field_of, listed, anything, a_key, a_field, keys, fields, structs, variants, families}
use Rattle.record.specs.Judge.{is_open, in_family, may_stand, parent_after, advanced, ready, judged_at}
use Rattle.record.specs.Owner.{Types, types_in}
use Rattle.record.specs.Reading.{Rec, read, reading, schema_from, schema_of, ok, continued, parse, parsed}
use Rattle.record.specs.declared.command as D
use Rattle.record.specs.declared.command.Command.{Command}
use Rattle.record.specs.declared.command.Cursor.{Cursor}
use Rattle.record.specs.declared.command.Parent.{Parent}
use Rattle.record.specs.declared.command.Parent.TheVariants.{NoParent, InStruct, InFamily}
use Rattle.record.specs.declared.refusal.Refusal.TheVariants as R
use Rattle.record.specs.declared.refusal.Side.{Side}
use Rattle.record.specs.declared.refusal.Side.TheVariants.{Current}
use Rattle.record.proofs.Basics.{same-parts}
use Rattle.record.proofs.Accepted.{passed, onto-ok, accepting}
use Rattle.pointers.specs.Pointers.{field_here, field_places}
use Rattle.pointers.specs.Rule.{FieldIn, of-struct, of-family, of-variant}
use Rattle.record.specs.Judge.{Judged}

-- the elements of a list and the commands of its number -----------------------------------------------------------------------------------

-- an element comes from a command and the commands after it
record Comes {A : Type 0} (s : Str) (b : ℕ) (g : ℕ → List ℕ → A) (ps : List ℕ) (x : A) : Type 0 where
  at : ℕ
  rest : List ℕ
  is-in : Memᴰ at ps
  later : (q : ℕ) → Memᴰ q rest → Memᴰ q ps
  number : eqb (get_or s at 0) b ≡ true
  is_made : x ≡ g at rest

module _ {A : Type 0} (s : Str) (over : ℕ → Bool) (b : ℕ) (g : ℕ → List ℕ → A) where
  comes : (ps : List ℕ) {x : A} → Memᴰ x (listed s over b g ps) → Comes s b g ps x
  unfolding listed
  comes [] m = absurd (Memᴰ.not-nil m)
  comes (at ∷ ps) {x} m = go (eqb (get_or s at 0) b) refl (over (get_or s at 0)) (λ n. comes ps n) m
    where
      on : Comes s b g ps x → Comes s b g (at ∷ ps) x
      on w = record {
        at = w.at;
        rest = w.rest;
        is-in = Memᴰ.tail w.is-in;
        later = λ q n. Memᴰ.tail (w.later q n);
        number = w.number;
        is_made = w.is_made;
      }

      go : (t : Bool) → eqb (get_or s at 0) b ≡ t → (o : Bool) → (Memᴰ x (listed s over b g ps) → Comes s b g ps x)
          → Memᴰ x (cond t (g at ps ∷ listed s over b g ps) (cond o (listed s over b g ps) [])) → Comes s b g (at ∷ ps) x
      go true e o r (Memᴰ.head q) =
          record { at = at; rest = ps; is-in = Memᴰ.head refl; later = λ y n. Memᴰ.tail n; number = e; is_made = q }
      go true e o r (Memᴰ.tail n) = on (r n)
      go false e true r n = on (r n)
      go false e false r n = absurd (Memᴰ.not-nil n)

  -- a command of the number gives an element ..
  given : (at : ℕ) (ps : List ℕ) → eqb (get_or s at 0) b ≡ true → Memᴰ (g at ps) (listed s over b g (at ∷ ps))
  unfolding listed
  given at ps e = rw e (Memᴰ.head refl)

  -- .. and keeps the others, as does a command that may stand between
  kept : (at : ℕ) (ps : List ℕ) {x : A} → eqb (get_or s at 0) b ≡ true → Memᴰ x (listed s over b g ps) → Memᴰ x (listed s over b g (at ∷ ps))
  unfolding listed
  kept at ps e m = rw e (Memᴰ.tail m)

  passed_over : (at : ℕ) (ps : List ℕ) {x : A} → over (get_or s at 0) ≡ true → Memᴰ x (listed s over b g ps)
      → Memᴰ x (listed s over b g (at ∷ ps))
  unfolding listed
  passed_over at ps {x} o m = go (eqb (get_or s at 0) b)
    where
      go : (t : Bool) → Memᴰ x (cond t (g at ps ∷ listed s over b g ps) (cond (over (get_or s at 0)) (listed s over b g ps) []))
      go true = Memᴰ.tail m
      go false = rw o m

-- a command of a number is among the places of that number
in-places : (s : Str) (b : ℕ) (ps : List ℕ) {at : ℕ} → Memᴰ at ps → eqb (get_or s at 0) b ≡ true
    → Memᴰ at (listed s anything b (λ x rest. x) ps)
in-places s b [] m e = absurd (Memᴰ.not-nil m)
in-places s b (q ∷ ps) {at} (Memᴰ.head i) e =
    subst (λ (y : ℕ). Memᴰ y (listed s anything b (λ x rest. x) (q ∷ ps))) (sym i)
    (given s anything b (λ x rest. x) q ps (ap (λ (y : ℕ). eqb (get_or s y 0) b) (sym i) ∙ e))
in-places s b (q ∷ ps) {at} (Memᴰ.tail n) e = passed_over s anything b (λ x rest. x) q ps refl (in-places s b ps n e)

-- every field of the types is given by a field command -------------------------------------------------------------------------------------

record Stands (s p : Str) (ps : List ℕ) (f : Field) : Type 0 where
  at : ℕ
  is-in : Memᴰ at ps
  number : eqb (get_or s at 0) 11 ≡ true
  key : Option Key
  is_field : f ≡ field_of p (field_at (drop at s)) key

module _ (s p : Str) where
  -- the types that some commands declare, and the lists of their parts
  abbrev types_from : List ℕ → Types
  types_from ps = record { structs = structs s p ps; families = families s p ps }

  abbrev a_field-of : ℕ → List ℕ → Field
  a_field-of at rest = field_of p (field_at (drop at s)) (first (keys s p rest))

  abbrev a_struct-of : ℕ → List ℕ → Struct
  a_struct-of at rest = struct_of p (struct_at (drop at s)) (fields s p rest)

  abbrev a_variant-of : ℕ → List ℕ → Variant
  a_variant-of at rest = variant_of p (variant_at (drop at s)) (fields s p rest)

  abbrev a_family-of : ℕ → List ℕ → Family
  a_family-of at rest = family_of p (family_at (drop at s)) (fields s p rest) (variants s p rest)

  field-stands : (ps qs : List ℕ) → ((q : ℕ) → Memᴰ q qs → Memᴰ q ps) → {f : Field} → Memᴰ f (fields s p qs) → Stands s p ps f
  unfolding fields
  field-stands ps qs inc m =
      let w = comes s a_key 11 a_field-of qs m in
      record { at = w.at; is-in = inc w.at w.is-in; number = w.number; key = first (keys s p w.rest); is_field = w.is_made }

  all-stand : (ps : List ℕ) {f : Field} → FieldIn (types_from ps) f → Stands s p ps f
  unfolding structs families variants
  all-stand ps {f} (of-struct t m n) =
      let w = comes s anything 8 a_struct-of ps m in
      field-stands ps w.rest w.later (subst (λ (u : Struct). Memᴰ f u.fields) w.is_made n)
  all-stand ps {f} (of-family t m n) =
      let w = comes s anything 9 a_family-of ps m in
      field-stands ps w.rest w.later (subst (λ (u : Family). Memᴰ f u.common) w.is_made n)
  all-stand ps {f} (of-variant t m v i n) =
      let w = comes s anything 9 a_family-of ps m in
      let x = comes s a_field 10 a_variant-of w.rest (subst (λ (u : Family). Memᴰ v u.variants) w.is_made i) in
      field-stands ps x.rest (λ q l. w.later q (x.later q l)) (subst (λ (u : Variant). Memᴰ f u.fields) x.is_made n)

-- every field command of a readable record gives a field of a type -------------------------------------------------------------------------

module _ (s p : Str) where
  -- a field of the type that is open before some commands
  abbrev Inside : Parent → List ℕ → Field → Type 0
  Inside NoParent ps f = ⊥
  Inside InStruct ps f = Memᴰ f (fields s p ps)
  Inside InFamily ps f = Memᴰ f (fields s p ps) ⊎ ((v : Variant) × Memᴰ v (variants s p ps) × Memᴰ f v.fields)

  -- or of one that these commands declare
  abbrev Within : Parent → List ℕ → Field → Type 0
  Within q ps f = Inside q ps f ⊎ FieldIn (types_from s p ps) f

  module _ (at : ℕ) (ps : List ℕ) (f : Field) where
    declared : FieldIn (types_from s p ps) f → FieldIn (types_from s p (at ∷ ps)) f
    unfolding structs families
    declared (of-struct t m n) = of-struct t (passed_over s anything 8 (a_struct-of s p) at ps refl m) n
    declared (of-family t m n) = of-family t (passed_over s anything 9 (a_family-of s p) at ps refl m) n
    declared (of-variant t m v i n) = of-variant t (passed_over s anything 9 (a_family-of s p) at ps refl m) v i n

    -- what is open after a command was open before it, or is opened by it
    at-struct : eqb (get_or s at 0) 8 ≡ true → Inside InStruct ps f → FieldIn (types_from s p (at ∷ ps)) f
    unfolding structs
    at-struct e m = of-struct (a_struct-of s p at ps) (given s anything 8 (a_struct-of s p) at ps e) m

    at-family : eqb (get_or s at 0) 9 ≡ true → Inside InFamily ps f → FieldIn (types_from s p (at ∷ ps)) f
    unfolding families
    at-family e (inl m) = of-family (a_family-of s p at ps) (given s anything 9 (a_family-of s p) at ps e) m
    at-family e (inr w) = of-variant (a_family-of s p at ps) (given s anything 9 (a_family-of s p) at ps e) w.0 w.1 w.2

    at_variant : (q : Parent) → eqb (get_or s at 0) 10 ≡ true → in_family q ≡ true → Inside q ps f → Inside q (at ∷ ps) f
    unfolding variants
    at_variant NoParent e o i = absurd i
    at_variant InStruct e o i = absurd (false≢true o)
    at_variant InFamily e o (inl m) = inr (a_variant-of s p at ps, given s a_field 10 (a_variant-of s p) at ps e, m)
    at_variant InFamily e o (inr w) = inr (w.0, kept s a_field 10 (a_variant-of s p) at ps e w.1, w.2)

    at_field : (q : Parent) → get_or s at 0 ≡ 11 → Inside q ps f → Inside q (at ∷ ps) f
    unfolding fields variants
    at_field NoParent e i = absurd i
    at_field InStruct e i = kept s a_key 11 (a_field-of s p) at ps (ap (λ (n : ℕ). eqb n 11) e) i
    at_field InFamily e (inl i) = inl (kept s a_key 11 (a_field-of s p) at ps (ap (λ (n : ℕ). eqb n 11) e) i)
    at_field InFamily e (inr w) = inr (w.0, passed_over s a_field 10 (a_variant-of s p) at ps (ap a_field e) w.1, w.2)

    at_key : (q : Parent) → get_or s at 0 ≡ 12 → Inside q ps f → Inside q (at ∷ ps) f
    unfolding fields variants
    at_key NoParent e i = absurd i
    at_key InStruct e i = passed_over s a_key 11 (a_field-of s p) at ps (ap a_key e) i
    at_key InFamily e (inl i) = inl (passed_over s a_key 11 (a_field-of s p) at ps (ap a_key e) i)
    at_key InFamily e (inr w) = inr (w.0, passed_over s a_field 10 (a_variant-of s p) at ps (ap a_field e) w.1, w.2)

    over : (q : Parent) → (eqb (get_or s at 0) 10 ≡ true → in_family q ≡ true) → Within (parent_after q (get_or s at 0)) ps f → Within q (at ∷ ps) f
    unfolding parent_after
    over q o (inr m) = inr (declared m)
    over q o (inl m) =
        go (eqb (get_or s at 0) 8) (eqb (get_or s at 0) 9) (eqb (get_or s at 0) 10) (eqb (get_or s at 0) 11) (eqb (get_or s at 0) 12) refl refl refl refl refl m
      where
        go : (b8 b9 b10 b11 b12 : Bool) → eqb (get_or s at 0) 8 ≡ b8 → eqb (get_or s at 0) 9 ≡ b9 → eqb (get_or s at 0) 10 ≡ b10
            → eqb (get_or s at 0) 11 ≡ b11 → eqb (get_or s at 0) 12 ≡ b12
            → Inside (cond b8 InStruct (cond b9 InFamily (cond b10 q (cond b11 q (cond b12 q NoParent))))) ps f → Within q (at ∷ ps) f
        go true b9 b10 b11 b12 e8 e9 e10 e11 e12 i = inr (at-struct e8 i)
        go false true b10 b11 b12 e8 e9 e10 e11 e12 i = inr (at-family e9 i)
        go false false true b11 b12 e8 e9 e10 e11 e12 i = inl (at_variant q e10 (o e10) i)
        go false false false true b12 e8 e9 e10 e11 e12 i = inl (at_field q (eqb-true _ _ e11) i)
        go false false false false true e8 e9 e10 e11 e12 i = inl (at_key q (eqb-true _ _ e12) i)
        go false false false false false e8 e9 e10 e11 e12 i = absurd i

  -- the field command at a place gives a field of the type that is open, or of one still to come
  record Found (q : Parent) (ps : List ℕ) (at : ℕ) : Type 0 where
    key : Option Key
    within : Within q ps (field_of p (field_at (drop at s)) key)

  here : (q : Parent) (at : ℕ) (ps : List ℕ) → eqb (get_or s at 0) 11 ≡ true → is_open q ≡ true → Found q (at ∷ ps) at
  unfolding fields
  here NoParent at ps e o = absurd (false≢true o)
  here InStruct at ps e o = record { key = first (keys s p ps); within = inl (given s a_key 11 (a_field-of s p) at ps e) }
  here InFamily at ps e o = record { key = first (keys s p ps); within = inl (inl (given s a_key 11 (a_field-of s p) at ps e)) }

-- the rules of place, for a field and for a variant
stands-field : (c : Cursor) (b : ℕ) → eqb b 11 ≡ true → may_stand c b ≡ true → is_open c.parent ≡ true
unfolding may_stand
stands-field c b e h = let n = eqb-true b 11 e in rw n at h

stands_variant : (c : Cursor) (b : ℕ) → eqb b 10 ≡ true → may_stand c b ≡ true → in_family c.parent ≡ true
unfolding may_stand
stands_variant c b e h = let n = eqb-true b 10 e in rw n at h

parent-after : (s : Str) (c : Cursor) (b w : ℕ) (d : Command) (k : Cursor) → ready s c b w ≡ Ok (Some (d, k)) → parent_after c.parent b ≡ k.parent
unfolding ready
parent-after s c b w d k e = go (eqb b 15) (eqb (c.at + w) (length s)) e
  where
    go : (t u : Bool) → cond {A = Judged} t (cond u (Ok None) (Err (R.Misplaced, c.at + w))) (Ok (Some (command_of b (drop c.at s), advanced c b w))) ≡ Ok (Some (d, k))
        → parent_after c.parent b ≡ k.parent
    go true true h = absurd (let z : ◌≡◌ {A = ℕ} 0 1 = cc in omega arith)
    go true false h = absurd (let z : ◌≡◌ {A = ℕ} 0 1 = cc in omega arith)
    go false u h =
        let z : ◌≡◌ {A = Option (Command × Cursor)} (Some (command_of b (drop c.at s), advanced c b w)) (Some (d, k)) = cc in
        ap (λ (x : Cursor). x.parent) (same-parts z).1

module _ (side : Side) (s p : Str) where
  found : (k : ℕ) (c : Cursor) (ps : List ℕ) → parse k side s p c ≡ ok ps → (at : ℕ) → Memᴰ at ps → eqb (get_or s at 0) 11 ≡ true
      → Found s p c.parent ps at
  unfolding parse continued
  found zero c ps h at m e = absurd (let z : ◌≡◌ {A = ℕ} 0 1 = cc in omega arith)
  found (suc k) c ps h at m e = go (λ d qs g n. found k d qs g at n e) (judged_at side s p c) refl h
    where
      go : ((d : Cursor) (qs : List ℕ) → parse k side s p d ≡ ok qs → Memᴰ at qs → Found s p d.parent qs at) → (j : Judged)
          → judged_at side s p c ≡ j → continued c.at (parse k side s p) j ≡ ok ps → Found s p c.parent ps at
      go ih (Ok None) q g = absurd (Memᴰ.not-nil (subst (λ (l : List ℕ). Memᴰ at l) (sym (let z : [] ≡ ps = cc in z)) m))
      go ih (Err (x, y)) q g = absurd (let z : ◌≡◌ {A = ℕ} 0 1 = cc in omega arith)
      go ih (Ok (Some (d, j))) q g =
          let t = onto-ok c.at (parse k side s p j) ps g in
          let w = passed side s p c (Ok (Some (d, j))) tt q in
          subst (λ (l : List ℕ). Found s p c.parent l at) t.whole
          (each t.more w.stands (parent-after s c (get_or s c.at 0) (1 + widths w.row) d j w.is-ready)
          (λ n. ih j t.more t.parsed-so n) (subst (λ (l : List ℕ). Memᴰ at l) (sym t.whole) m))
        where
          each : (qs : List ℕ) → may_stand c (get_or s c.at 0) ≡ true → parent_after c.parent (get_or s c.at 0) ≡ j.parent
              → (Memᴰ at qs → Found s p j.parent qs at) → Memᴰ at (c.at ∷ qs) → Found s p c.parent (c.at ∷ qs) at
          each qs o b r (Memᴰ.head i) =
              let f : eqb (get_or s c.at 0) 11 ≡ true = ap (λ (y : ℕ). eqb (get_or s y 0) 11) (sym i) ∙ e in
              subst (λ (y : ℕ). Found s p c.parent (c.at ∷ qs) y) (sym i)
              (here s p c.parent c.at qs f (stands-field c (get_or s c.at 0) f o))
          each qs o b r (Memᴰ.tail n) =
              let v = r n in
              record {
                key = v.key;
                within = over s p c.at qs _ c.parent (λ f. stands_variant c (get_or s c.at 0) f o)
                    (subst (λ (x : Parent). Within s p x qs (field_of p (field_at (drop at s)) v.key)) (sym b) v.within);
              }

-- what holds of all fields, by the schema and by places ------------------------------------------------------------------------------------

-- of a statement that does not look at a field's plugin key
module _ (r : Rec) (c : Schema) (e : reading Current r ≡ read c) (P : Field → Type 0)
    (keyless : (d : D.Field.Field) (x y : Option Key) → P (field_of r.pool d x) → P (field_of r.pool d y)) where
  abbrev places : List ℕ
  places = commands_at r.stream 0

  -- what holds at the places of all field commands holds of every field of the types
  pub of_fields : ((at : ℕ) → Memᴰ at (field_places r.stream) → P (field_here r.stream r.pool at))
      → (f : Field) → FieldIn (types_in c) f → P f
  unfolding places_of schema_of schema_from
  of_fields a f m =
      let w = all-stand r.stream r.pool places (subst (λ (x : Schema). FieldIn (types_in x) f) (sym (accepting Current r c e).is-schema) m) in
      let there = a w.at (in-places r.stream 11 places w.is-in w.number) in
      subst P (sym w.is_field) (keyless (field_at (drop w.at r.stream)) None w.key there)

  -- and the other way round
  pub at_places : ((f : Field) → FieldIn (types_in c) f → P f)
      → (at : ℕ) → Memᴰ at (field_places r.stream) → P (field_here r.stream r.pool at)
  unfolding places_of parsed schema_of schema_from
  at_places a at m =
      let w = comes r.stream anything 11 (λ x rest. x) places m in
      let g = accepting Current r c e in
      let f = found Current r.stream r.pool (length r.stream + 1) start places g.parsed-all w.at w.is-in w.number in
      subst (λ (y : ℕ). P (field_here r.stream r.pool y)) (sym w.is_made)
      (keyless (field_at (drop w.at r.stream)) f.key None
      (a _ (subst (λ (x : Schema). FieldIn (types_in x) (field_of r.pool (field_at (drop w.at r.stream)) f.key)) g.is-schema
      (declared-by _ f.within))))
    where
      declared-by : (x : Field) → Within r.stream r.pool NoParent places x → FieldIn (types_in (schema_of r)) x
      declared-by x (inl i) = absurd i
      declared-by x (inr i) = i
