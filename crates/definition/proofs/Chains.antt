-- Steps one after the other: what the first schema holds the last one holds. Assumes nothing.
use Rattle.std.specs.Prelude.{Some, None}
use mathlib.Core.Path.{◌≡◌, refl, sym, ◌∙◌, ap, subst}
use mathlib.Core.List.Memᴰ
use mathlib.Core.List.{List, [], ◌∷◌, Memᴰ}
use mathlib.Core.Bool.{Bool, true, false, cond}
use Prim.Native.Nat.{ℕ, ◌≤◌}
use native.Mathlib.Omega.{arith}
use Rattle.record.specs.Base.{Str, find}
use Rattle.record.specs.Schema.{Schema, integer, Const}
use Rattle.record.specs.Steps.{constant_in}
use Rattle.record.specs.Shapes.{FieldLayout}
use Rattle.record.specs.Owner.{types_in}
use Rattle.record.proofs.Basics.{both}
use Rattle.layout.specs.Layout.{TypeLayout, types}
use Rattle.layout.proofs.Origin.{From, of-struct, of-family, of-variant, from-types}
use Rattle.definition.specs.Verdicts.{Verdict, pass, described}
use Rattle.definition.specs.Pass.{required, empty}
use Rattle.definition.specs.Unreleased.{check_nothing_released}
use Rattle.definition.specs.Enums.{check_enums}
use Rattle.definition.specs.Bitfields.{check_bitfields}
use Rattle.definition.specs.Fields.{check_fields, changed}
use Rattle.definition.specs.Standalone.{check_standalone}
use Rattle.definition.specs.Generations.{check_generations}
use Rattle.definition.specs.Compare.{pass_list, first_of, compare}
use Rattle.definition.specs.Chain.{Kinds, Names, Holds, Laid, Kept, Governed}
use Rattle.definition.specs.Offers.{last_of}
use Rattle.definition.proofs.Passes.{then-pass, ensured, empty-nil}
use Rattle.definition.proofs.Values.{keep-value, keep-member}
use Rattle.definition.proofs.KeptFields.{keep-field}
use Rattle.definition.proofs.Unmoved.{rise, unmoved}

-- one step ----------------------------------------------------------------------------------------------------------------------------

-- the passes that demand 3 rests on
pub record Passed (cur rel : Schema) : Type 0 where
  pub enums : check_enums cur.enums rel.enums ≡ pass
  pub bitfields : check_bitfields cur.bitfields rel.bitfields ≡ pass
  pub fields : check_fields (types cur) (types rel) ≡ pass
  pub standalone : check_standalone cur.families rel.families (types cur) (types rel) ≡ pass
  pub generations : check_generations (required cur.release) rel.release cur.versions (types_in cur) cur.constants rel.constants (changed (types cur) (types rel)) ≡ pass

-- a copy flagged unreleased describes nothing
pub record Bare (rel : Schema) : Type 0 where
  pub structs : rel.structs ≡ []
  pub constants : rel.constants ≡ []
  pub enums : rel.enums ≡ []
  pub bitfields : rel.bitfields ≡ []
  pub families : rel.families ≡ []

-- what an acceptance says
pub data Step (cur rel : Schema) : Type 0 where
  compared : Passed cur rel → Step cur rel
  bare : Bare rel → Step cur rel

first-pass : (vs : List Verdict) → first_of vs ≡ pass → (v : Verdict) → Memᴰ v vs → v ≡ pass
unfolding first_of
first-pass [] h v m = absurd (Memᴰ.not-nil m)
first-pass (x ∷ xs) h v (Memᴰ.head e) = e ∙ (then-pass x (first_of xs) h).0
first-pass (x ∷ xs) h v (Memᴰ.tail m) = first-pass xs (then-pass x (first_of xs) h).1 v m

passed : (cur rel : Schema) → first_of (pass_list cur rel) ≡ pass → Passed cur rel
unfolding pass_list
passed cur rel h =
    let at = first-pass (pass_list cur rel) h in
    record {
      enums = at _ (Memᴰ.tail (Memᴰ.tail (Memᴰ.tail (Memᴰ.head refl))));
      bitfields = at _ (Memᴰ.tail (Memᴰ.tail (Memᴰ.tail (Memᴰ.tail (Memᴰ.head refl)))));
      fields = at _ (Memᴰ.tail (Memᴰ.tail (Memᴰ.tail (Memᴰ.tail (Memᴰ.tail (Memᴰ.tail (Memᴰ.head refl)))))));
      standalone = at _ (Memᴰ.tail (Memᴰ.tail (Memᴰ.tail (Memᴰ.tail (Memᴰ.tail (Memᴰ.tail (Memᴰ.tail (Memᴰ.head refl))))))));
      generations = at _ (Memᴰ.tail (Memᴰ.tail (Memᴰ.tail (Memᴰ.tail (Memᴰ.tail (Memᴰ.tail (Memᴰ.tail (Memᴰ.tail (Memᴰ.head refl)))))))));
    }

bared : (rel : Schema) → check_nothing_released rel.structs rel.constants rel.enums rel.bitfields rel.aliases rel.families ≡ pass → Bare rel
unfolding check_nothing_released described
bared rel h =
    let f = both _ (empty rel.families) (ensured _ _ _ h) in
    let a = both _ (empty rel.aliases) f.0 in
    let b = both _ (empty rel.bitfields) a.0 in
    let e = both _ (empty rel.enums) b.0 in
    let c = both _ (empty rel.constants) e.0 in
    record {
      structs = empty-nil _ c.0;
      constants = empty-nil _ c.1;
      enums = empty-nil _ e.1;
      bitfields = empty-nil _ b.1;
      families = empty-nil _ f.1;
    }

pub step_of : (cur rel : Schema) → compare cur rel ≡ pass → Step cur rel
unfolding compare
step_of cur rel h = go rel.unreleased h
  where
    go : (b : Bool) → cond b (check_nothing_released rel.structs rel.constants rel.enums rel.bitfields rel.aliases rel.families) (first_of (pass_list cur rel)) ≡ pass
        → Step cur rel
    go true k = bare (bared rel k)
    go false k = compared (passed cur rel k)

-- nothing is lost ---------------------------------------------------------------------------------------------------------------------

nothing-in : {A : Type 0} (l : List A) {x : A} → l ≡ [] → Memᴰ x l → ⊥
nothing-in {A} l {x} e m = Memᴰ.not-nil (subst (λ (y : List A). Memᴰ x y) e m)

no-types : (s : Schema) → Bare s → {t : TypeLayout} → Memᴰ t (types s) → ⊥
no-types s b {t} m = go (from-types s m)
  where
    go : From s t → ⊥
    go (of-struct x i e) = nothing-in s.structs b.structs i
    go (of-family x i e) = nothing-in s.families b.families i
    go (of-variant x i v j e) = nothing-in s.families b.families i

kept_step : (cur rel : Schema) → Kinds cur → Kinds rel → Step cur rel → Kept rel cur
kept_step cur rel gc gr (compared s) = record {
  values = keep-value cur.enums rel.enums s.enums;
  members = keep-member cur.bitfields rel.bitfields s.bitfields;
  fields = keep-field cur rel gc gr s.fields;
}
kept_step cur rel gc gr (bare b) = record {
  values = λ w. absurd (nothing-in rel.enums b.enums w.is-parent);
  members = λ w. absurd (nothing-in rel.bitfields b.bitfields w.is-parent);
  fields = λ w. absurd (no-types rel b w.is-parent);
}

-- schemas that follow one another by steps
abbrev pub Linked : Schema → List Schema → Type 0
Linked a [] = Unit {0}
Linked a (s ∷ ss) = Step s a × Linked s ss

abbrev pub Each : (Schema → Type 0) → List Schema → Type 0
Each P ss = (s : Schema) → Memᴰ s ss → P s

pub kept-all : (a : Schema) (ss : List Schema) → Linked a ss → Kinds a → Each Kinds ss → Kept a (last_of a ss)
unfolding last_of
kept-all a [] l g gs = record { values = λ w. w; members = λ w. w; fields = λ w. w }
kept-all a (s ∷ ss) l g gs =
    let gt = gs s (Memᴰ.head refl) in
    let p = kept_step s a gt g l.0 in
    let q = kept-all s ss l.1 gt (λ x m. gs x (Memᴰ.tail m)) in
    record { values = λ w. q.values (p.values w); members = λ w. q.members (p.members w); fields = λ w. q.fields (p.fields w) }

-- nothing moves ------------------------------------------------------------------------------------------------------------------------

holds-one : (cs : List Const) {k : Str} {m n : ℕ} → Holds cs k m → Holds cs k n → m ≡ n
holds-one cs {k} {m} {n} p q =
    let c : p.found ≡ q.found = cc (p.is_found, q.is_found) in
    let e : integer m ≡ integer n = sym p.is-integer ∙ ap (λ (x : Const). x.value) c ∙ q.is-integer in
    cc

holds-none : (cs : List Const) {k : Str} {n : ℕ} → cs ≡ [] → Holds cs k n → ⊥
unfolding constant_in find
holds-none cs {k} e h =
    let gone : None ≡ Some h.found = sym (ap (constant_in k) e) ∙ h.is_found in
    let z : ◌≡◌ {A = ℕ} 0 1 = cc in omega arith

-- a record that holds a constant was compared
was-compared : (cur rel : Schema) → Step cur rel → {k : Str} {n : ℕ} → Holds rel.constants k n → Passed cur rel
was-compared cur rel (compared s) h = s
was-compared cur rel (bare b) h = absurd (holds-none rel.constants b.constants h)

-- numbers never fall along the chain
rises : (a : Schema) (ss : List Schema) {root k t : Str} → Linked a ss → Each Names ss → Each (Governed root k t) ss
    → {m n : ℕ} → Holds a.constants k m → Holds (last_of a ss).constants k n → m ≤ n
unfolding last_of
rises a [] l gs us {m} {n} hm hn = let e = holds-one a.constants hm hn in omega arith
rises a (s ∷ ss) l gs us {m} {n} hm hn =
    let u = us s (Memᴰ.head refl) in
    let r = rise _ _ s a _ (gs s (Memᴰ.head refl)) u.carries hm u.holds (was-compared s a l.0 hm).generations in
    let rest = rises s ss l.1 (λ x i. gs x (Memᴰ.tail i)) (λ x i. us x (Memᴰ.tail i)) u.holds hn in
    omega (arith, r.up, rest)

pub still : (a : Schema) (ss : List Schema) {root k t : Str} {fs : List FieldLayout} → Linked a ss → Each Names ss → Each (Governed root k t) ss
    → {n : ℕ} → Holds a.constants k n → Holds (last_of a ss).constants k n → Laid (types a) t fs → Laid (types (last_of a ss)) t fs
unfolding last_of
still a [] l gs us hm hn w = w
still a (s ∷ ss) {root} {k} {t} l gs us {n} hm hn w =
    let u = us s (Memᴰ.head refl) in
    let g = gs s (Memᴰ.head refl) in
    let p = was-compared s a l.0 hm in
    let gs' : Each Names ss = λ x i. gs x (Memᴰ.tail i) in
    let us' : Each (Governed root k t) ss = λ x i. us x (Memᴰ.tail i) in
    let r = rise _ _ s a _ g u.carries hm u.holds p.generations in
    let rest = rises s ss l.1 gs' us' u.holds hn in
    let e : u.number ≡ n = omega (arith, r.up, rest) in
    let w' = unmoved s a g root p.fields p.standalone (r.still e) u.owned w in
    still s ss l.1 gs' us' (subst (λ (x : ℕ). Holds s.constants k x) e u.holds) hn w'
