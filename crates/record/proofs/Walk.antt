-- The walk finds the first root that leads to a name. Assumes nothing.
use Rattle.std.specs.Prelude.{Option, Some, None}
use mathlib.Core.Path.{◌≡◌, refl, sym, ◌∙◌, ap, subst}
use mathlib.Core.List.Memᴰ
use mathlib.Core.List.{List, [], ◌∷◌, map, Memᴰ}
use mathlib.Core.Bool.{Bool, true, false, cond, false≢true}
use mathlib.Core.Logic.{◌⊎◌, inl, inr}
use Prim.Native.Nat.{ℕ, zero, suc, ◌+◌, ◌≤◌}
use native.Mathlib.Omega.{arith}
use lib.ListN.{length}
use Rattle.record.specs.Base.{Str, eqs, find}
use Rattle.record.specs.Schema.{Field, Struct, Family}
use Rattle.record.specs.Steps.{struct_in, family_in}
use Rattle.record.specs.Owner.{Types, Owned, owned_in, has_slot, referenced, fields_in, type_fields, unless, enter, visit, visit_all, claim, declared, claim_roots, roots, root_of, owner_of, Edge, Leads, here, along, First, now, later}
use Rattle.record.proofs.Basics.{eqs→eq, eqs-refl, find-some, none≢some}

-- the name stands in the list
abbrev Has : List Owned → Str → Type 0
Has os n = (o : Owned) × (owned_in os n ≡ Some o)

has-or-not : (os : List Owned) (n : Str) → Has os n ⊎ (owned_in os n ≡ None)
has-or-not os n = go (owned_in os n) refl
  where
    go : (x : Option Owned) → owned_in os n ≡ x → Has os n ⊎ (owned_in os n ≡ None)
    go None e = inr e
    go (Some o) e = inl (o, e)

has-head : (n r : Str) (os : List Owned) → Has (record { name = n; root = r } ∷ os) n
unfolding owned_in find
has-head n r os = (record { name = n; root = r }, rw (eqs-refl n))

-- at a fresh name's entry: that name, or an older one
has-uncons : (n r : Str) (os : List Owned) (m : Str) → Has (record { name = n; root = r } ∷ os) m → (n ≡ m) ⊎ Has os m
unfolding owned_in find
has-uncons n r os m h = go (eqs n m) refl h
  where
    go : (b : Bool) → eqs n m ≡ b → (x : Owned) × (cond b (Some (record { name = n; root = r })) (find (λ (u : Owned). eqs u.name m) os) ≡ Some x)
        → (n ≡ m) ⊎ Has os m
    go true e k = inl (eqs→eq n m e)
    go false e k = inr k

-- older entries are found as before, where the names are others
old-entry : (n r : Str) (os : List Owned) (m : Str) {o : Owned} → owned_in os n ≡ None → owned_in os m ≡ Some o
    → owned_in (record { name = n; root = r } ∷ os) m ≡ Some o
unfolding owned_in find
old-entry n r os m {o} fresh h = go (eqs n m) refl
  where
    go : (b : Bool) → eqs n m ≡ b → cond b (Some (record { name = n; root = r })) (find (λ (u : Owned). eqs u.name m) os) ≡ Some o
    go true e = absurd (none≢some (sym fresh ∙ subst (λ (x : Str). find (λ (u : Owned). eqs u.name x) os ≡ Some o) (sym (eqs→eq n m e)) h))
    go false e = h

-- how many of these names the list has not
count_one : Option Owned → ℕ → ℕ
count_one None n = suc n
count_one (Some o) n = n

missing : List Owned → List Str → ℕ
missing os [] = 0
missing os (x ∷ xs) = count_one (owned_in os x) (missing os xs)

abbrev Sub : List Owned → List Owned → Type 0
Sub a b = (n : Str) (o : Owned) → owned_in a n ≡ Some o → owned_in b n ≡ Some o

missing-sub : (a b : List Owned) (l : List Str) → Sub a b → missing b l ≤ missing a l
unfolding missing count_one
missing-sub a b [] s = omega arith
missing-sub a b (x ∷ xs) s = go (owned_in a x) (owned_in b x) refl refl (missing-sub a b xs s)
  where
    go : (u v : Option Owned) → owned_in a x ≡ u → owned_in b x ≡ v → missing b xs ≤ missing a xs → count_one v (missing b xs) ≤ count_one u (missing a xs)
    go None None e f h = omega arith
    go None (Some o) e f h = omega arith
    go (Some o) None e f h = absurd (none≢some (sym f ∙ s x o e))
    go (Some o) (Some q) e f h = h

missing-less : (a b : List Owned) (l : List Str) (n : Str) → Sub a b → Memᴰ n l → owned_in a n ≡ None → Has b n → missing b l + 1 ≤ missing a l
unfolding missing count_one
missing-less a b [] n s m f h = absurd (Memᴰ.not-nil m)
missing-less a b (x ∷ xs) n s (Memᴰ.head e) f h =
    let p : owned_in a x ≡ None = subst (λ (y : Str). owned_in a y ≡ None) e f in
    let q : owned_in b x ≡ Some h.0 = subst (λ (y : Str). owned_in b y ≡ Some h.0) e h.1 in
    let k = missing-sub a b xs s in
    rw (p, q) (omega arith)
missing-less a b (x ∷ xs) n s (Memᴰ.tail m) f h = go (owned_in a x) (owned_in b x) refl refl (missing-less a b xs n s m f h)
  where
    go : (u v : Option Owned) → owned_in a x ≡ u → owned_in b x ≡ v → missing b xs + 1 ≤ missing a xs → count_one v (missing b xs) + 1 ≤ count_one u (missing a xs)
    go None None e g k = omega arith
    go None (Some o) e g k = omega arith
    go (Some o) None e g k = absurd (none≢some (sym g ∙ s x o e))
    go (Some o) (Some q) e g k = k

missing-length : (os : List Owned) (l : List Str) → missing os l ≤ length l
unfolding missing count_one
missing-length os [] = omega arith
missing-length os (x ∷ xs) = go (owned_in os x) (missing-length os xs)
  where
    go : (u : Option Owned) → missing os xs ≤ length xs → count_one u (missing os xs) ≤ suc (length xs)
    go None h = omega arith
    go (Some o) h = omega arith

-- a name that nothing declares has no fields
declared-or-empty : (s : Types) (n : Str) → Memᴰ n (declared s) ⊎ (type_fields s n ≡ [])
unfolding declared type_fields fields_in struct_in family_in
declared-or-empty s n = go (struct_in n s.structs) (family_in n s.families) refl refl
  where
    go : (t : Option Struct) (m : Option Family) → struct_in n s.structs ≡ t → family_in n s.families ≡ m → Memᴰ n (declared s) ⊎ (fields_in t m ≡ [])
    go (Some t) m e f =
        let i = find-some (λ (x : Struct). eqs x.name n) s.structs e in
        inl (Memᴰ.append_left (map (λ (x : Family). x.name) s.families) (Memᴰ.cast (sym (eqs→eq _ _ i.1)) (Memᴰ.map (λ (x : Struct). x.name) i.0)))
    go None (Some m) e f =
        let i = find-some (λ (x : Family). eqs x.name n) s.families f in
        inl (Memᴰ.append_right (map (λ (x : Struct). x.name) s.structs) (Memᴰ.cast (sym (eqs→eq _ _ i.1)) (Memᴰ.map (λ (x : Family). x.name) i.0)))
    go None None e f = inr refl

-- what a walk does to the list: older entries stay, and what is new has its references in
record Walked (s : Types) (os after : List Owned) : Type 0 where
  keep : Sub os after
  closed : (m : Str) → Has after m → Has os m ⊎ ((n : Str) → Edge s m n → Has after n)

walked-refl : (s : Types) (os : List Owned) → Walked s os os
walked-refl s os = record { keep = λ n o e. e; closed = λ m h. inl h }

walked-trans : (s : Types) {a b c : List Owned} → Walked s a b → Walked s b c → Walked s a c
walked-trans s {a} {b} {c} p q = record { keep = λ n o e. q.keep n o (p.keep n o e); closed = λ m h. outer m (q.closed m h) }
  where
    inner : (m : Str) → Has a m ⊎ ((n : Str) → Edge s m n → Has b n) → Has a m ⊎ ((n : Str) → Edge s m n → Has c n)
    inner m (inl h) = inl h
    inner m (inr f) = inr (λ n e. let x = f n e in (x.0, q.keep n x.0 x.1))

    outer : (m : Str) → Has b m ⊎ ((n : Str) → Edge s m n → Has c n) → Has a m ⊎ ((n : Str) → Edge s m n → Has c n)
    outer m (inl h) = inner m (p.closed m h)
    outer m (inr f) = inr f

-- a walk from a name that does its work wherever at most d declared names are missing
abbrev Works : Types → (Str → List Owned → List Owned) → ℕ → Type 0
Works s go d = (n : Str) (os : List Owned) → missing os (declared s) ≤ d → Walked s os (go n os) × Has (go n os) n

visit-works : (s : Types) (go : Str → List Owned → List Owned) (d : ℕ) → Works s go d → (o : Option Str) (os : List Owned) → missing os (declared s) ≤ d
    → Walked s os (visit go s o os) × ((n : Str) → o ≡ Some n → has_slot s n ≡ false → Has (visit go s o os) n)
unfolding visit unless
visit-works s go d w None os h = (walked-refl s os, λ n e f. absurd (none≢some e))
visit-works s go d w (Some x) os h = slot (has_slot s x) refl
  where
    slot : (b : Bool) → has_slot s x ≡ b
        → Walked s os (unless b (go x) os) × ((n : Str) → Some x ≡ Some n → has_slot s n ≡ false → Has (unless b (go x) os) n)
    slot true e = (
      walked-refl s os,
      λ n q f. absurd (false≢true (sym f ∙ subst (λ (y : Str). has_slot s y ≡ true) (let p : x ≡ n = cc in p) e)),
    )
    slot false e = ((w x os h).0, λ n q f. let p : x ≡ n = cc in subst (Has (go x os)) p (w x os h).1)

visit_all-works : (s : Types) (go : Str → List Owned → List Owned) (d : ℕ) → Works s go d → (fs : List Field) (os : List Owned) → missing os (declared s) ≤ d
    → Walked s os (visit_all go s fs os)
    × ((f : Field) → Memᴰ f fs → (n : Str) → referenced f ≡ Some n → has_slot s n ≡ false → Has (visit_all go s fs os) n)
unfolding visit_all
visit_all-works s go d w [] os h = (walked-refl s os, λ f m n e q. absurd (Memᴰ.not-nil m))
visit_all-works s go d w (x ∷ xs) os h =
    let one = visit-works s go d w (referenced x) os h in
    let less = missing-sub os (visit go s (referenced x) os) (declared s) one.0.keep in
    let rest = visit_all-works s go d w xs (visit go s (referenced x) os) (omega (arith, less, h)) in
    (walked-trans s one.0 rest.0, reach one rest)
  where
    reach : Walked s os (visit go s (referenced x) os) × ((n : Str) → referenced x ≡ Some n → has_slot s n ≡ false → Has (visit go s (referenced x) os) n)
        → Walked s (visit go s (referenced x) os) (visit_all go s xs (visit go s (referenced x) os))
        × ((f : Field) → Memᴰ f xs → (n : Str) → referenced f ≡ Some n → has_slot s n ≡ false → Has (visit_all go s xs (visit go s (referenced x) os)) n)
        → (f : Field) → Memᴰ f (x ∷ xs) → (n : Str) → referenced f ≡ Some n → has_slot s n ≡ false
        → Has (visit_all go s xs (visit go s (referenced x) os)) n
    reach one rest f (Memᴰ.head e) n r q =
        let k = one.1 n (ap referenced (sym e) ∙ r) q in (k.0, rest.0.keep n k.0 k.1)
    reach one rest f (Memᴰ.tail m) n r q = rest.1 f m n r q

claim-works : (s : Types) (root : Str) (k d : ℕ) → d + 1 ≤ k → Works s (claim k s root) d
unfolding claim enter visit_all
claim-works s root zero d h n os m = absurd (omega arith)
claim-works s root (suc k) d h n os m = start (λ e t. claim-works s root k e t) (owned_in os n) refl
  where
    entry : Owned
    entry = record { name = n; root = root }

    open-one : (after : List Owned) → owned_in os n ≡ None → Walked s (entry ∷ os) after
        → ((f : Field) → Memᴰ f (type_fields s n) → (x : Str) → referenced f ≡ Some x → has_slot s x ≡ false → Has after x)
        → Walked s os after × Has after n
    open-one after e w t = (
      record {
        keep = λ x o q. w.keep x o (old-entry n root os x e q);
        closed = λ x q. side x (w.closed x q);
      },
      let p = has-head n root os in (p.0, w.keep n p.0 p.1),
    )
      where
        edges : (x : Str) → (n ≡ x) ⊎ Has os x → Has os x ⊎ ((y : Str) → Edge s x y → Has after y)
        edges x (inl q) = inr (λ y g. t g.field (subst (λ (z : Str). Memᴰ g.field (type_fields s z)) (sym q) g.is_field) y g.names g.free)
        edges x (inr p) = inl p

        side : (x : Str) → Has (entry ∷ os) x ⊎ ((y : Str) → Edge s x y → Has after y) → Has os x ⊎ ((y : Str) → Edge s x y → Has after y)
        side x (inl p) = edges x (has-uncons n root os x p)
        side x (inr f) = inr f

    fresh : ((e : ℕ) → e + 1 ≤ k → Works s (claim k s root) e) → owned_in os n ≡ None → Memᴰ n (declared s) ⊎ (type_fields s n ≡ [])
        → Walked s os (visit_all (claim k s root) s (type_fields s n) (entry ∷ os)) × Has (visit_all (claim k s root) s (type_fields s n) (entry ∷ os)) n
    fresh rec e (inl i) =
        let sub : Sub os (entry ∷ os) = λ x o q. old-entry n root os x e q in
        let less = missing-less os (entry ∷ os) (declared s) n sub i e (has-head n root os) in
        let all = visit_all-works s (claim k s root) (missing (entry ∷ os) (declared s)) (rec _ (omega arith)) (type_fields s n) (entry ∷ os) (omega arith) in
        open-one _ e all.0 all.1
    fresh rec e (inr q) =
        open-one _ e
        (subst (λ (fs : List Field). Walked s (entry ∷ os) (visit_all (claim k s root) s fs (entry ∷ os))) (sym q) (walked-refl s (entry ∷ os)))
        (λ f i x r u. absurd (Memᴰ.not-nil (subst (λ (fs : List Field). Memᴰ f fs) q i)))

    start : ((e : ℕ) → e + 1 ≤ k → Works s (claim k s root) e) → (o : Option Owned) → owned_in os n ≡ o
        → Walked s os (enter o (λ (x : List Owned). visit_all (claim k s root) s (type_fields s n) (record { name = n; root = root } ∷ x)) os)
        × Has (enter o (λ (x : List Owned). visit_all (claim k s root) s (type_fields s n) (record { name = n; root = root } ∷ x)) os) n
    start rec (Some o) e = (walked-refl s os, (o, e))
    start rec None e = fresh rec e (declared-or-empty s n)

-- what is new belongs to the root, and the root leads to it
abbrev Tracks : Types → Str → (Str → List Owned → List Owned) → Type 0
Tracks s root go = (n : Str) (os : List Owned) → Leads s root n → (m : Str) (o : Owned) → owned_in (go n os) m ≡ Some o
    → (owned_in os m ≡ Some o) ⊎ ((o.root ≡ root) × Leads s root m)

visit-tracks : (s : Types) (root b : Str) (go : Str → List Owned → List Owned) → Tracks s root go → Leads s root b
    → (f : Field) → Memᴰ f (type_fields s b) → (os : List Owned) (m : Str) (o : Owned) → owned_in (visit go s (referenced f) os) m ≡ Some o
    → (owned_in os m ≡ Some o) ⊎ ((o.root ≡ root) × Leads s root m)
unfolding visit unless
visit-tracks s root b go t l f i os m o h = named (referenced f) refl h
  where
    slot : (x : Str) → referenced f ≡ Some x → (c : Bool) → has_slot s x ≡ c → owned_in (unless c (go x) os) m ≡ Some o
        → (owned_in os m ≡ Some o) ⊎ ((o.root ≡ root) × Leads s root m)
    slot x e true q k = inl k
    slot x e false q k = t x os (along l (record { field = f; is_field = i; names = e; free = q })) m o k

    named : (r : Option Str) → referenced f ≡ r → owned_in (visit go s r os) m ≡ Some o → (owned_in os m ≡ Some o) ⊎ ((o.root ≡ root) × Leads s root m)
    named None e k = inl k
    named (Some x) e k = slot x e (has_slot s x) refl k

visit_all-tracks : (s : Types) (root b : Str) (go : Str → List Owned → List Owned) → Tracks s root go → Leads s root b
    → (fs : List Field) → ((f : Field) → Memᴰ f fs → Memᴰ f (type_fields s b))
    → (os : List Owned) (m : Str) (o : Owned) → owned_in (visit_all go s fs os) m ≡ Some o
    → (owned_in os m ≡ Some o) ⊎ ((o.root ≡ root) × Leads s root m)
unfolding visit_all
visit_all-tracks s root b go t l [] inc os m o h = inl h
visit_all-tracks s root b go t l (f ∷ fs) inc os m o h =
    or (visit_all-tracks s root b go t l fs (λ g i. inc g (Memᴰ.tail i)) (visit go s (referenced f) os) m o h)
  where
    or : (owned_in (visit go s (referenced f) os) m ≡ Some o) ⊎ ((o.root ≡ root) × Leads s root m) → (owned_in os m ≡ Some o) ⊎ ((o.root ≡ root) × Leads s root m)
    or (inl k) = visit-tracks s root b go t l f (inc f (Memᴰ.head refl)) os m o k
    or (inr k) = inr k

claim-tracks : (s : Types) (root : Str) (k : ℕ) → Tracks s root (claim k s root)
unfolding claim enter
claim-tracks s root zero n os l m o h = inl h
claim-tracks s root (suc k) n os l m o h = start (claim-tracks s root k) (owned_in os n) h
  where
    entry : Owned
    entry = record { name = n; root = root }

    head-is : (b : Bool) → eqs n m ≡ b → cond b (Some entry) (find (λ (u : Owned). eqs u.name m) os) ≡ Some o
        → (find (λ (u : Owned). eqs u.name m) os ≡ Some o) ⊎ ((o.root ≡ root) × Leads s root m)
    head-is true e q =
        let p : ◌≡◌ {A = Owned} entry o = cc in
        inr (ap (λ (u : Owned). u.root) (sym p), subst (Leads s root) (eqs→eq n m e) l)
    head-is false e q = inl q

    or : (owned_in (entry ∷ os) m ≡ Some o) ⊎ ((o.root ≡ root) × Leads s root m) → (owned_in os m ≡ Some o) ⊎ ((o.root ≡ root) × Leads s root m)
    or (inl q) = unfold owned_in find in head-is (eqs n m) refl q
    or (inr q) = inr q

    start : Tracks s root (claim k s root) → (x : Option Owned)
        → owned_in (enter x (λ (y : List Owned). visit_all (claim k s root) s (type_fields s n) (record { name = n; root = root } ∷ y)) os) m ≡ Some o
        → (owned_in os m ≡ Some o) ⊎ ((o.root ≡ root) × Leads s root m)
    start t (Some y) q = inl q
    start t None q = or (visit_all-tracks s root n (claim k s root) t l (type_fields s n) (λ f i. i) (entry ∷ os) m o q)

-- lists from which no reference leads out
abbrev Closed : Types → List Owned → Type 0
Closed s os = (m : Str) → Has os m → (n : Str) → Edge s m n → Has os n

closed-leads : (s : Types) (os : List Owned) → Closed s os → {a b : Str} → Has os a → Leads s a b → Has os b
closed-leads s os c h (here e) = subst (Has os) e h
closed-leads s os c h (along l e) = c _ (closed-leads s os c h l) _ e

module _ (s : Types) where
  size : ℕ
  size = length (declared s) + 1

  one-root : (r : Str) (os : List Owned) → Walked s os (claim size s r r os) × Has (claim size s r r os) r
  unfolding size
  one-root r os = claim-works s r size (length (declared s)) (omega arith) r os (missing-length os (declared s))

  root-closed : (r : Str) (os : List Owned) → Closed s os → Closed s (claim size s r r os)
  root-closed r os c m h n e = or ((one-root r os).0.closed m h)
    where
      or : Has os m ⊎ ((x : Str) → Edge s m x → Has (claim size s r r os) x) → Has (claim size s r r os) n
      or (inl p) = let q = c m p n e in (q.0, (one-root r os).0.keep n q.0 q.1)
      or (inr f) = f n e

  root-leads : (r : Str) (os : List Owned) → Closed s os → {n : Str} → Leads s r n → Has (claim size s r r os) n
  root-leads r os c l = closed-leads s (claim size s r r os) (root-closed r os c) (one-root r os).1 l

  roots-keep : (rs : List Str) (os : List Owned) → Sub os (claim_roots s rs os)
  unfolding claim_roots size
  roots-keep [] os n o e = e
  roots-keep (r ∷ rs) os n o e = roots-keep rs (claim size s r r os) n o ((one-root r os).0.keep n o e)

  -- what the walk says is the first root that leads there
  says : (rs : List Str) (os : List Owned) (n r : Str) → Closed s os → owned_in os n ≡ None → root_of (owned_in (claim_roots s rs os) n) ≡ Some r → First s n rs r
  unfolding claim_roots root_of size
  says [] os n r c f h = absurd (none≢some (rw f at h))
  says (q ∷ rs) os n r c f h = or (has-or-not (claim size s q q os) n) (λ g. says rs (claim size s q q os) n r (root-closed q os c) g h)
    where
      new : (o : Owned) → owned_in (claim size s q q os) n ≡ Some o → (owned_in os n ≡ Some o) ⊎ ((o.root ≡ q) × Leads s q n) → First s n (q ∷ rs) r
      new o e (inl p) = absurd (none≢some (sym f ∙ p))
      new o e (inr p) =
          let k : owned_in (claim_roots s rs (claim size s q q os)) n ≡ Some o = roots-keep rs (claim size s q q os) n o e in
          let g : Some o.root ≡ Some r = rw k at h in
          let x : q ≡ r = (let y : o.root ≡ r = cc in sym p.0 ∙ y) in
          now x p.1

      or : Has (claim size s q q os) n ⊎ (owned_in (claim size s q q os) n ≡ None) → (owned_in (claim size s q q os) n ≡ None → First s n rs r) → First s n (q ∷ rs) r
      or (inl w) k = new w.0 w.1 (claim-tracks s q size q os (here refl) n w.0 w.1)
      or (inr e) k = later (λ l. none≢some (sym e ∙ (root-leads q os c l).1)) (k e)

  -- and the first root that leads there is what the walk says
  said : (rs : List Str) (os : List Owned) (n r : Str) → Closed s os → owned_in os n ≡ None → First s n rs r → root_of (owned_in (claim_roots s rs os) n) ≡ Some r
  unfolding claim_roots root_of size
  said [] os n r c f x3 = elim x3 [ ]
  said (q ∷ rs) os n r c f (now y l) =
      let w = root-leads q os c l in
      let k = roots-keep rs (claim size s q q os) n w.0 w.1 in
      rw k (or w.0 (claim-tracks s q size q os (here refl) n w.0 w.1))
    where
      or : (o : Owned) → (owned_in os n ≡ Some o) ⊎ ((o.root ≡ q) × Leads s q n) → Some o.root ≡ Some r
      or o (inl p) = absurd (none≢some (sym f ∙ p))
      or o (inr p) = ap Some (p.0 ∙ y)
  said (q ∷ rs) os n r c f (later x g) = or (has-or-not (claim size s q q os) n) (λ e. said rs (claim size s q q os) n r (root-closed q os c) e g)
    where
      new : (o : Owned) → (owned_in os n ≡ Some o) ⊎ ((o.root ≡ q) × Leads s q n) → ⊥
      new o (inl p) = none≢some (sym f ∙ p)
      new o (inr p) = x p.1

      or : Has (claim size s q q os) n ⊎ (owned_in (claim size s q q os) n ≡ None)
          → (owned_in (claim size s q q os) n ≡ None → root_of (owned_in (claim_roots s rs (claim size s q q os)) n) ≡ Some r)
          → root_of (owned_in (claim_roots s rs (claim size s q q os)) n) ≡ Some r
      or (inl w) k = absurd (new w.0 (claim-tracks s q size q os (here refl) n w.0 w.1))
      or (inr e) k = k e

  nothing-closed : Closed s []
  unfolding owned_in find
  nothing-closed m h n e = absurd (none≢some h.1)

  -- OWNERSHIP: the executable owner is the first root, in the order of the slots, from which references lead to the name
  pub owner-is-first : (n r : Str) → (owner_of s n ≡ Some r → First s n (roots s) r) × (First s n (roots s) r → owner_of s n ≡ Some r)
  unfolding owner_of owned_in find
  owner-is-first n r = (says (roots s) [] n r nothing-closed refl, said (roots s) [] n r nothing-closed refl)
