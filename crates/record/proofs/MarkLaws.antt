-- What each step of a walk does to the marks. Assumes nothing.
use Rattle.std.specs.Prelude.{Option, Some, None}
use mathlib.Core.Path.{◌≡◌, refl, sym, ap, subst, ◌∙◌}
use mathlib.Core.List.Memᴰ
use mathlib.Core.List.{List, [], ◌∷◌, Memᴰ}
use mathlib.Core.Bool.{Bool, true, false}
use mathlib.Core.Logic.{◌⊎◌, inl, inr}
use Prim.Native.Nat.{ℕ, zero, suc, ◌+◌, ◌*◌, ◌≤◌, ◌<◌}
use native.Mathlib.Omega.{arith}
use lib.ListN.{length, get_or, set, drop, replicate, length-set}
use lib.Seq.{get_or-set_same, get_or-set_other}
use lib.Dec.{eqb}
use borrow.Author.Tests.{eq-eqb, ne_eqb, eqb-true, eqb-false}
use Rattle.record.specs.Base.{Str}
use Rattle.record.specs.Schema.{Field, Key}
use Rattle.record.specs.Commands.{field_at}
use Rattle.record.specs.Lists.{field_of}
use Rattle.record.specs.Steps.{field_key_at}
use Rattle.record.specs.Index.{Indexed}
use Rattle.record.specs.Owner.{referenced, type_fields, Edge, Leads, here, along}
use Rattle.record.specs.References.{types_at}
use Rattle.record.specs.Marks.{body_at, body_of, PlacesFrom, reference_at, entered, target_at, IsBody, Into, LeadsToTarget, place_past, type_place, place_number, Clear, unseen, Ready, IsVisited, Visited, Named, Full, Change, as_it_was, a-field, a-type, Led, Walked, TypeWalked, BodyWalked, Beyond, FieldWalked}
use Rattle.record.specs.declared.command.Cursor.{Cursor}
use Rattle.record.specs.declared.marks.Body.{Body}
use Rattle.record.proofs.ReferenceLaws.{referenced-key}
use Rattle.record.proofs.PlaceLaws.{entered-is, is-entered, type-other, same-type}
use Rattle.record.specs.Commands.{Step}

-- clear ------------------------------------------------------------------------------------------------------------------

-- an array as it is made has no mark
zeros : (n q : ℕ) → ◌≡◌ {A = ℕ} (get_or (replicate n 0) q 0) 0
zeros zero q = refl
zeros (suc n) zero = refl
zeros (suc n) (suc q) = zeros n q

pub clear-made : (n : ℕ) → Clear (replicate n 0)
clear-made n = record { none = zeros n }

-- a mark that is set makes one fewer that is not
pub unseen-set : (l : List ℕ) (i v : ℕ) → i < length l → get_or l i 0 ≡ 0 → 0 < v → unseen (set l i v) + 1 ≡ unseen l
unfolding unseen
unseen-set [] i v h e r = absurd (omega arith)
unseen-set (x ∷ xs) zero v h e r =
    let ne : v ≡ 0 → ⊥ = λ z. omega arith in
    simp (eq-eqb x 0 e, ne_eqb v 0 ne) (omega arith)
unseen-set (x ∷ xs) (suc i) v h e r = let q = unseen-set xs i v (omega arith) e r in omega arith

pub unseen-less : (l : List ℕ) (i v : ℕ) → 0 < v → unseen (set l i v) ≤ unseen l
unfolding unseen
unseen-less [] i v r = let z : ◌≤◌ 0 0 = omega arith in z
unseen-less (x ∷ xs) zero v r =
    let ne : v ≡ 0 → ⊥ = λ z. omega arith in
    simp (ne_eqb v 0 ne) (omega arith)
unseen-less (x ∷ xs) (suc i) v r = let q = unseen-less xs i v r in omega arith

module _ (s p : Str) where
  target_is : (q : ℕ) (k : Option Key) → entered (types_at s p) (referenced (field_of p (field_at (drop q s)) k)) ≡ target_at s p q
  unfolding target_at reference_at
  target_is q k = ap (entered (types_at s p)) (referenced-key p (field_at (drop q s)) k None)

  -- one reference, and then where it leads
  leads-after : {a b c : Str} → Edge (types_at s p) a b → Leads (types_at s p) b c → Leads (types_at s p) a c
  leads-after {a} e (here h) = along (here refl) (subst (Edge (types_at s p) a) h e)
  leads-after e (along l g) = along (leads-after e l) g

  -- marks that stay
  module _ {mark : ℕ} {R : Str → Type 0} {a b : List ℕ} (w : Walked s p mark R a b) where
    pub marked-stays : (q : ℕ) → (get_or a q 0 ≡ 0 → ⊥) → get_or b q 0 ≡ 0 → ⊥
    marked-stays q h z = go (w.each q)
      where
        go : Change s p mark R a b q → ⊥
        go (as_it_was e) = h (sym e ∙ z)
        go (a-field f) = h f.was
        go (a-type f) = h f.was

    pub visited-stays : (n : Str) → Visited s p a n → Visited s p b n
    visited-stays n v = record { marked = λ l. marked-stays (type_place s p n) (v.marked l) }

    pub full-stays : (n : Str) → Full s p a n → Full s p b n
    full-stays n f = record {
      all = λ x e. let k = f.all x e in record { place = k.place; field = k.field; marked = marked-stays k.place k.marked; leads = k.leads };
    }

  pub walked_none : {mark : ℕ} {R : Str → Type 0} {a : List ℕ} → Walked s p mark R a a
  walked_none = record { each = λ q. as_it_was refl; closed = λ q f h. inl h; filled = λ n v. inl v }

  pub walked-into : {mark : ℕ} {R S : Str → Type 0} {a b : List ℕ} → ((n : Str) → R n → S n) → Walked s p mark R a b → Walked s p mark S a b
  walked-into {mark} {R} {S} {a} {b} i w = record { each = λ q. go q (w.each q); closed = w.closed; filled = w.filled }
    where
      go : (q : ℕ) → Change s p mark R a b q → Change s p mark S a b q
      go q (as_it_was e) = as_it_was e
      go q (a-field f) = a-field (record { was = f.was; is = f.is; into = λ n e. i n (f.into n e) })
      go q (a-type f) = a-type f

  pub walked_on : {mark : ℕ} {R : Str → Type 0} {a b c : List ℕ} → Walked s p mark R a b → Walked s p mark R b c → Walked s p mark R a c
  walked_on {mark} {R} {a} {b} {c} v w = record {
    each = λ q. go q (v.each q) (w.each q);
    closed = λ q f h. late q f (w.closed q f h);
    filled = λ n h. full n (w.filled n h);
  }
    where
      go : (q : ℕ) → Change s p mark R a b q → Change s p mark R b c q → Change s p mark R a c q
      go q (as_it_was e) (as_it_was g) = as_it_was (g ∙ e)
      go q (as_it_was e) (a-field g) = a-field (record { was = sym e ∙ g.was; is = g.is; into = g.into })
      go q (as_it_was e) (a-type g) = a-type (record { was = sym e ∙ g.was; is = g.is; other = g.other })
      go q (a-field f) (as_it_was g) = a-field (record { was = f.was; is = g ∙ f.is; into = f.into })
      go q (a-field f) (a-field g) = a-field (record { was = f.was; is = g.is; into = f.into })
      go q (a-field f) (a-type g) = a-type (record { was = f.was; is = g.is; other = g.other })
      go q (a-type f) (as_it_was g) = a-type (record { was = f.was; is = g ∙ f.is; other = f.other })
      go q (a-type f) (a-field g) = a-field (record { was = f.was; is = g.is; into = g.into })
      go q (a-type f) (a-type g) = a-type (record { was = f.was; is = g.is; other = g.other })

      soon : (q : ℕ) → (get_or a q 0 ≡ 0 → ⊥) ⊎ ((n : Str) → target_at s p q ≡ Some n → Visited s p b n) → (get_or a q 0 ≡ 0 → ⊥) ⊎ ((n : Str) → target_at s p q ≡ Some n → Visited s p c n)
      soon q (inl h) = inl h
      soon q (inr f) = inr (λ n e. visited-stays w n (f n e))

      late : (q : ℕ) → get_or s q 0 ≡ 11 → (get_or b q 0 ≡ 0 → ⊥) ⊎ ((n : Str) → target_at s p q ≡ Some n → Visited s p c n) → (get_or a q 0 ≡ 0 → ⊥) ⊎ ((n : Str) → target_at s p q ≡ Some n → Visited s p c n)
      late q f (inl h) = soon q (v.closed q f h)
      late q f (inr g) = inr g

      early : (n : Str) → Visited s p a n ⊎ Full s p b n → Visited s p a n ⊎ Full s p c n
      early n (inl h) = inl h
      early n (inr f) = inr (full-stays w n f)

      full : (n : Str) → Visited s p b n ⊎ Full s p c n → Visited s p a n ⊎ Full s p c n
      full n (inl h) = early n (v.filled n h)
      full n (inr f) = inr f

-- a field's walk ---------------------------------------------------------------------------------------------------------

module _ (s p : Str) (mark q : ℕ) (m : List ℕ) where
  pub field-seen : (x : List ℕ) → (get_or m q 0 ≡ 0 → ⊥) → Led s p x m m (FieldWalked s p mark q m m)
  field-seen x h = record { same_length = refl; fewer = omega arith; so = λ i. record { walked = walked_none s p; marked = h } }

  module _ (ready : Ready s m mark) (within : q < length s) (number : get_or s q 0 ≡ 11) (free : get_or m q 0 ≡ 0) where
    real : 0 < mark
    real = ready.real

    inside : q < length m
    inside = let r = ready.room in omega arith

    -- what the walk of the type asks, once the field is marked
    pub field-less : (t : ℕ) → 2 * unseen m ≡ t → 2 * unseen (set m q mark) + 1 < t
    field-less t e = let u = unseen-set m q mark inside free real in omega arith

    pub field-ready : Ready s (set m q mark) mark
    field-ready = record { room = let r = ready.room in let l = length-set m q mark in omega arith; real = real }

    -- no type's command stands at the field
    visited-before : (n : Str) → Visited s p (set m q mark) n → Visited s p m n
    visited-before n v = record {
      marked = λ l z.
          let ne : (type_place s p n ≡ q → ⊥) = λ e. type-other s p n l (ap (λ (i : ℕ). get_or s i 0) e ∙ number) in
          v.marked l (get_or-set_other m q (type_place s p n) mark 0 ne ∙ z);
    }

    -- the field is marked, and then what it leads to is walked
    marking : (after : List ℕ) → Walked s p mark (Beyond s p q) (set m q mark) after → ((n : Str) → target_at s p q ≡ Some n → Visited s p after n) → FieldWalked s p mark q m after
    marking after w visited = record {
      walked = record {
        each = λ x. each x (eqb x q) refl (w.each x);
        closed = λ x f h. closed x (eqb x q) refl (w.closed x f h);
        filled = λ n h. filled n (w.filled n h);
      };
      marked = marked-stays s p w q (λ z. let y = get_or-set_same m q mark 0 inside in omega arith);
    }
      where
        itself : (x : ℕ) → x ≡ q → (n : Str) → target_at s p x ≡ Some n → Beyond s p q n
        itself x e n t = record { through = n; target = ap (target_at s p) (sym e) ∙ t; leads = here refl }

        each : (x : ℕ) (b : Bool) → eqb x q ≡ b → Change s p mark (Beyond s p q) (set m q mark) after x → Change s p mark (Beyond s p q) m after x
        each x true e (as_it_was g) =
            let y = eqb-true x q e in
            a-field (record { was = ap (λ i. get_or m i 0) y ∙ free; is = g ∙ ap (λ i. get_or (set m q mark) i 0) y ∙ get_or-set_same m q mark 0 inside; into = itself x y })
        each x true e (a-field f) =
            let y = eqb-true x q e in
            a-field (record { was = ap (λ i. get_or m i 0) y ∙ free; is = f.is; into = itself x y })
        each x true e (a-type f) = let y = eqb-true x q e in absurd (f.other (ap (λ (i : ℕ). get_or s i 0) y ∙ number))
        each x false e (as_it_was g) = as_it_was (g ∙ get_or-set_other m q x mark 0 (eqb-false x q e))
        each x false e (a-field f) = a-field (record { was = sym (get_or-set_other m q x mark 0 (eqb-false x q e)) ∙ f.was; is = f.is; into = f.into })
        each x false e (a-type f) = a-type (record { was = sym (get_or-set_other m q x mark 0 (eqb-false x q e)) ∙ f.was; is = f.is; other = f.other })

        closed : (x : ℕ) (b : Bool) → eqb x q ≡ b → (get_or (set m q mark) x 0 ≡ 0 → ⊥) ⊎ ((n : Str) → target_at s p x ≡ Some n → Visited s p after n)
            → (get_or m x 0 ≡ 0 → ⊥) ⊎ ((n : Str) → target_at s p x ≡ Some n → Visited s p after n)
        closed x true e h = inr (λ n t. visited n (ap (target_at s p) (sym (eqb-true x q e)) ∙ t))
        closed x false e (inl h) = inl (λ z. h (get_or-set_other m q x mark 0 (eqb-false x q e) ∙ z))
        closed x false e (inr f) = inr f

        filled : (n : Str) → Visited s p (set m q mark) n ⊎ Full s p after n → Visited s p m n ⊎ Full s p after n
        filled n (inl h) = inl (visited-before n h)
        filled n (inr f) = inr f

    module _ (x : List ℕ) (r : Option Body) (found : Indexed s p x → LeadsToTarget s p q r) where
      pub field-ends : r ≡ None → Led s p x m (set m q mark) (FieldWalked s p mark q m (set m q mark))
      field-ends e = record {
        same_length = length-set m q mark;
        fewer = let u = unseen-set m q mark inside free real in omega arith;
        so = λ i.
            let nothing : target_at s p q ≡ None = subst (LeadsToTarget s p q) e (found i) in
            marking (set m q mark) (walked_none s p) (λ n t. absurd (let z : ◌≡◌ {A = ℕ} 0 1 = cc in omega arith));
      }

      pub field-leads : (b : Body) (after : List ℕ) → r ≡ Some b → Led s p x (set m q mark) after (BodyWalked s p mark b (set m q mark) after) → Led s p x m after (FieldWalked s p mark q m after)
      field-leads b after e g = record {
        same_length = g.same_length ∙ length-set m q mark;
        fewer = let f = g.fewer in let u = unseen-set m q mark inside free real in omega arith;
        so = λ i. through (subst (LeadsToTarget s p q) e (found i)) (g.so i);
      }
        where
          through : Into s p q b → BodyWalked s p mark b (set m q mark) after → FieldWalked s p mark q m after
          through t w =
              let v = w.of t.name t.body in
              marking after
              (walked-into s p (λ n l. record { through = t.name; target = t.target; leads = l }) v.walked)
              (λ n k. let e : Some t.name ≡ Some n = sym t.target ∙ k in subst (Visited s p after) (let y : t.name ≡ n = cc in y) v.visited)

pub ruleset field_laws = (field-seen, field-ends, field-leads)

pub field-length : (s p : Str) (x : List ℕ) (mark q : ℕ) (b : Body) (m after : List ℕ) → Led s p x (set m q mark) after (BodyWalked s p mark b (set m q mark) after) → length after ≡ length m
field-length s p x mark q b m after w = w.same_length ∙ length-set m q mark

-- whether a type was visited ---------------------------------------------------------------------------------------------

pub visit-inside : (s : Str) (m : List ℕ) (mark q : ℕ) (v : Bool) → Ready s m mark → IsVisited s m q v → v ≡ false → q < length m
visit-inside s m mark q v r i e = let l = i.inside e in let h = r.room in omega arith

-- a type's walk ----------------------------------------------------------------------------------------------------------

-- the fields before these are done
pub record Going (s p : Str) (mark : ℕ) (n : Str) (before m : List ℕ) (fields : List Field) : Type 0 where
  pub walked : Walked s p mark (Leads (types_at s p) n) before m
  pub own : (f : Field) → Memᴰ f fields → Memᴰ f (type_fields (types_at s p) n)
  pub done : (f : Field) → Memᴰ f (type_fields (types_at s p) n) → Memᴰ f fields ⊎ ((x : Str) → entered (types_at s p) (referenced f) ≡ Some x → Named s p m x)

-- the same for every type whose fields begin here
pub record BodyGoing (s p : Str) (mark : ℕ) (family : Bool) (from : ℕ) (before m : List ℕ) (at : ℕ) : Type 0 where
  pub of : (n : Str) → type_fields (types_at s p) n ≡ body_at family s p from → Going s p mark n before m (body_at family s p at)

-- the type was marked before
module _ (s p : Str) (x : List ℕ) (mark : ℕ) (family : Bool) (from q : ℕ) (before m : List ℕ) (at : ℕ) (g : Led s p x (set before q 4) m (BodyGoing s p mark family from (set before q 4) m at)) where
  pub going-length : length m ≡ length before
  going-length = g.same_length ∙ length-set before q 4

  -- what the walk of a field asks
  pub going_less : (t : ℕ) → 2 * unseen before + 1 ≡ t → 2 * unseen m < t
  going_less t e = let f = g.fewer in let u = unseen-less before q 4 (omega arith) in omega arith

  pub going-ready : Ready s before mark → Ready s m mark
  going-ready r = record { room = let h = r.room in let l = going-length in omega arith; real = r.real }

module _ (f : Bool) (s : Str) (at : ℕ) (r : Step ℕ) (h : PlacesFrom f s at r) (q : ℕ) (k : Cursor) (m : r ≡ Some (q, k)) where
  pub place_inside : q < length s
  place_inside = let g : suc q ≤ length s = subst (λ x. place_past x ≤ length s) m h.within in omega arith

  pub place-number : get_or s q 0 ≡ 11
  place-number = subst (λ x. place_number s x ≡ 11) m h.number

module _ (s p : Str) (mark : ℕ) (n : Str) where
  going_start : (m : List ℕ) (fields : List Field) → type_fields (types_at s p) n ≡ fields → Going s p mark n m m fields
  going_start m fields e = rw (← e) (record { walked = walked_none s p; own = λ f i. i; done = λ f i. inl i })

  module _ (family : Bool) (before m : List ℕ) (at : ℕ) (g : Going s p mark n before m (body_at family s p at)) (r : Step ℕ) (step : PlacesFrom family s at r) where
    going_end : r ≡ None → Full s p m n
    going_end e = record { all = λ x h. go x h (g.done h.field h.is_field) }
      where
        nil : body_at family s p at ≡ []
        nil = step.list p ∙ ap (body_of family s p) e

        go : (x : Str) (h : Edge (types_at s p) n x) → Memᴰ h.field (body_at family s p at) ⊎ ((y : Str) → entered (types_at s p) (referenced h.field) ≡ Some y → Named s p m y) → Named s p m x
        go x h (inl i) = absurd (Memᴰ.not-nil (subst (λ (l : List Field). Memᴰ h.field l) nil i))
        go x h (inr f) = f x (is-entered (types_at s p) (referenced h.field) x h.names h.free)

    going_on : (q : ℕ) (k : Cursor) (after : List ℕ) → r ≡ Some (q, k) → FieldWalked s p mark q m after → Going s p mark n before after (body_at family s p k.at)
    going_on q k after e w = record {
      walked = walked_on s p g.walked (walked-into s p through w.walked);
      own = λ f i. g.own f (subst (λ (l : List Field). Memᴰ f l) (sym list) (Memᴰ.tail i));
      done = λ f i. done f (g.done f i);
    }
      where
        one : Field
        one = field_of p (field_at (drop q s)) (field_key_at s p k.at)

        list : body_at family s p at ≡ one ∷ body_at family s p k.at
        list = step.list p ∙ ap (body_of family s p) e

        leads : entered (types_at s p) (referenced one) ≡ target_at s p q
        leads = target_is s p q (field_key_at s p k.at)

        through : (x : Str) → Beyond s p q x → Leads (types_at s p) n x
        through x b =
            let i = entered-is (types_at s p) (referenced one) b.through (leads ∙ b.target) in
            leads-after s p
            (record { field = one; is_field = g.own one (subst (λ (l : List Field). Memᴰ one l) (sym list) (Memᴰ.head refl)); names = i.0; free = i.1 })
            b.leads

        named : (f : Field) → f ≡ one → (x : Str) → entered (types_at s p) (referenced f) ≡ Some x → Named s p after x
        named f i x h = record {
          place = q;
          field = place-number family s at r step q k e;
          marked = w.marked;
          leads = sym leads ∙ ap (λ (y : Field). entered (types_at s p) (referenced y)) (sym i) ∙ h;
        }

        rest : (f : Field) → (f ≡ one) ⊎ Memᴰ f (body_at family s p k.at) → Memᴰ f (body_at family s p k.at) ⊎ ((x : Str) → entered (types_at s p) (referenced f) ≡ Some x → Named s p after x)
        rest f (inl i) = inr (named f i)
        rest f (inr i) = inl i

        stay : (x : Str) → Named s p m x → Named s p after x
        stay x y = record { place = y.place; field = y.field; marked = marked-stays s p w.walked y.place y.marked; leads = y.leads }

        done : (f : Field) → Memᴰ f (body_at family s p at) ⊎ ((x : Str) → entered (types_at s p) (referenced f) ≡ Some x → Named s p m x)
            → Memᴰ f (body_at family s p k.at) ⊎ ((x : Str) → entered (types_at s p) (referenced f) ≡ Some x → Named s p after x)
        done f (inl i) = rest f (Memᴰ.cases_cons (subst (λ (l : List Field). Memᴰ f l) list i))
        done f (inr h) = inr (λ x e. stay x (h x e))

-- a type is marked at q, and then its fields are walked
module _ (s p : Str) (mark : ℕ) (n : Str) (q : ℕ) (stands : type_place s p n ≡ q) (number : get_or s q 0 ≡ 11 → ⊥) (before after : List ℕ) (room : q < length before) (clear : get_or before q 0 ≡ 0)
    (w : Walked s p mark (Leads (types_at s p) n) (set before q 4) after) (full : (k : Str) → type_place s p k ≡ q → Full s p after k) where
  -- no field and no other type is marked there
  marked-once : (x : ℕ) → x ≡ q → get_or (set before q 4) x 0 ≡ 0 → ⊥
  marked-once x y z = let h : get_or (set before q 4) x 0 ≡ 4 = ap (λ (i : ℕ). get_or (set before q 4) i 0) y ∙ get_or-set_same before q 4 0 room in omega arith

  type-each : (x : ℕ) (v : Bool) → eqb x q ≡ v → Change s p mark (Leads (types_at s p) n) (set before q 4) after x → Change s p mark (Leads (types_at s p) n) before after x
  type-each x true e (as_it_was g) =
      let y = eqb-true x q e in
      a-type (record {
        was = ap (λ (i : ℕ). get_or before i 0) y ∙ clear;
        is = g ∙ ap (λ (i : ℕ). get_or (set before q 4) i 0) y ∙ get_or-set_same before q 4 0 room;
        other = λ z. number (ap (λ (i : ℕ). get_or s i 0) (sym y) ∙ z);
      })
  type-each x true e (a-field f) = absurd (marked-once x (eqb-true x q e) f.was)
  type-each x true e (a-type f) = absurd (marked-once x (eqb-true x q e) f.was)
  type-each x false e (as_it_was g) = as_it_was (g ∙ get_or-set_other before q x 4 0 (eqb-false x q e))
  type-each x false e (a-field f) = a-field (record { was = sym (get_or-set_other before q x 4 0 (eqb-false x q e)) ∙ f.was; is = f.is; into = f.into })
  type-each x false e (a-type f) = a-type (record { was = sym (get_or-set_other before q x 4 0 (eqb-false x q e)) ∙ f.was; is = f.is; other = f.other })

  type-closed : (x : ℕ) → get_or s x 0 ≡ 11 → (get_or (set before q 4) x 0 ≡ 0 → ⊥) ⊎ ((k : Str) → target_at s p x ≡ Some k → Visited s p after k)
      → (get_or before x 0 ≡ 0 → ⊥) ⊎ ((k : Str) → target_at s p x ≡ Some k → Visited s p after k)
  type-closed x f (inl h) = inl (λ z. h (get_or-set_other before q x 4 0 (λ e. number (ap (λ (i : ℕ). get_or s i 0) (sym e) ∙ f)) ∙ z))
  type-closed x f (inr g) = inr g

  type-filled : (k : Str) (v : Bool) → eqb (type_place s p k) q ≡ v → Visited s p (set before q 4) k ⊎ Full s p after k → Visited s p before k ⊎ Full s p after k
  type-filled k true e h = inr (full k (eqb-true (type_place s p k) q e))
  type-filled k false e (inl h) = inl (record { marked = λ l z. h.marked l (get_or-set_other before q (type_place s p k) 4 0 (eqb-false (type_place s p k) q e) ∙ z) })
  type-filled k false e (inr f) = inr f

  type-walked : TypeWalked s p mark n before after
  type-walked = record {
    walked = record {
      each = λ x. type-each x (eqb x q) refl (w.each x);
      closed = λ x f h. type-closed x f (w.closed x f h);
      filled = λ k h. type-filled k (eqb (type_place s p k) q) refl (w.filled k h);
    };
    visited = record { marked = λ l z. marked-stays s p w (type_place s p n) (marked-once (type_place s p n) stands) z };
  }

-- what is known of the place of a type, and of every name whose type stands there
module _ (s p n : Str) (b : Body) (is : IsBody s p n b) (l : b.place < length s) where
  declared : type_place s p n < length s
  declared = subst (λ (i : ℕ). i < length s) is.stands l

  body-number : get_or s b.place 0 ≡ 11 → ⊥
  body-number z = type-other s p n declared (ap (λ (i : ℕ). get_or s i 0) (sym is.stands) ∙ z)

  body-fields : (k : Str) → type_place s p k ≡ b.place → type_fields (types_at s p) k ≡ body_at b.family s p b.from.at
  body-fields k e = same-type s p n k declared (e ∙ is.stands) ∙ is.fields

-- the same by an index
module _ (s p : Str) (mark : ℕ) (x : List ℕ) where
  pub type-seen : (b : Body) (m : List ℕ) (v : Bool) → IsVisited s m b.place v → v ≡ true → Led s p x m m (BodyWalked s p mark b m m)
  type-seen b m v i e = record {
    same_length = refl;
    fewer = omega arith;
    so = λ j. record { of = λ n h. record { walked = walked_none s p; visited = record { marked = subst (λ (q : ℕ). q < length s → get_or m q 0 ≡ 0 → ⊥) h.stands (i.yes e) } } };
  }

  pub type-starts : (family : Bool) (from : ℕ) (m : List ℕ) → Led s p x m m (BodyGoing s p mark family from m m from)
  type-starts family from m = record { same_length = refl; fewer = omega arith; so = λ i. record { of = λ n h. going_start s p mark n m _ h } }

  pub type-ends : (b : Body) (before m : List ℕ) (at : ℕ) (r : Step ℕ) (v : Bool) → Ready s before mark → IsVisited s before b.place v → v ≡ false
      → Led s p x (set before b.place 4) m (BodyGoing s p mark b.family b.from.at (set before b.place 4) m at) → PlacesFrom b.family s at r → r ≡ None
      → Led s p x before m (BodyWalked s p mark b before m)
  type-ends b before m at r v ready i h g step e = record {
    same_length = g.same_length ∙ length-set before b.place 4;
    fewer = let f = g.fewer in let u = unseen-less before b.place 4 (omega arith) in omega arith;
    so = λ j. record {
      of = λ n is.
          type-walked s p mark n b.place (sym is.stands) (body-number s p n b is (i.inside h)) before m (visit-inside s before mark b.place v ready i h) (i.free h)
          ((g.so j).of n is.fields).walked
          (λ k f. going_end s p mark k b.family (set before b.place 4) m at ((g.so j).of k (body-fields s p n b is (i.inside h) k f)) r step e);
    };
  }

  module _ (family : Bool) (from : ℕ) (before m : List ℕ) (at : ℕ) (g : Led s p x before m (BodyGoing s p mark family from before m at)) (r : Step ℕ) (step : PlacesFrom family s at r) where
    pub type-goes : (q : ℕ) (k : Cursor) (after : List ℕ) → r ≡ Some (q, k) → Led s p x m after (FieldWalked s p mark q m after) → Led s p x before after (BodyGoing s p mark family from before after k.at)
    type-goes q k after e w = record {
      same_length = w.same_length ∙ g.same_length;
      fewer = let a = w.fewer in let c = g.fewer in omega arith;
      so = λ i. record { of = λ n h. going_on s p mark n family before m at ((g.so i).of n h) r step q k after e (w.so i) };
    }
