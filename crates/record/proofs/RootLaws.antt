-- The roots' walks, one after the other. Once every type that was visited is full, whatever a root leads to is named by a marked field; and a
-- mark is set only on what its root leads to. Assumes nothing.
use Rattle.std.specs.Prelude.{Some, None}
use mathlib.Core.Path.{◌≡◌, refl, sym, ap, subst, ◌∙◌}
use mathlib.Core.List.Memᴰ
use mathlib.Core.List.{List, Memᴰ}
use mathlib.Core.Bool.{Bool, true, false}
use mathlib.Core.Logic.{◌⊎◌, inl, inr}
use Prim.Native.Nat.{ℕ, suc, ◌≤◌, ◌<◌}
use native.Mathlib.Omega.{arith}
use lib.ListN.{length, get_or}
use lib.Dec.{ltb}
use borrow.Author.Tests.{ltb-true, ltb-false}
use Rattle.record.specs.Base.{Str, bytes}
use Rattle.record.specs.Stretch.{text_of}
use Rattle.record.specs.Schema.{Field, Struct}
use Rattle.record.specs.Lists.{struct_of}
use Rattle.record.specs.Steps.{structs_at, fields_at, struct_found}
use Rattle.record.specs.Owner.{struct_in_slot, Leads, here, along}
use Rattle.record.specs.Index.{Indexed}
use Rattle.record.specs.References.{types_at}
use Rattle.record.specs.Marks.{target_at, type_place, IsBody, Clear, Visited, Full, Change, as_it_was, a-field, a-type, Led, Walked, TypeWalked, BodyWalked}
use Rattle.record.specs.Ownership.{Through, Claimed, RootWalked, Within, Resolved, OwnerMarks, RootsMarked, OwnersMarked}
use Rattle.record.specs.Versioned.{InSlot}
use Rattle.record.specs.declared.versioned.Versioned.{Versioned}
use Rattle.record.specs.declared.command as D
use Rattle.record.specs.declared.command.Cursor.{Cursor}
use Rattle.record.specs.declared.marks.Body.{Body}
use Rattle.record.proofs.PlaceLaws.{type-none}
use Rattle.record.proofs.MarkLaws.{marked-stays, visited-stays, full-stays, walked_none, walked-into}
use Rattle.record.proofs.Basics.{none≢some}
use Rattle.record.specs.Commands.{Step}

-- a root's walk ----------------------------------------------------------------------------------------------------------

module _ (s p slot : Str) (mark : ℕ) (r : Step D.Struct.Struct) (i : InSlot s p slot r) (m : List ℕ) where
  none-claimed : r ≡ None → Claimed s p mark slot m m
  none-claimed e = record { walked = walked_none s p; visited = λ root f. absurd (none≢some (sym (i.struct ∙ ap (struct_found s p) e) ∙ f)) }

  some-claimed : (root : D.Struct.Struct) (k : Cursor) (w : Str) (after : List ℕ) → r ≡ Some (root, k) → w ≡ text_of p root.name → TypeWalked s p mark w m after → Claimed s p mark slot m after
  some-claimed root k w after e h t = record {
    walked = walked-into s p (λ n l. record { root = there; fills = fills; leads = subst (λ (x : Str). Leads (types_at s p) x n) h l }) t.walked;
    visited = λ x f. subst (Visited s p after) (h ∙ ap (λ (y : Struct). y.name) (same x f)) t.visited;
  }
    where
      there : Struct
      there = struct_of p root (fields_at s p k.at)

      fills : struct_in_slot slot (structs_at s p 0) ≡ Some there
      fills = i.struct ∙ ap (struct_found s p) e

      same : (x : Struct) → struct_in_slot slot (structs_at s p 0) ≡ Some x → there ≡ x
      same x f = let g : Some there ≡ Some x = sym fills ∙ f in cc

module _ (s p : Str) (x : List ℕ) (mark : ℕ) (r : Step D.Struct.Struct) (m : List ℕ) where
  pub root_none : r ≡ None → RootWalked s p x mark r m m
  root_none e = record { by = λ slot i j. none-claimed s p slot mark r i m e }

  pub root-walked : (root : D.Struct.Struct) (k : Cursor) (w : Str) (b : Body) (after : List ℕ) → r ≡ Some (root, k) → w ≡ text_of p root.name → (Indexed s p x → IsBody s p w b) → Led s p x m after (BodyWalked s p mark b m after) → RootWalked s p x mark r m after
  root-walked root k w b after e h f t = record { by = λ slot i j. some-claimed s p slot mark r i m root k w after e h ((t.so j).of w (f j)) }

pub ruleset root_laws = (root_none, root-walked)

-- the roots one after the other ------------------------------------------------------------------------------------------

-- a field's mark is at most k; where it is higher it is that of a type that was visited
data Most (s : Str) (m : List ℕ) (k q : ℕ) : Type 0 where
  at_most : get_or m q 0 ≤ k → Most s m k q
  of-type : get_or m q 0 ≡ 4 → (get_or s q 0 ≡ 11 → ⊥) → Most s m k q

-- after the first k roots: what a marked field leads to was visited, what was visited is full, and no field's mark is above k
record Settled (s p : Str) (m : List ℕ) (k : ℕ) : Type 0 where
  closed : (q : ℕ) → get_or s q 0 ≡ 11 → (get_or m q 0 ≡ 0 → ⊥) → (n : Str) → target_at s p q ≡ Some n → Visited s p m n
  filled : (n : Str) → Visited s p m n → Full s p m n
  most : (q : ℕ) → Most s m k q

module _ (s p : Str) where
  settled-none : {m : List ℕ} → Clear m → Settled s p m 0
  settled-none {m} c = record {
    closed = λ q f h. absurd (h (c.none q));
    filled = λ n v. go n v (ltb (type_place s p n) (length s)) refl;
    most = λ q. at_most (let e = c.none q in omega arith);
  }
    where
      -- a type that nobody declares has no fields
      go : (n : Str) → Visited s p m n → (b : Bool) → ltb (type_place s p n) (length s) ≡ b → Full s p m n
      go n v true e = absurd (v.marked (ltb-true (type_place s p n) (length s) e) (c.none (type_place s p n)))
      go n v false e =
          let nil = type-none s p n (ltb-false (type_place s p n) (length s) e) in
          record { all = λ x h. absurd (Memᴰ.not-nil (subst (λ (l : List Field). Memᴰ h.field l) nil h.is_field)) }

  -- where references lead from a full name, all is full
  full-along : {m : List ℕ} {k : ℕ} → Settled s p m k → {a b : Str} → Full s p m a → Leads (types_at s p) a b → Full s p m b
  full-along g f (here e) = subst (Full s p _) e f
  full-along g f (along l e) = let n = (full-along g f l).all _ e in g.filled _ (g.closed n.place n.field n.marked _ n.leads)

  module _ {m after : List ℕ} {k : ℕ} {slot : Str} (g : Settled s p m k) (c : Claimed s p (suc k) slot m after) where
    settled-next : Settled s p after (suc k)
    settled-next = record {
      closed = λ q f h. closed q f (c.walked.closed q f h);
      filled = λ n v. filled n (c.walked.filled n v);
      most = λ q. most q (c.walked.each q) (g.most q);
    }
      where
        closed : (q : ℕ) → get_or s q 0 ≡ 11 → (get_or m q 0 ≡ 0 → ⊥) ⊎ ((n : Str) → target_at s p q ≡ Some n → Visited s p after n) → (n : Str) → target_at s p q ≡ Some n → Visited s p after n
        closed q f (inl h) n t = visited-stays s p c.walked n (g.closed q f h n t)
        closed q f (inr v) n t = v n t

        filled : (n : Str) → Visited s p m n ⊎ Full s p after n → Full s p after n
        filled n (inl v) = full-stays s p c.walked n (g.filled n v)
        filled n (inr f) = f

        most : (q : ℕ) → Change s p (suc k) (Through s p slot) m after q → Most s m k q → Most s after (suc k) q
        most q (as_it_was e) (at_most l) = at_most (omega arith)
        most q (as_it_was e) (of-type z o) = of-type (e ∙ z) o
        most q (a-field f) l = at_most (let e = f.is in omega arith)
        most q (a-type f) l = of-type f.is f.other

    resolved-next : suc k < 4 → Resolved s p after (suc k) slot
    resolved-next low = record {
      sound = λ q n e t. sound q n e t (c.walked.each q) (g.most q);
      complete = λ x n t e.
          let f = (full-along settled-next (settled-next.filled _ (c.visited t.root t.fills)) t.leads).all n e in
          record { place = f.place; leads = f.leads; marked = f.marked; most = field-most f.place f.field (settled-next.most f.place) };
    }
      where
        sound : (q : ℕ) (n : Str) → get_or after q 0 ≡ suc k → target_at s p q ≡ Some n → Change s p (suc k) (Through s p slot) m after q → Most s m k q → Through s p slot n
        sound q n e t (as_it_was h) (at_most l) = absurd (omega arith)
        sound q n e t (as_it_was h) (of-type z o) = absurd (omega arith)
        sound q n e t (a-field f) l = f.into n t
        sound q n e t (a-type f) l = absurd (let h = f.is in omega arith)

        field-most : (q : ℕ) → get_or s q 0 ≡ 11 → Most s after (suc k) q → get_or after q 0 ≤ suc k
        field-most q f (at_most l) = l
        field-most q f (of-type z o) = absurd (o f)

  -- a later root leaves it so
  resolved-stays : {m after : List ℕ} {j k : ℕ} {slot : Str} {R : Str → Type 0} → j < k → j < 4 → Walked s p k R m after → Resolved s p m j slot → Resolved s p after j slot
  resolved-stays {m} {after} {j} {k} {slot} {R} l low w r = record {
    sound = λ q n e t. sound q n e t (w.each q);
    complete = λ x n t e. let f = r.complete x n t e in complete n f (w.each f.place);
  }
    where
      sound : (q : ℕ) (n : Str) → get_or after q 0 ≡ j → target_at s p q ≡ Some n → Change s p k R m after q → Through s p slot n
      sound q n e t (as_it_was h) = r.sound q n (sym h ∙ e) t
      sound q n e t (a-field f) = absurd (let h = f.is in omega arith)
      sound q n e t (a-type f) = absurd (let h = f.is in omega arith)

      complete : (n : Str) (f : Within s p m j n) → Change s p k R m after f.place → Within s p after j n
      complete n f (as_it_was h) = record { place = f.place; leads = f.leads; marked = marked-stays s p w f.place f.marked; most = let g = f.most in omega arith }
      complete n f (a-field g) = absurd (f.marked g.was)
      complete n f (a-type g) = absurd (f.marked g.was)

  pub marks-short : (roots : Versioned) (x before : List ℕ) → length before < length s → OwnersMarked s p roots x before before
  marks-short roots x before h = record { within = λ l. absurd (omega arith); beyond = λ l. refl }

  pub marks-filled : (roots : Versioned) (x before after : List ℕ) → length s ≤ length before → RootsMarked s p roots x after → OwnersMarked s p roots x before after
  marks-filled roots x before after h marks = record { within = λ l. marks.by; beyond = λ l. absurd (omega arith) }

  three-claimed : (a b c d : List ℕ) → Clear a → Claimed s p 1 (bytes "metadata") a b → Claimed s p 2 (bytes "runtime") b c → Claimed s p 3 (bytes "info") c d → OwnerMarks s p d
  three-claimed a b c d clear one two three = record {
    metadata =
        resolved-stays (omega arith) (omega arith) three.walked
        (resolved-stays (omega arith) (omega arith) two.walked (resolved-next (settled-none clear) one (omega arith)));
    runtime = resolved-stays (omega arith) (omega arith) three.walked (resolved-next first two (omega arith));
    info = resolved-next second three (omega arith);
  }
    where
      first : Settled s p b 1
      first = settled-next (settled-none clear) one

      second : Settled s p c 2
      second = settled-next first two

  pub roots-marked : (roots : Versioned) (x a b c d : List ℕ) → Clear a → RootWalked s p x 1 roots.metadata a b → RootWalked s p x 2 roots.runtime b c → RootWalked s p x 3 roots.info c d → RootsMarked s p roots x d
  roots-marked roots x a b c d clear first second third = record {
    by = λ slots i. three-claimed a b c d clear (first.by _ slots.metadata i) (second.by _ slots.runtime i) (third.by _ slots.info i);
  }
