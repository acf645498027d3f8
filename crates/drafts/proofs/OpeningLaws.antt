-- Draft and copy read: the cases of every call. Assumes nothing.
use Rattle.std.specs.Prelude.{Ok, Err, Option, Result, ⊤}
use mathlib.Core.Path.{◌≡◌, sym, ap, ap₂, subst, ◌∙◌}
use mathlib.Core.List.{List, [], ◌∷◌}
use Prim.Native.Nat.{ℕ}
use Rattle.record.specs.Base.{Str}
use Rattle.record.specs.Scalars.{Scalar, scalars_of, built_in, built_in_rows}
use Rattle.record.specs.Reading.{Rec, rec, schema_of, read, refuse, reading}
use Rattle.record.specs.Read.{reading_of, Read}
use Rattle.record.specs.declared.refusal.Side.TheVariants.{Released}
use Rattle.record.specs.declared.refusal.Refusal.{Refusal}
use Rattle.record.proofs.ScalarLaws.{built_in-rows}
use Rattle.record.proofs.Accepted.{accepting}
use Rattle.drafts.specs.Parts.{part, after_part, held_rec, read_held}
use Rattle.drafts.specs.Code.{HeldRead}
use Rattle.drafts.specs.Count.{count_changed}
use Rattle.drafts.specs.Counted.{Legible}
use Rattle.drafts.specs.Edits.{refused, done, edited, edit, counted, count}
use Rattle.drafts.specs.Found.{TypeAt}
use Rattle.drafts.specs.Shelf.{brought_back}
use Rattle.drafts.specs.Answering.{edited_as, Says, Both, Opens, Opened}
use Rattle.drafts.specs.declared.saying.DraftAnswer.{DraftAnswer}

module _ (w : List Scalar) (b s p : Str) (o : Result ⊤ (Refusal × ℕ)) (h : HeldRead w b o) where
  pub open-draft : (n : Refusal) (q : ℕ) → o ≡ Err (n, q) → Opens w b (rec s p w) (Err (0, n, q))
  unfolding edit edited count counted brought_back
  open-draft n q e =
      let r : read_held w b ≡ refuse n q = sym h.answer ∙ ap (reading_of (held_rec w b)) e in
      record { edits = λ k x. rw r; counts = rw r; backs = λ d. rw r }

  module _ (g : o ≡ Ok tt) (v : Result ⊤ (Refusal × ℕ)) (i : Read Released (rec s p w) v) where
    held-read : read_held w b ≡ read (schema_of (held_rec w b))
    held-read = sym h.answer ∙ ap (reading_of (held_rec w b)) g

    pub open-copy : (n : Refusal) (q : ℕ) → v ≡ Err (n, q) → Opens w b (rec s p w) (Err (1, n, q))
    unfolding edit edited count counted brought_back
    open-copy n q e =
        let r : reading Released (rec s p w) ≡ refuse n q = sym i.answer ∙ ap (reading_of (rec s p w)) e in
        record { edits = λ k x. rw (held-read, r); counts = rw (held-read, r); backs = λ d. rw (held-read, r) }

    pub open-both : v ≡ Ok tt → Opens w b (rec s p w) (Ok tt)
    open-both x =
        let c : reading Released (rec s p w) ≡ read (schema_of (rec s p w)) = sym i.answer ∙ ap (reading_of (rec s p w)) x in
        let a = accepting Released (rec s p w) (schema_of (rec s p w)) c in
        record {
          now = held-read;
          was = c;
          held = record { short = h.short g; exact = h.exact g };
          kept = record { short = a.stream-short; exact = i.exact x };
          small = h.small g;
        }

-- a draft cut into its parts
module _ (w : List Scalar) (b x s p : Str) (f : x ≡ after_part b) (i : s ≡ part b) (j : p ≡ part x) where
  cut-is : rec s p w ≡ held_rec w b
  unfolding held_rec
  cut-is = ap₂ (λ (y z : Str). rec y z w) i (j ∙ ap part f)

  pub cut-legible : Legible (held_rec w b) → Legible (rec s p w)
  cut-legible l = subst Legible (sym cut-is) l

  pub cut-count : (copy : Rec) (n : ℕ) → n ≡ count_changed (schema_of (rec s p w)) (schema_of copy) → n ≡ count_changed (schema_of (held_rec w b)) (schema_of copy)
  cut-count copy n e = e ∙ ap (λ (r : Rec). count_changed (schema_of r) (schema_of copy)) cut-is

pub cut-found : (b x s p n : Str) → x ≡ after_part b → s ≡ part b → p ≡ part x → (r : Option (ℕ × ℕ)) → TypeAt s p n r → TypeAt (part b) (part (after_part b)) n r
cut-found b x s p n f i j r t = subst (λ (y : Str). TypeAt (part b) y n r) (j ∙ ap part f) (subst (λ (y : Str). TypeAt y p n r) i t)

-- the count found afresh
module _ (w : List Scalar) (b : Str) (copy : Rec) (o : Opened) (h : Opens w b copy o) (r : DraftAnswer) where
  opened_both : o ≡ Ok tt → Both w b copy
  opened_both g = subst (Opens w b copy) g h

  pub count-shut : (side : ℕ) (n : Refusal) (p : ℕ) → o ≡ Err (side, n, p) → Says r (refused side n p 0) → edited_as r b ≡ count w copy b
  count-shut side n p e a = a.is b ∙ sym (subst (Opens w b copy) e h).counts

  pub count-open : (k : ℕ) → o ≡ Ok tt → k ≡ count_changed (schema_of (held_rec w b)) (schema_of copy) → Says r (done k) → edited_as r b ≡ count w copy b
  unfolding count counted
  count-open k g e a = let x = opened_both g in a.is b ∙ rw (x.now, x.was, e)

pub open-held : (w : List Scalar) (b : Str) (copy : Rec) (o : Opened) → Opens w b copy o → o ≡ Ok tt → Legible (held_rec w b)
open-held w b copy o h g = (subst (Opens w b copy) g h).held

pub open_kept : (w : List Scalar) (b : Str) (copy : Rec) (o : Opened) → Opens w b copy o → o ≡ Ok tt → Legible copy
open_kept w b copy o h g = (subst (Opens w b copy) g h).kept

-- under the built-in rows
pub count-built : (rows b s p : Str) (r : DraftAnswer) → rows ≡ built_in_rows → edited_as r b ≡ count (scalars_of rows) (rec s p (scalars_of rows)) b → edited_as r b ≡ count built_in (rec s p built_in) b
count-built rows b s p r e h = h ∙ ap (λ (w : List Scalar). count w (rec s p w) b) (ap scalars_of e ∙ built_in-rows)
