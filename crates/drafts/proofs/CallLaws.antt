-- The calls of a shelf: the code's answers are the definition's. Assumes nothing.
use Rattle.std.specs.Prelude.{Ok, Err, Some, None, Result, ⊤}
use mathlib.Core.Path.{◌≡◌, refl, sym, ap, ap₂, ◌∙◌, subst}
use mathlib.Core.List.{List, [], ◌∷◌}
use mathlib.Core.Bool.{Bool, true, false, ◌&&◌, ◌||◌, cond}
use Prim.Native.Nat.{ℕ, suc, ◌≤◌, ◌<◌}
use native.Mathlib.Omega.{arith}
use lib.ListN.{length, get_or, take, drop}
use lib.Dec.{ltb}
use borrow.Author.Tests.{lt-ltb, le-ltb}
use Rattle.record.specs.Base.{Str, any, find}
use Rattle.record.specs.Scalars.{Scalar, scalars_of, built_in, built_in_rows}
use Rattle.record.specs.Reading.{Rec, rec, schema_of, read, refuse}
use Rattle.record.specs.Read.{reading_of}
use Rattle.record.specs.declared.refusal.Refusal.{Refusal}
use Rattle.record.proofs.ScalarLaws.{built_in-rows}
use Rattle.drafts.specs.Parts.{part, after_part, held_rec, read_held, parts_of}
use Rattle.drafts.specs.Code.{HeldRead}
use Rattle.drafts.specs.Edits.{Edited, refused, declined, settled}
use Rattle.drafts.specs.Answering.{edited_as, Says, Opens, Opened}
use Rattle.drafts.specs.Shelf.{Row, is_free, is_named, good_name, row_of, forged, bytes_of, shelve, shelved, has_row, set_read, set_draft, brought_back, brought_from, back_from, back_draft}
use Rattle.drafts.specs.Shelving.{row_at, rows_of, first_of, row_for, shelved_as}
use Rattle.drafts.specs.Holding.{Short, Settable}
use Rattle.drafts.specs.declared.saying.DraftAnswer.{DraftAnswer}
use Rattle.drafts.specs.declared.shelved.Shelf.{Shelf}
use Rattle.drafts.specs.declared.shelved.ShelfAnswer.{ShelfAnswer}
use Rattle.drafts.proofs.RowLaws.{rows_long, rows_at, first_any}

-- an answer with its shelf
abbrev pub answered : DraftAnswer → Shelf → ShelfAnswer
answered d s = record { answer = d.answer; changed = d.changed; shelf = s }

with-is : (d : DraftAnswer) (s : Shelf) (r : ShelfAnswer) (f : Str → Edited) (b : Str) → Says d f → r ≡ answered d s → shelved_as r b ≡ shelved (f b) (rows_of s)
with-is d s r f b a e = ap (λ (x : ShelfAnswer). shelved_as x b) e ∙ ap (λ (x : Edited). shelved x (rows_of s)) (a.is b)

-- setting -------------------------------------------------------------------------------------------------------------------

has-row : (n : Str) (rows : List Row) → length rows ≡ 8 → has_row n rows ≡ ltb (row_for n rows) 8
unfolding has_row row_for
has-row n rows l = go (good_name n) (any (is_named n) rows) refl
  where
    named : any (is_named n) rows ≡ ltb (first_of (is_named n) rows) 8
    named = first_any (is_named n) rows ∙ ap (ltb (first_of (is_named n) rows)) l

    free : any is_free rows ≡ ltb (first_of is_free rows) 8
    free = first_any is_free rows ∙ ap (ltb (first_of is_free rows)) l

    go : (g t : Bool) → any (is_named n) rows ≡ t → (g && (t || any is_free rows)) ≡ ltb (cond g (cond t (first_of (is_named n) rows) (first_of is_free rows)) 8) 8
    go true true e = sym e ∙ named
    go true false e = free
    go false t e = sym (le-ltb 8 8 (omega arith))

module _ (w : List Scalar) (s : Shelf) (n draft held : Str) (row : ℕ) (k : row ≡ row_for n (rows_of s)) where
  is_row : has_row n (rows_of s) ≡ ltb row 8
  is_row = has-row n (rows_of s) (rows_long s) ∙ ap (λ (i : ℕ). ltb i 8) (sym k)

  pub set-no-row : (d : DraftAnswer) (r : ShelfAnswer) → 8 ≤ row → Says d (declined 57 0) → r ≡ answered d s → shelved_as r held ≡ set_draft w (rows_of s) n draft held
  unfolding set_draft
  set-no-row d r h a e = with-is d s r (declined 57 0) held a e ∙ rw (is_row, le-ltb row 8 h)

  module _ (h : row < 8) (b : Bool) (f : b ≡ forged (length held) (rows_of s)) where
    pub set-forged : (d : DraftAnswer) (r : ShelfAnswer) → b ≡ true → Says d (declined 58 0) → r ≡ answered d s → shelved_as r held ≡ set_draft w (rows_of s) n draft held
    unfolding set_draft
    set-forged d r g a e = with-is d s r (declined 58 0) held a e ∙ rw (is_row, lt-ltb row 8 h, ← f, g)

    module _ (g : b ≡ false) (o : Result ⊤ (Refusal × ℕ)) (i : HeldRead w draft o) where
      read_is : set_draft w (rows_of s) n draft held ≡ set_read n (held_rec w draft) (rows_of s) held (read_held w draft)
      unfolding set_draft
      read_is = rw (is_row, lt-ltb row 8 h, ← f, g)

      pub set-refused : (m : Refusal) (p : ℕ) (d : DraftAnswer) (r : ShelfAnswer) → o ≡ Err (m, p) → Says d (refused 0 m p 0) → r ≡ answered d s → shelved_as r held ≡ set_draft w (rows_of s) n draft held
      unfolding set_read
      set-refused m p d r q a e =
          let z : read_held w draft ≡ refuse m p = sym i.answer ∙ ap (reading_of (held_rec w draft)) q in
          with-is d s r (refused 0 m p 0) held a e ∙ sym (read_is ∙ rw z)

      module _ (q : o ≡ Ok tt) (x st p : Str) (u : x ≡ after_part draft) (v : st ≡ part draft) (y : p ≡ part x) where
        pub set-able : Settable s row n held × Short st p
        unfolding held_rec
        set-able = (
          record { row_is = k; row_in = h; valid = sym f ∙ g },
          record {
            short = subst (λ (z : Str). length z ≤ 32768) (sym v) (i.short q);
            small = subst (λ (z : Str). length z ≤ 16384) (sym (y ∙ ap part u)) (i.small q);
          },
        )

        pub set-done : (after : Str) (r : ShelfAnswer) → shelved_as r after ≡ shelve n (parts_of (rec st p [])) (rows_of s) held → shelved_as r after ≡ set_draft w (rows_of s) n draft held
        unfolding set_read held_rec parts_of
        set-done after r e =
            let z : read_held w draft ≡ read (schema_of (held_rec w draft)) = sym i.answer ∙ ap (reading_of (held_rec w draft)) q in
            e ∙ ap₂ (λ (a b : Str). shelve n (parts_of (rec a b [])) (rows_of s) held) v (y ∙ ap part u) ∙ sym (read_is ∙ rw z)

-- coming back ---------------------------------------------------------------------------------------------------------------

module _ (w : List Scalar) (s : Shelf) (b draft : Str) (copy : Rec) (o : Opened) (h : Opens w b copy o) where
  pub back-shut : (side : ℕ) (n : Refusal) (p : ℕ) (d : DraftAnswer) (r : ShelfAnswer) → o ≡ Err (side, n, p) → Says d (refused side n p 0) → r ≡ answered d s
      → shelved_as r draft ≡ shelved (brought_from w copy draft b) (rows_of s)
  back-shut side n p d r g a e =
      with-is d s r (refused side n p 0) draft a e ∙ ap (λ (x : Edited). shelved x (rows_of s)) (sym ((subst (Opens w b copy) g h).backs draft))

  pub back-open : (x st p after : Str) (d : DraftAnswer) (r : ShelfAnswer) → o ≡ Ok tt → x ≡ after_part b → st ≡ part b → p ≡ part x
      → edited_as d after ≡ settled 0 draft (schema_of copy) (rec st p w) (read (schema_of (rec st p w))) → r ≡ answered d s
      → shelved_as r after ≡ shelved (brought_from w copy draft b) (rows_of s)
  unfolding brought_back held_rec
  back-open x st p after d r g u v y a e =
      let k = subst (Opens w b copy) g h in
      let z : rec st p w ≡ held_rec w b = ap₂ (λ (i j : Str). rec i j w) v (y ∙ ap part u) in
      ap (λ (i : ShelfAnswer). shelved_as i after) e
      ∙ ap (λ (i : Edited). shelved i (rows_of s)) (a ∙ ap (λ (i : Rec). settled 0 draft (schema_of copy) i (read (schema_of i))) z ∙ rw (k.now, k.was))

-- the first row that passes a test, as the code finds it
find_none : (q : Row → Bool) (l : List Row) → length l ≤ first_of q l → find q l ≡ None
unfolding find first_of
find_none q [] h = refl
find_none q (r ∷ l) h = go (q r) h (find_none q l)
  where
    go : (t : Bool) → suc (length l) ≤ cond t 0 (suc (first_of q l)) → (length l ≤ first_of q l → find q l ≡ None) → cond t (Some r) (find q l) ≡ None
    go true h ih = absurd (omega arith)
    go false h ih = ih (omega arith)

find_at : (q : Row → Bool) (d : Row) (l : List Row) → first_of q l < length l → find q l ≡ Some (get_or l (first_of q l) d)
unfolding find first_of
find_at q d [] h = absurd (omega arith)
find_at q d (r ∷ l) h = go (q r) h (find_at q d l)
  where
    go : (t : Bool) → cond t 0 (suc (first_of q l)) < suc (length l) → (first_of q l < length l → find q l ≡ Some (get_or l (first_of q l) d)) → cond t (Some r) (find q l) ≡ Some (get_or (r ∷ l) (cond t 0 (suc (first_of q l))) d)
    go true h ih = refl
    go false h ih = ih (omega arith)

module _ (w : List Scalar) (s : Shelf) (n draft held : Str) (copy : Rec) (b : Bool) (f : b ≡ forged (length held) (rows_of s)) where
  pub back-forged : (d : DraftAnswer) (r : ShelfAnswer) → b ≡ true → Says d (declined 58 0) → r ≡ answered d s → shelved_as r draft ≡ back_draft w copy (rows_of s) n draft held
  unfolding back_draft
  back-forged d r g a e = with-is d s r (declined 58 0) draft a e ∙ rw (← f, g)

  module _ (g : b ≡ false) (row : ℕ) (k : row ≡ first_of (is_named n) (rows_of s)) where
    pub back_none : (d : DraftAnswer) (r : ShelfAnswer) → 8 ≤ row → Says d (declined 58 0) → r ≡ answered d s → shelved_as r draft ≡ back_draft w copy (rows_of s) n draft held
    unfolding back_draft back_from row_of
    back_none d r h a e =
        let l = rows_long s in
        with-is d s r (declined 58 0) draft a e ∙ rw (← f, g, find_none (is_named n) (rows_of s) (omega arith))

    pub back_found : (x y after : Str) (r : ShelfAnswer) → row < 8 → x ≡ drop (get_or s.starts row 0) held → y ≡ take (get_or s.lens row 0) x
        → shelved_as r after ≡ shelved (brought_from w copy draft y) (rows_of s) → shelved_as r after ≡ back_draft w copy (rows_of s) n draft held
    unfolding back_draft back_from row_of bytes_of
    back_found x y after r h u v e =
        let l = rows_long s in
        let i : find (is_named n) (rows_of s) ≡ Some (row_at s row) =
        find_at (is_named n) (row_at s row) (rows_of s) (omega arith) ∙ ap Some (ap (λ (j : ℕ). get_or (rows_of s) j (row_at s row)) (sym k) ∙ rows_at s row (row_at s row) h) in
        let z : y ≡ take (get_or s.lens row 0) (drop (get_or s.starts row 0) held) = v ∙ ap (take (get_or s.lens row 0)) u in
        e ∙ ap (λ (j : Str). shelved (brought_from w copy draft j) (rows_of s)) z ∙ rw (← f, g, i)

-- under the built-in rows -----------------------------------------------------------------------------------------------------

pub set-built : (rows : Str) (s : Shelf) (n draft held x : Str) (r : ShelfAnswer) → rows ≡ built_in_rows → shelved_as r x ≡ set_draft (scalars_of rows) (rows_of s) n draft held → shelved_as r x ≡ set_draft built_in (rows_of s) n draft held
set-built rows s n draft held x r g h = h ∙ ap (λ (w : List Scalar). set_draft w (rows_of s) n draft held) (ap scalars_of g ∙ built_in-rows)

pub back-built : (rows : Str) (s : Shelf) (n draft held past old x : Str) (r : ShelfAnswer) → rows ≡ built_in_rows → shelved_as r x ≡ back_draft (scalars_of rows) (rec past old (scalars_of rows)) (rows_of s) n draft held
    → shelved_as r x ≡ back_draft built_in (rec past old built_in) (rows_of s) n draft held
back-built rows s n draft held past old x r g h = h ∙ ap (λ (w : List Scalar). back_draft w (rec past old w) (rows_of s) n draft held) (ap scalars_of g ∙ built_in-rows)
