-- A draft held under a name: the code's answers are the definition's. Assumes nothing.
use mathlib.Core.Path.{◌≡◌, refl, sym, ap, ap₂, ◌∙◌, subst}
use mathlib.Core.List.{List, [], ◌∷◌, ◌++◌, map, append_assoc, append-nil}
use mathlib.Core.Bool.{Bool, true, false, ◌||◌, cond, false≢true}
use Prim.Native.Nat.{ℕ, suc, ◌+◌, ◌-◌, ◌*◌, ◌≤◌, ◌<◌}
use native.Mathlib.Omega.{arith}
use lib.ListN.{length, get_or, take, drop, set, length-append, length-drop, length-map, drop_of_length-le, get_or-map}
use lib.Seq.{take_all, take_at, drop_at, drop-drop, length_front, length-take-le, ext_get_or}
use lib.Dec.{leb}
use borrow.Author.Tests.{le-leb, lt-leb, leb-true}
use Rattle.record.specs.Base.{Str, any}
use Rattle.record.specs.Fill.{fronted}
use Rattle.record.specs.Write.{Puts}
use Rattle.record.specs.Reading.{rec}
use Rattle.record.proofs.Basics.{both}
use Rattle.record.proofs.WriterLaws.{puts-front}
use Rattle.drafts.specs.Packing.{kept}
use Rattle.drafts.specs.Parts.{parts_of}
use Rattle.drafts.specs.Edits.{Edited, no_room, done}
use Rattle.drafts.specs.Answering.{Says}
use Rattle.drafts.specs.Shelf.{Row, is_held, is_free, name_of, is_named, good_name, free_row, put_first, closed, moved_row, new_row, put, rows_with, shelve, shelved}
use Rattle.drafts.specs.Shelving.{row_at, rows_of, first_of, held_size, covering, all_before, Spaced, least, starts_after, with_starts, shelved_as}
use Rattle.drafts.specs.Holding.{Short, Room, Settable, Behind}
use Rattle.drafts.specs.declared.saying.DraftAnswer.{DraftAnswer}
use Rattle.drafts.specs.declared.shelved.Shelf.{Shelf}
use Rattle.drafts.specs.declared.shelved.ShelfAnswer.{ShelfAnswer}
use Rattle.drafts.proofs.StoreLaws.{parts-long}
use Rattle.drafts.proofs.RowLaws.{rows_long, rows_at}
use Rattle.drafts.proofs.ClosingLaws.{kept-few, moved_at}
use Rattle.drafts.proofs.ShelfLaws.{any-map}
use Rattle.drafts.proofs.StayLaws.{RowIs, own, new, row-good, row_is, start_of, before-is, spaced, closed_is, start_is}

-- a draft behind the places -------------------------------------------------------------------------------------------------

module _ (starts sizes : List ℕ) (h s p : Str) (end : ℕ) (m : Room starts sizes h end s p) where
  abbrev front : Str
  front = kept (covering starts sizes) 0 h

  abbrev draft : Str
  draft = parts_of (rec s p [])

  pub hold-put : (x ys : Str) (r : ℕ) → x ≡ fronted h front → Puts (take (length x - end) (drop end x)) 0 draft ys r
      → take end x ++ (ys ++ drop (length x - end) (drop end x)) ≡ fronted h (front ++ draft)
  unfolding fronted
  hold-put x ys r e q =
      let i = m.end_is in
      let f = m.fits in
      let l = parts-long s p [] in
      let n : length x ≡ length h = ap length e ∙ length_front h front (length front) (sym (length-take-le (length front) h (omega arith))) in
      let a : take end x ≡ front = ap (take end) e ∙ take_at front (drop (length front) h) end (sym i) in
      let b : drop end x ≡ drop end h = ap (drop end) e ∙ drop_at front (drop (length front) h) end (sym i) ∙ ap (λ (k : ℕ). drop k h) (sym i) in
      let d = length-drop end h in
      let t : take (length x - end) (drop end x) ≡ drop end h = ap (take (length x - end)) b ∙ take_all (length x - end) (drop end h) (omega arith) in
      let u : drop (length x - end) (drop end x) ≡ [] = ap (drop (length x - end)) b ∙ drop_of_length-le (drop end h) {i = length x - end} (omega arith) in
      let g : Puts (drop end h) 0 draft ys r = subst (λ (y : Str). Puts y 0 draft ys r) t q in
      let v : ys ≡ draft ++ drop (length draft) (drop end h) = puts-front g (omega arith) in
      let z : end + length draft ≡ length (front ++ draft) = (omega arith) ∙ sym (length-append front draft) in
      ap₂ (λ (y w : Str). y ++ w) a (ap₂ (λ (y w : Str). y ++ w) v u ∙ append-nil (draft ++ drop (length draft) (drop end h)))
      ∙ sym (append_assoc front draft (drop (length draft) (drop end h)))
      ∙ ap (λ (y : Str). front ++ draft ++ y) (drop-drop (length draft) end h ∙ ap (λ (k : ℕ). drop k h) z)

-- a row put -----------------------------------------------------------------------------------------------------------------

put_first-set : (q : Row → Bool) (x : Row) (l : List Row) → any q l ≡ true → put_first q x l ≡ set l (first_of q l) x
unfolding put_first first_of any
put_first-set q x [] h = absurd (false≢true h)
put_first-set q x (r ∷ l) h = go (q r) h (put_first-set q x l)
  where
    go : (t : Bool) → (t || any q l) ≡ true → (any q l ≡ true → put_first q x l ≡ set l (first_of q l) x) → cond t (x ∷ l) (r ∷ put_first q x l) ≡ set (r ∷ l) (cond t 0 (suc (first_of q l))) x
    go true h ih = refl
    go false h ih = ap (λ (y : List Row). r ∷ y) (ih h)

first-map : (q : Row → Bool) (f : Row → Row) (l : List Row) → ((u : Row) → q (f u) ≡ q u) → first_of q (map f l) ≡ first_of q l
unfolding first_of
first-map q f [] h = refl
first-map q f (r ∷ l) h = rw (h r, first-map q f l h)

module _ (n held : Str) (rows : List Row) (row : ℕ) (x : Row) where
  abbrev mv : Row → Row
  mv = moved_row n rows held

  same_name : (u : Row) → is_named n (mv u) ≡ is_named n u
  unfolding moved_row is_named name_of is_held
  same_name u = refl

  same-free : (u : Row) → is_free (mv u) ≡ is_free u
  unfolding moved_row is_held
  same-free u = refl

  put-at : RowIs n rows row → put n x (map mv rows) ≡ set (map mv rows) row x
  unfolding put
  put-at (own a e) =
      let b = any-map (is_named n) mv rows same_name ∙ a in
      rw b (put_first-set (is_named n) x (map mv rows) b ∙ ap (λ (k : ℕ). set (map mv rows) k x) (first-map (is_named n) mv rows same_name ∙ sym e))
  put-at (new a f e) =
      let b = any-map (is_named n) mv rows same_name ∙ a in
      let g = any-map is_free mv rows same-free ∙ f in
      rw b (put_first-set is_free x (map mv rows) g ∙ ap (λ (k : ℕ). set (map mv rows) k x) (first-map is_free mv rows same-free ∙ sym e))

-- a draft held --------------------------------------------------------------------------------------------------------------

module _ (s : Shelf) (row : ℕ) (n held : Str) (k : Settable s row n held) (l : length s.starts ≡ 8) (sizes : List ℕ) (z : sizes ≡ set (map held_size (rows_of s)) row 0) where
  abbrev rows : List Row
  rows = rows_of s

  is_row : RowIs n rows row
  is_row = row_is n rows row (rows_long s) k.row_is k.row_in

  is-good : good_name n ≡ true
  is-good = row-good n rows row (rows_long s) k.row_is k.row_in

  starts-are : s.starts ≡ map start_of rows
  starts-are = ext_get_or 0 s.starts (map start_of rows) (l ∙ sym (length-map rows start_of ∙ rows_long s))
      (λ j h. sym (get_or-map start_of rows j free_row ∙ ap start_of (rows_at s j free_row (omega arith))))

  both-are : {A : Type 0} (f : List ℕ → List ℕ → A) → f s.starts sizes ≡ f (map start_of rows) (set (map held_size rows) row 0)
  both-are f = ap₂ f starts-are z

  pub hold-spaced : Spaced s.starts sizes
  hold-spaced = subst (λ (x : List ℕ). Spaced x sizes) (sym starts-are) (subst (λ (x : List ℕ). Spaced (map start_of rows) x) (sym z) (spaced n rows (length held) k.valid row is_row))

  front-is : kept (covering s.starts sizes) 0 held ≡ closed n rows held
  front-is = both-are (λ (x y : List ℕ). kept (covering x y) 0 held) ∙ closed_is n rows (length held) k.valid row is_row held

  pub hold-behind : (end : ℕ) → end ≡ all_before s.starts sizes (length held) → Behind s row n held sizes end
  unfolding closed
  hold-behind end e = record {
    settable = k;
    sizes-are = z;
    end_is = e ∙ both-are (λ (x y : List ℕ). all_before x y (length held)) ∙ before-is n rows (length held) k.valid row is_row held;
    eight = l;
  }

  module _ (end : ℕ) (i : end ≡ length (closed n rows held)) (st p : Str) (short : Short st p) where
    abbrev added : Str
    added = parts_of (rec st p [])

    end_low : end ≤ length held
    unfolding closed
    end_low = let f = kept-few (Rattle.drafts.specs.Shelf.staying n rows) 0 held in omega arith

    pub hold-need : length held * 1 < 9223372036854775808 → end + (length st + length p + 8) < 18446744073709551616
    hold-need h = let f = end_low in let a = short.short in let b = short.small in omega arith

    pub hold-room : end + (length st + length p + 8) ≤ length held → Room s.starts sizes held end st p
    hold-room h = record { end_is = i ∙ ap length (sym front-is); fits = h; limits = short }

    pub hold-name : (row < 8) × (length n ≤ 16)
    unfolding good_name
    hold-name = (k.row_in, leb-true (length n) 16 (both (leb 1 (length n)) (leb (length n) 16) is-good).1)

    pub hold-over : (d : DraftAnswer) (r : ShelfAnswer) → length held < end + (length st + length p + 8) → Says d (no_room (end + (length st + length p + 8)) 0)
        → r ≡ record { answer = d.answer; changed = d.changed; shelf = s } → shelved_as r held ≡ shelve n added rows held
    unfolding shelve
    hold-over d r h a e =
        let m = parts-long st p [] in
        let q : end + (length st + length p + 8) ≡ length (closed n rows held) + length added = omega arith in
        ap (λ (x : ShelfAnswer). shelved_as x held) e ∙ ap (λ (x : Edited). shelved x rows) (a.is held)
        ∙ rw (lt-leb (length (closed n rows held) + length added) (length held) (omega arith)) (ap (λ (x : ℕ). shelved (no_room x 0 held) rows) q)

    module _ (moved : List ℕ) (f : moved ≡ starts_after s.starts sizes (length held)) where
      start-at : (j : ℕ) → j < 8 → get_or moved j 0 ≡ (moved_row n rows held (row_at s j)).start
      unfolding moved_row
      start-at j h =
          ap (λ (x : List ℕ). get_or x j 0) f ∙ moved_at s.starts sizes l (length held) j h
          ∙ both-are (λ (x y : List ℕ). all_before x y (least (get_or s.starts j 0) (length held))) ∙ start_is n rows (length held) k.valid row is_row held (get_or s.starts j 0)

      row-at : (j : ℕ) → j < 8 → row_at (with_starts s moved) j ≡ moved_row n rows held (row_at s j)
      unfolding moved_row
      row-at j h = let e = start-at j h in
          λ t. record { word = take 16 (drop (16 * j) s.names); letters = get_or s.name_lens j 0; start = e t; size = get_or s.lens j 0 }

      rows-moved : rows_of (with_starts s moved) ≡ map (moved_row n rows held) rows
      rows-moved =
          let a = rows_long (with_starts s moved) in
          let b = length-map rows (moved_row n rows held) ∙ rows_long s in
          ext_get_or (moved_row n rows held free_row) (rows_of (with_starts s moved)) (map (moved_row n rows held) rows) (a ∙ sym b)
          (λ j h. rows_at (with_starts s moved) j (moved_row n rows held free_row) (omega arith) ∙ row-at j (omega arith)
          ∙ sym (get_or-map (moved_row n rows held) rows j free_row ∙ ap (moved_row n rows held) (rows_at s j free_row (omega arith))))

      pub hold-done : (t : Shelf) (x : Str) (d : DraftAnswer) (r : ShelfAnswer) → end + (length st + length p + 8) ≤ length held
          → x ≡ fronted held (kept (covering s.starts sizes) 0 held ++ added) → rows_of t ≡ set (rows_of (with_starts s moved)) row (new_row n end (length st + length p + 8))
          → Says d (done 0) → r ≡ record { answer = d.answer; changed = d.changed; shelf = t } → shelved_as r x ≡ shelve n added rows held
      unfolding shelve rows_with
      hold-done t x d r h e g a q =
          let m = parts-long st p [] in
          let y : x ≡ fronted held (closed n rows held ++ added) = e ∙ ap (λ (w : Str). fronted held (w ++ added)) front-is in
          let w : new_row n end (length st + length p + 8) ≡ new_row n (length (closed n rows held)) (length added) = ap₂ (new_row n) i (sym m) in
          let v : rows_of t ≡ put n (new_row n (length (closed n rows held)) (length added)) (map (moved_row n rows held) rows) =
          g ∙ ap₂ (λ (b : List Row) (c : Row). set b row c) rows-moved w ∙ sym (put-at n held rows row (new_row n (length (closed n rows held)) (length added)) is_row) in
          ap (λ (c : ShelfAnswer). shelved_as c x) q ∙ ap (λ (b : Edited). shelved b (rows_of t)) (a.is x)
          ∙ rw (le-leb (length (closed n rows held) + length added) (length held) (omega arith)) (ap₂ (λ (b : Str) (c : List Row). shelved (done 0 b) c) y v)
