-- 02, W-211: over any series of settings, comings back and W-210's edits, each accepted or refused, in which only these calls write the held buffer and each
-- gets the rows that the last gave, the record and the texts of each name come back as they were when it was set, whatever names are set later, with the
-- count found afresh; and under one copy the count beside the draft stays right. Assumes nothing.
use Rattle.std.specs.Prelude.{Option, Some, None}
use mathlib.Core.Path.{◌≡◌, refl, sym, ap, ap₂, ◌∙◌, subst}
use mathlib.Core.List.{List, [], ◌∷◌, ◌++◌, map, append-nil}
use mathlib.Core.Bool.{Bool, true, false, ◌&&◌, ◌||◌, cond, false≢true}
use Prim.Native.Nat.{ℕ, ◌+◌, ◌≤◌}
use native.Mathlib.Omega.{arith}
use lib.ListN.{length}
use lib.Seq.{drop-nil}
use lib.Dec.{leb, eqb}
use borrow.Author.Tests.{leb-true, le-leb, eq-eqb, ne_eqb}
use Rattle.record.specs.Base.{Str, any, filter_b, eqs}
use Rattle.record.specs.Fill.{fronted}
use Rattle.record.specs.Scalars.{Scalar}
use Rattle.record.specs.Schema.{Schema}
use Rattle.record.specs.Reading.{Rec, Reading, read, refuse, reading, stream_limit, pool_limit}
use Rattle.record.specs.declared.refusal.Side.TheVariants.{Current, Released}
use Rattle.record.specs.declared.refusal.Refusal.TheVariants as R
use Rattle.record.proofs.Basics.{both, none≢some, eqs→eq, eqs-refl}
use Rattle.record.proofs.Accepted.{accepting}
use Rattle.drafts.specs.Parts.{stated, after_part, held_rec, read_held, parts_of}
use Rattle.drafts.specs.Count.{count_changed}
use Rattle.drafts.specs.Edits.{Edited, refused, declined, no_room, done, settled, counted, count, edit, DraftState, keeping}
use Rattle.drafts.specs.Shelf.{Row, is_held, held_rows, overlapping, is_free, is_named, good_name, has_row, forged, bytes_of, row_of, closed, moved_row, new_row, put, rows_with, Shelved, shelved, shelve, set_read, set_draft, brought_back, back_from, back_draft}
use Rattle.drafts.specs.Shelving.{tabulate, rows_of, new_shelf}
use Rattle.drafts.specs.Calls.{Editor, Call, setting, backing, editing, set_of, back_kept, called, calls, noted, named}
use Rattle.drafts.proofs.Results.{fit}
use Rattle.drafts.proofs.PartLaws.{held-is, held-read}
use Rattle.drafts.proofs.Series.{refusal-not0, Right, read_back, edit-right}
use Rattle.drafts.proofs.ShelfLaws.{Under, set_own, set_other}
use Rattle.drafts.proofs.ShelfPlaces.{set-valid}

-- what is read is what the parts say
read_held-draft : (w : List Scalar) (b : Str) (now : Schema) → read_held w b ≡ read now → reading Current (held_rec w b) ≡ read now
unfolding read_held
read_held-draft w b now h = go (leb (stated b) stream_limit && leb (stated (after_part b)) pool_limit) h
  where
    go : (t : Bool) → cond t (reading Current (held_rec w b)) (refuse R.Long 0) ≡ read now → reading Current (held_rec w b) ≡ read now
    go true h = h
    go false h = absurd (let z : ◌≡◌ {A = ℕ} 0 1 = cc in omega arith)

-- setting -------------------------------------------------------------------------------------------------------------------

-- a setting is refused and changes nothing, or the draft is held under its name and all other names hold what they held
pub data Set (rows : List Row) (held : Str) (w : List Scalar) (n draft : Str) (e : Shelved) : Type 0 where
  not_set : (e.edited.number ≡ 0 → ⊥) → e.rows ≡ rows → e.edited.buffer ≡ held → Set rows held w n draft e
  is_set : e.edited.number ≡ 0 → (now : Schema) → reading Current (held_rec w draft) ≡ read now → forged (length e.edited.buffer) e.rows ≡ false
      → Under e.rows e.edited.buffer n (parts_of (held_rec w draft))
      → ((m x : Str) → (m ≡ n → ⊥) → Under rows held m x → Under e.rows e.edited.buffer m x) → Set rows held w n draft e

module _ (w : List Scalar) (rows : List Row) (held n draft : Str) (sound : forged (length held) rows ≡ false) where
  abbrev new : Str
  new = parts_of (held_rec w draft)

  placing : good_name n ≡ true → (any (is_named n) rows || any is_free rows) ≡ true → (now : Schema) → reading Current (held_rec w draft) ≡ read now → Set rows held w n draft (shelve n new rows held)
  unfolding shelve rows_with done no_room
  placing good row-for now h = go (leb (length (closed n rows held) + length new) (length held)) refl
    where
      go : (t : Bool) → leb (length (closed n rows held) + length new) (length held) ≡ t
          → Set rows held w n draft (cond t
          (shelved (done 0 (fronted held (closed n rows held ++ new))) (put n (new_row n (length (closed n rows held)) (length new)) (map (moved_row n rows held) rows)))
          (shelved (no_room (length (closed n rows held) + length new) 0 held) rows))
      go true e =
          is_set refl now h (set-valid rows held n new good sound (leb-true (length (closed n rows held) + length new) (length held) e))
          (set_own rows held n new good sound row-for) (λ m x d u. set_other rows held n new good sound row-for m x d u)
      go false e = not_set (λ z. omega arith) refl refl

  pub sets : Set rows held w n draft (set_draft w rows n draft held)
  unfolding set_draft set_read has_row refused declined
  sets = first (good_name n && (any (is_named n) rows || any is_free rows)) refl
    where
      reads : good_name n ≡ true → (any (is_named n) rows || any is_free rows) ≡ true → (o : Reading) → read_held w draft ≡ o → Set rows held w n draft (set_read n (held_rec w draft) rows held o)
      reads g f (refuse m p) e = not_set (refusal-not0 m) refl refl
      reads g f (read now) e = placing g f now (read_held-draft w draft now e)

      first : (t : Bool) → (good_name n && (any (is_named n) rows || any is_free rows)) ≡ t
          → Set rows held w n draft (cond t (cond (forged (length held) rows) (shelved (declined 58 0 held) rows) (set_read n (held_rec w draft) rows held (read_held w draft))) (shelved (declined 57 0 held) rows))
      first true e = let x = both (good_name n) _ e in rw sound (reads x.0 x.1 (read_held w draft) refl)
      first false e = not_set (λ z. omega arith) refl refl

-- a series of calls ---------------------------------------------------------------------------------------------------------

-- a record that is held under a name, and can be read
pub record Held (w : List Scalar) (rows : List Row) (held n : Str) (r : Rec) : Type 0 where
  pub under : Under rows held n (parts_of r)
  pub words : r.scalars ≡ w
  pub now : Schema
  pub is_read : reading Current r ≡ read now

-- no held place is outside the buffer or over another, and each name holds its record
pub record Holds (w : List Scalar) (rows : List Row) (held : Str) (m : Str → Option Rec) : Type 0 where
  pub sound : forged (length held) rows ≡ false
  pub each : (n : Str) (r : Rec) → m n ≡ Some r → Held w rows held n r

module _ (w : List Scalar) where
  set_holds : (k : Editor) (m : Str → Option Rec) (n : Str) → Holds w k.rows k.held m
      → Holds w (set_of w k n).rows (set_of w k n).edited.buffer (noted w k m (setting n))
  unfolding set_of noted held_rec
  set_holds k m n h = go (set_draft w k.rows n k.kept.buffer k.held) (sets w k.rows k.held n k.kept.buffer h.sound)
    where
      go : (e : Shelved) → Set k.rows k.held w n k.kept.buffer e
          → Holds w e.rows e.edited.buffer (λ x. cond (eqb e.edited.number 0) (cond (eqs x n) (Some (held_rec w k.kept.buffer)) (m x)) (m x))
      go e (not_set z p q) = rw (ne_eqb e.edited.number 0 z, p, q) h
      go e (is_set z now i v u f) = rw (eq-eqb e.edited.number 0 z) (record { sound = v; each = λ x r g. name x r (eqs x n) refl g })
        where
          name : (x : Str) (r : Rec) (t : Bool) → eqs x n ≡ t → cond t (Some (held_rec w k.kept.buffer)) (m x) ≡ Some r → Held w e.rows e.edited.buffer x r
          name x r true q g =
              let y : held_rec w k.kept.buffer ≡ r = cc in
              subst (λ (a : Str). Held w e.rows e.edited.buffer a r) (sym (eqs→eq x n q))
              (subst (λ (a : Rec). Held w e.rows e.edited.buffer n a) y (record { under = u; words = refl; now = now; is_read = i }))
          name x r false q g = let o = h.each x r g in record { under = f x (parts_of r) (λ a. false≢true (sym q ∙ ap (λ (b : Str). eqs b n) a ∙ eqs-refl n)) o.under; words = o.words; now = o.now; is_read = o.is_read }

  call-holds : (k : Editor) (m : Str → Option Rec) (c : Call) → Holds w k.rows k.held m → Holds w (called w k c).rows (called w k c).held (noted w k m c)
  unfolding called noted
  call-holds k m (setting n) h = set_holds k m n h
  call-holds k m (backing copy n) h = record { sound = h.sound; each = λ x r g. h.each x r g }
  call-holds k m (editing copy e) h = record { sound = h.sound; each = λ x r g. h.each x r g }

  -- each name holds the record of the last setting that was not refused, after any series of calls
  pub series-holds : (cs : List Call) (k : Editor) (m : Str → Option Rec) → Holds w k.rows k.held m → Holds w (calls w k cs).rows (calls w k cs).held (named w k m cs)
  unfolding calls named
  series-holds [] k m h = h
  series-holds (c ∷ cs) k m h = series-holds cs (called w k c) (noted w k m c) (call-holds k m c h)

-- a shelf on which no name is held
pub new-holds : (w : List Scalar) (held : Str) → Holds w (rows_of new_shelf) held (λ n. None)
unfolding forged held_rows filter_b is_held rows_of tabulate any overlapping
new-holds w held = record { sound = refl; each = λ n r e. absurd (none≢some e) }

-- coming back: the record of the name, whole, with its count found afresh; and that count is right beside the draft that came back (W-210)
module _ (w : List Scalar) (rows : List Row) (held n draft : Str) (copy r : Rec) (was : Schema) (sound : forged (length held) rows ≡ false) (h : Held w rows held n r) (c : reading Released copy ≡ read was) where
  no_more : fronted [] (parts_of r) ≡ parts_of r
  unfolding fronted
  no_more = ap (λ (l : Str). parts_of r ++ l) (drop-nil (length (parts_of r))) ∙ append-nil (parts_of r)

  abbrev place : Str
  place = bytes_of held h.under.row

  same-rec : held_rec w place ≡ r
  same-rec = ap₂ held_rec (sym h.words) (h.under.holds ∙ sym no_more) ∙ held-is r []

  same_read : read_held w place ≡ read h.now
  same_read = ap₂ read_held (sym h.words) (h.under.holds ∙ sym no_more)
      ∙ held-read r [] (accepting Current r h.now h.is_read).stream-short (fit Current r h.now h.is_read).pool-short ∙ h.is_read

  pub comes_back : length (parts_of r) ≤ length draft → back_draft w copy rows n draft held ≡ shelved (done (count_changed h.now was) (fronted draft (parts_of r))) rows
  unfolding back_draft back_from brought_back settled
  comes_back room = rw (sound, h.under.found, same_read, c, same-rec, le-leb (length (parts_of r)) (length draft) room)

  pub back-right : Right w copy (record { changed = count_changed h.now was; buffer = fronted draft (parts_of r) })
  unfolding count counted done
  back-right = record { afresh = rw (read_back w copy r h.now draft h.words h.is_read, c) }

-- the count beside the draft ------------------------------------------------------------------------------------------------

module _ (w : List Scalar) (copy : Rec) where
  -- every call of a series is lent this copy
  abbrev pub OneCopy : List Call → Type 0
  OneCopy [] = Unit {0}
  OneCopy (setting n ∷ cs) = OneCopy cs
  OneCopy (backing c n ∷ cs) = (c ≡ copy) × OneCopy cs
  OneCopy (editing c e ∷ cs) = (c ≡ copy) × OneCopy cs

  refused-keeps : (k : DraftState) (e : Edited) → (e.number ≡ 0 → ⊥) → Right w copy k → Right w copy (back_kept k e)
  unfolding back_kept
  refused-keeps k e z h = rw (ne_eqb e.number 0 z) h

  made-right : (b draft : Str) (k : DraftState) (now was : Schema) → read_held w b ≡ read now → reading Released copy ≡ read was
      → Right w copy (back_kept k (done (count_changed now was) (fronted draft (parts_of (held_rec w b)))))
  unfolding back_kept done count counted held_rec
  made-right b draft k now was e f = record { afresh = rw (read_back w copy (held_rec w b) now draft refl (read_held-draft w b now e), f) }

  brought-right : (b draft : Str) (k : DraftState) → Right w copy k → Right w copy (back_kept k (brought_back (held_rec w b) draft (read_held w b) (reading Released copy)))
  unfolding brought_back settled refused no_room
  brought-right b draft k h = go (read_held w b) refl (reading Released copy) refl
    where
      fits : (now was : Schema) → read_held w b ≡ read now → reading Released copy ≡ read was → (t : Bool)
          → Right w copy (back_kept k (cond t (done (count_changed now was) (fronted draft (parts_of (held_rec w b)))) (no_room (length (parts_of (held_rec w b))) 0 draft)))
      fits now was e f true = made-right b draft k now was e f
      fits now was e f false = refused-keeps k (no_room (length (parts_of (held_rec w b))) 0 draft) (λ z. omega arith) h

      go : (x : Reading) → read_held w b ≡ x → (y : Reading) → reading Released copy ≡ y → Right w copy (back_kept k (brought_back (held_rec w b) draft x y))
      go (refuse m p) e y f = refused-keeps k (refused 0 m p 0 draft) (refusal-not0 m) h
      go (read now) e (refuse m p) f = refused-keeps k (refused 1 m p 0 draft) (refusal-not0 m) h
      go (read now) e (read was) f = fits now was e f (leb (length (parts_of (held_rec w b))) (length draft))

  back-keeps : (rows : List Row) (n draft held : Str) (k : DraftState) → Right w copy k → Right w copy (back_kept k (back_draft w copy rows n draft held).edited)
  unfolding back_draft back_from declined
  back-keeps rows n draft held k h = go (forged (length held) rows)
    where
      row : (o : Option Row) → Right w copy (back_kept k (back_from w copy draft held o))
      row None = refused-keeps k (declined 58 0 draft) (λ z. omega arith) h
      row (Some r) = brought-right (bytes_of held r) draft k h

      go : (t : Bool) → Right w copy (back_kept k (cond t (declined 58 0 draft) (back_from w copy draft held (row_of n rows))))
      go true = refused-keeps k (declined 58 0 draft) (λ z. omega arith) h
      go false = row (row_of n rows)

  -- under one copy the count beside the draft stays right
  pub series-count : (cs : List Call) (k : Editor) → OneCopy cs → Right w copy k.kept → Right w copy (calls w k cs).kept
  unfolding calls called
  series-count [] k o h = h
  series-count (setting n ∷ cs) k o h = series-count cs (called w k (setting n)) o h
  series-count (backing c n ∷ cs) k o h =
      series-count cs (called w k (backing c n)) o.1
      (subst (λ (x : Rec). Right w copy (back_kept k.kept (back_draft w x k.rows n k.kept.buffer k.held).edited)) (sym o.0) (back-keeps k.rows n k.kept.buffer k.held k.kept h))
  series-count (editing c e ∷ cs) k o h =
      series-count cs (called w k (editing c e)) o.1
      (subst (λ (x : Rec). Right w copy (keeping (edit w x k.kept.changed k.kept.buffer e))) (sym o.0) (edit-right w copy k.kept e h))

-- 02's sentence over a whole series of calls: what a name holds comes back, with a right count
pub record Returned (w : List Scalar) (copy : Rec) (k : Editor) (n : Str) (r : Rec) (e : Shelved) : Type 0 where
  pub number : e.edited.number ≡ 0
  pub record_is : held_rec w e.edited.buffer ≡ r
  pub count-is : Right w copy (keeping e.edited)
  pub stays : e.rows ≡ k.rows

module _ (w : List Scalar) (cs : List Call) (k : Editor) (m : Str → Option Rec) (h : Holds w k.rows k.held m) (n : Str) (r : Rec) (e : named w k m cs n ≡ Some r)
    (copy : Rec) (was : Schema) (c : reading Released copy ≡ read was) where
  abbrev after : Editor
  after = calls w k cs

  pub series-back : (draft : Str) → length (parts_of r) ≤ length draft → Returned w copy after n r (back_draft w copy after.rows n draft after.held)
  unfolding done
  series-back draft room =
      let a = series-holds w cs k m h in
      let b = a.each n r e in
      let z = comes_back w after.rows after.held n draft copy r was a.sound b c room in
      subst (Returned w copy after n r) (sym z) (record {
        number = refl;
        record_is = ap (λ (x : List Scalar). held_rec x (fronted draft (parts_of r))) (sym b.words) ∙ held-is r draft;
        count-is = back-right w after.rows after.held n draft copy r was a.sound b c;
        stays = refl;
      })
