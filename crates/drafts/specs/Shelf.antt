-- Drafts with names in a lent buffer (02, W-211): eight rows of a name and a place, by value. Assumes nothing.
use Rattle.std.specs.Prelude.{ℕ, zero, suc, ◌+◌, List, [], ◌∷◌, ◌++◌, map, Bool, false, ◌&&◌, ◌||◌, not, cond, length, take, drop, eqb, ltb, leb, Option, Some, None}
use Rattle.record.specs.Base.{Str, any, find, filter_b, is_text}
use Rattle.record.specs.Fill.{fronted}
use Rattle.record.specs.Scalars.{Scalar}
use Rattle.record.specs.Reading.{Rec, Reading, read, refuse, reading}
use Rattle.record.specs.declared.refusal.Side.TheVariants.{Released}
use Rattle.drafts.specs.Packing.{kept, kept_before}
use Rattle.drafts.specs.Parts.{held_rec, read_held, parts_of}
use Rattle.drafts.specs.Edits.{Edited, refused, declined, no_room, done, settled}

-- rows ----------------------------------------------------------------------------------------------------------------------

-- sixteen bytes of which so many are the name, and a place of the held buffer
pub record Row : Type 0 where
  pub word : Str
  pub letters : ℕ
  pub start : ℕ
  pub size : ℕ

-- a row of no letters is free
unfoldable pub is_held : Row → Bool
is_held r = not (eqb r.letters 0)

abbrev pub is_free : Row → Bool
is_free r = not (is_held r)

-- a row of more letters than sixteen is held and has no name
unfoldable pub name_of : Row → Option Str
name_of r = cond (is_held r && leb r.letters 16) (Some (take r.letters r.word)) None

unfoldable pub is_named : Str → Row → Bool
is_named n r = is_text (name_of r) n

-- 02: "names of 1 to 16 bytes"
unfoldable pub good_name : Str → Bool
good_name n = leb 1 (length n) && leb (length n) 16

unfoldable pub held_rows : List Row → List Row
held_rows = filter_b is_held

-- of two rows of one name, which no call makes, the first counts
unfoldable pub row_of : Str → List Row → Option Row
row_of n rows = find (is_named n) rows

-- places --------------------------------------------------------------------------------------------------------------------

unfoldable pub outside : ℕ → Row → Bool
outside room r = ltb room (r.start + r.size)

-- a byte of one place is a byte of the other
unfoldable pub meets : Row → Row → Bool
meets a b =
    ltb a.start (b.start + b.size) && ltb b.start (a.start + a.size) && ltb 0 a.size && ltb 0 b.size

unfoldable pub overlapping : List Row → Bool
overlapping [] = false
overlapping (r ∷ rows) = any (meets r) rows || overlapping rows

-- 02: "a held place outside the buffer or over another", of all held rows
unfoldable pub forged : ℕ → List Row → Bool
forged room rows = any (outside room) (held_rows rows) || overlapping (held_rows rows)

-- the held draft's bytes
unfoldable pub bytes_of : Str → Row → Str
bytes_of held r = take r.size (drop r.start held)

-- setting -------------------------------------------------------------------------------------------------------------------

abbrev pub free_row : Row
free_row = record { word = []; letters = 0; start = 0; size = 0 }

-- into the first row that passes a test
unfoldable pub put_first : (Row → Bool) → Row → List Row → List Row
put_first p x [] = []
put_first p x (r ∷ rows) = cond (p r) (x ∷ rows) (r ∷ put_first p x rows)

-- the rows that stay when a name is set: all held ones but the first of that name
unfoldable pub others : Str → List Row → List Row
others n rows = held_rows (put_first (is_named n) free_row rows)

unfoldable pub in_place : ℕ → Row → Bool
in_place i r = leb r.start i && ltb i (r.start + r.size)

-- the bytes of their places
unfoldable pub staying : Str → List Row → ℕ → Bool
staying n rows i = any (in_place i) (others n rows)

-- their drafts closed up, in the order of the buffer
unfoldable pub closed : Str → List Row → Str → Str
closed n rows held = kept (staying n rows) 0 held

unfoldable pub moved_row : Str → List Row → Str → Row → Row
moved_row n rows held r =
    record { word = r.word; letters = r.letters; start = kept_before (staying n rows) held r.start; size = r.size }

-- a name, filled up with zeros
unfoldable pub filled : ℕ → Str → Str
filled zero n = []
filled (suc k) [] = 0 ∷ filled k []
filled (suc k) (b ∷ n) = b ∷ filled k n

abbrev pub new_row : Str → ℕ → ℕ → Row
new_row n start size = record { word = filled 16 n; letters = length n; start = start; size = size }

-- into the row of its name, or else into the first free one
unfoldable pub put : Str → Row → List Row → List Row
put n x rows = cond (any (is_named n) rows) (put_first (is_named n) x rows) (put_first is_free x rows)

-- what a call answers, with the buffer that it may change (the held one on setting, the draft's on coming back), and the rows afterwards
pub record Shelved : Type 0 where
  pub edited : Edited
  pub rows : List Row

abbrev pub shelved : Edited → List Row → Shelved
shelved e rows = record { edited = e; rows = rows }

-- the rows with a draft of this length held under a name, behind those that stay
unfoldable pub rows_with : Str → ℕ → List Row → Str → List Row
rows_with n size rows held = put n (new_row n (length (closed n rows held)) size) (map (moved_row n rows held) rows)

-- 02: "10 is given exactly if the buffer is too small for the drafts then held", with the length that they take
unfoldable pub shelve : Str → Str → List Row → Str → Shelved
shelve n new rows held =
    let front = closed n rows held in
    cond (leb (length front + length new) (length held))
    (shelved (done 0 (fronted held (front ++ new))) (rows_with n (length new) rows held))
    (shelved (no_room (length front + length new) 0 held) rows)

unfoldable pub set_read : Str → Rec → List Row → Str → Reading → Shelved
set_read n r rows held (refuse m p) = shelved (refused 0 m p 0 held) rows
set_read n r rows held (read now) = shelve n (parts_of r) rows held

-- 02: "57 eight other names held or a name of bad length"
unfoldable pub has_row : Str → List Row → Bool
has_row n rows = good_name n && (any (is_named n) rows || any is_free rows)

-- 02: "57 ..; 58 ..; the refusal of the draft set ..; 10"
unfoldable pub set_draft : List Scalar → List Row → Str → Str → Str → Shelved
set_draft w rows n draft held =
    cond (has_row n rows)
    (cond (forged (length held) rows) (shelved (declined 58 0 held) rows) (set_read n (held_rec w draft) rows held (read_held w draft)))
    (shelved (declined 57 0 held) rows)

-- coming back ---------------------------------------------------------------------------------------------------------------

-- 02: "the refusal of the draft .. come back to; coming back, the copy's; 10"
unfoldable pub brought_back : Rec → Str → Reading → Reading → Edited
brought_back r draft (refuse m p) was = refused 0 m p 0 draft
brought_back r draft (read now) (refuse m p) = refused 1 m p 0 draft
brought_back r draft (read now) (read was) = settled 0 draft was r (read now)

-- the draft of a place, read from the bytes of the place alone
abbrev pub brought_from : List Scalar → Rec → Str → Str → Edited
brought_from w copy draft place = brought_back (held_rec w place) draft (read_held w place) (reading Released copy)

unfoldable pub back_from : List Scalar → Rec → Str → Str → Option Row → Edited
back_from w copy draft held None = declined 58 0 draft
back_from w copy draft held (Some r) = brought_from w copy draft (bytes_of held r)

-- 02: "58 no such name to come back to, or a held place outside the buffer or over another"; the rows are as they were
unfoldable pub back_draft : List Scalar → Rec → List Row → Str → Str → Str → Shelved
back_draft w copy rows n draft held =
    shelved (cond (forged (length held) rows) (declined 58 0 draft) (back_from w copy draft held (row_of n rows))) rows
