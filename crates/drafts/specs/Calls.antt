-- A series of calls: settings, comings back and W-210's edits (02, W-211: "if only these calls write the buffer and each gets the names and
-- places the last gave"). Assumes nothing.
use Rattle.std.specs.Prelude.{List, [], ◌∷◌, cond, eqb, Option, Some}
use Rattle.record.specs.Base.{Str, eqs}
use Rattle.record.specs.Scalars.{Scalar}
use Rattle.record.specs.Reading.{Rec}
use Rattle.drafts.specs.Parts.{held_rec}
use Rattle.drafts.specs.Edits.{Edited, Edit, edit, DraftState, keeping}
use Rattle.drafts.specs.Shelf.{Row, Shelved, set_draft, back_draft}

-- what an editor holds between two calls: names and places, the held buffer, and the draft with the count beside it
pub record Editor : Type 0 where
  pub rows : List Row
  pub held : Str
  pub kept : DraftState

-- the copy lent to a call stands with it
pub data Call : Type 0 where
  setting : Str → Call
  backing : Rec → Str → Call
  editing : Rec → Edit → Call

unfoldable pub set_of : List Scalar → Editor → Str → Shelved
set_of w k n = set_draft w k.rows n k.kept.buffer k.held

-- a draft that comes back brings its count; a refusal leaves both
unfoldable pub back_kept : DraftState → Edited → DraftState
back_kept k e = cond (eqb e.number 0) (keeping e) k

unfoldable pub called : List Scalar → Editor → Call → Editor
called w k (setting n) = record { rows = (set_of w k n).rows; held = (set_of w k n).edited.buffer; kept = k.kept }
called w k (backing copy n) =
    record { rows = k.rows; held = k.held; kept = back_kept k.kept (back_draft w copy k.rows n k.kept.buffer k.held).edited }
called w k (editing copy e) = record { rows = k.rows; held = k.held; kept = keeping (edit w copy k.kept.changed k.kept.buffer e) }

unfoldable pub calls : List Scalar → Editor → List Call → Editor
calls w k [] = k
calls w k (c ∷ cs) = calls w (called w k c) cs

-- the records under names: a setting that is not refused puts the draft's record under its name, and no other call changes them
unfoldable pub noted : List Scalar → Editor → (Str → Option Rec) → Call → Str → Option Rec
noted w k m (setting n) x =
    cond (eqb (set_of w k n).edited.number 0) (cond (eqs x n) (Some (held_rec w k.kept.buffer)) (m x)) (m x)
noted w k m (backing copy n) x = m x
noted w k m (editing copy e) x = m x

unfoldable pub named : List Scalar → Editor → (Str → Option Rec) → List Call → Str → Option Rec
named w k m [] = m
named w k m (c ∷ cs) = named w (called w k c) (noted w k m c) cs
