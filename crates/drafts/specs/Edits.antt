-- Edits of a draft in a lent buffer and the count kept beside it (02, W-210). Assumes nothing.
use Rattle.std.specs.Prelude.{ℕ, List, [], ◌∷◌, ◌++◌, Bool, ◌&&◌, cond, length, get_or, drop, leb}
use Rattle.record.specs.Base.{Str, eqs, any}
use Rattle.record.specs.Fill.{fronted}
use Rattle.record.specs.Scalars.{Scalar}
use Rattle.record.specs.Schema.{Schema}
use Rattle.record.specs.Stretch.{text_of}
use Rattle.record.specs.Operands.{text_at}
use Rattle.record.specs.Commands.{commands_at}
use Rattle.record.specs.Refusals.{refusal_number}
use Rattle.record.specs.Reading.{Rec, rec, Reading, read, refuse, reading, Parsed, ok, bad}
use Rattle.record.specs.declared.refusal.Side.TheVariants.{Current, Released}
use Rattle.record.specs.declared.refusal.Refusal.{Refusal}
use Rattle.drafts.specs.Packing.{packed_pool, packed_commands, stream_of}
use Rattle.drafts.specs.Parts.{held_rec, read_held, parts_of}
use Rattle.drafts.specs.Addition.{is_type, is_part, addition}
use Rattle.drafts.specs.Count.{count_changed}

-- what a call answers, the count beside the draft, and the draft's buffer afterwards ----------------------------------------

pub record Edited : Type 0 where
  pub number : ℕ
  pub side : ℕ
  pub place : ℕ
  pub len : ℕ
  pub changed : ℕ
  pub buffer : Str

-- 02: "A refused edit changes nothing"; the side is 0 for the draft and the result, 1 for the copy, 2 for the addition
unfoldable pub refused : ℕ → Refusal → ℕ → ℕ → Str → Edited
refused side n p changed b = record { number = refusal_number n; side = side; place = p; len = 0; changed = changed; buffer = b }

-- 55 and 56
unfoldable pub declined : ℕ → ℕ → Str → Edited
declined number changed b = record { number = number; side = 0; place = 0; len = 0; changed = changed; buffer = b }

-- 02: "Number 10 is given exactly if the buffer can't hold both lengths, the commands and the covered pool bytes": with that length
unfoldable pub no_room : ℕ → ℕ → Str → Edited
no_room need changed b = record { number = 10; side = 0; place = 0; len = need; changed = changed; buffer = b }

unfoldable pub done : ℕ → Str → Edited
done changed b = record { number = 0; side = 0; place = 0; len = 0; changed = changed; buffer = b }

-- the result of an edit -----------------------------------------------------------------------------------------------------

-- a structure or a family of this name
unfoldable pub named : Str → Str → Str → ℕ → Bool
named s p n at = is_type (get_or s at 0) && eqs (text_of p (text_at (drop at s) 1)) n

-- the places after a type's parts
unfoldable pub after_parts : Str → List ℕ → List ℕ
after_parts s [] = []
after_parts s (at ∷ ps) = cond (is_part (get_or s at 0)) (after_parts s ps) (at ∷ ps)

-- 02: "the first of a name be taken out": the places without the first type of this name and its parts
unfoldable pub without : Str → Str → Str → List ℕ → List ℕ
without s p n [] = []
without s p n (at ∷ ps) = cond (named s p n at) (after_parts s ps) (at ∷ without s p n ps)

-- a record without that type
unfoldable pub removed : Str → Rec → Rec
removed n r =
    let ps = without r.stream r.pool n (commands_at r.stream 0) in
    rec (stream_of (packed_commands 0 r.stream r.pool ps)) (packed_pool r.stream r.pool ps) r.scalars

-- all but the first
unfoldable pub tail : List ℕ → List ℕ
tail [] = []
tail (at ∷ ps) = ps

-- the name of the type after the head
unfoldable pub name_after : Rec → List ℕ → Str
name_after r [] = []
name_after r (at ∷ ps) = text_of r.pool (text_at (drop at r.stream) 1)

-- 02: "added at the end, before command 0F, with its texts": the commands of both, the addition's head not among them, and the covered
-- bytes of both pools
unfoldable pub added : Rec → Rec → Rec
added r a =
    let ps = commands_at r.stream 0 in
    let qs = tail (commands_at a.stream 0) in
    let p = packed_pool r.stream r.pool ps in
    rec (stream_of (packed_commands 0 r.stream r.pool ps ++ packed_commands (length p) a.stream a.pool qs))
    (p ++ packed_pool a.stream a.pool qs) r.scalars

-- the whole edit ------------------------------------------------------------------------------------------------------------

-- the result's 8 or 9, then 10
unfoldable pub settled : ℕ → Str → Schema → Rec → Reading → Edited
settled changed b was r (refuse n p) = refused 0 n p changed b
settled changed b was r (read now) =
    cond (leb (length (parts_of r)) (length b)) (done (count_changed now was) (fronted b (parts_of r))) (no_room (length (parts_of r)) changed b)

pub data Edit : Type 0 where
  adding : Rec → Edit
  removing : Str → Edit

-- 55, or the result
unfoldable pub added_or : ℕ → Str → Schema → Rec → Rec → Parsed → Edited
added_or changed b was r a (bad n p) = refused 2 n p changed b
added_or changed b was r a (ok ps) =
    cond (any (named r.stream r.pool (name_after a (tail ps))) (commands_at r.stream 0)) (declined 55 changed b)
    (settled changed b was (added r a) (reading Current (added r a)))

-- 56, or the result
unfoldable pub removed_or : ℕ → Str → Schema → Rec → Str → Edited
removed_or changed b was r n =
    cond (any (named r.stream r.pool n) (commands_at r.stream 0)) (settled changed b was (removed n r) (reading Current (removed n r)))
    (declined 56 changed b)

unfoldable pub editing : ℕ → Str → Schema → Rec → Edit → Edited
editing changed b was r (adding a) = added_or changed b was r a (addition a)
editing changed b was r (removing n) = removed_or changed b was r n

-- 02: "Order: draft, copy, the addition's own 1 to 8, 55 or 56, the result's 8 or 9 (place there), 10"
unfoldable pub edited : ℕ → Str → Rec → Edit → Reading → Reading → Edited
edited changed b r e (refuse n p) was = refused 0 n p changed b
edited changed b r e (read now) (refuse n p) = refused 1 n p changed b
edited changed b r e (read now) (read was) = editing changed b was r e

unfoldable pub edit : List Scalar → Rec → ℕ → Str → Edit → Edited
edit w copy changed b e = edited changed b (held_rec w b) e (read_held w b) (reading Released copy)

-- the count found afresh ------------------------------------------------------------------------------------------------------

unfoldable pub counted : Str → Reading → Reading → Edited
counted b (refuse n p) was = refused 0 n p 0 b
counted b (read now) (refuse n p) = refused 1 n p 0 b
counted b (read now) (read was) = done (count_changed now was) b

unfoldable pub count : List Scalar → Rec → Str → Edited
count w copy b = counted b (read_held w b) (reading Released copy)

-- 02: "any series of edits", "with no other writer and one copy": each gets the count and the buffer that the last gave ---------------

-- what an editor holds between two edits
pub record DraftState : Type 0 where
  pub changed : ℕ
  pub buffer : Str

abbrev pub keeping : Edited → DraftState
keeping e = record { changed = e.changed; buffer = e.buffer }

unfoldable pub series : List Scalar → Rec → DraftState → List Edit → DraftState
series w copy k [] = k
series w copy k (e ∷ es) = series w copy (keeping (edit w copy k.changed k.buffer e)) es
