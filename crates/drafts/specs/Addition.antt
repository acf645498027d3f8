-- An addition (02, W-210: "comes as a record of its own (read as current: head, that one type, 0F; anything else is 3)").
-- Its own refusals are 1 to 8: the enums, aliases and bit fields that it names are the draft's, so its sizes are not judged. Assumes nothing.
use Rattle.std.specs.Prelude.{ℕ, zero, suc, ◌+◌, Bool, true, false, ◌&&◌, ◌||◌, cond, length, get_or, eqb, ltb, leb, Option, Some, None, Err}
use Rattle.record.specs.Base.{Str}
use Rattle.record.specs.Letters.{odd_letter}
use Rattle.record.specs.Commands.{operands, widths, start}
use Rattle.record.specs.Judge.{may_stand, judged_with}
use Rattle.record.specs.Reading.{Rec, Parsed, bad, continued, stream_limit, pool_limit}
use Rattle.record.specs.declared.command.Cursor.{Cursor}
use Rattle.record.specs.declared.refusal.Side.TheVariants.{Current}
use Rattle.record.specs.declared.refusal.Refusal.TheVariants as R
use Rattle.record.specs.Judge.{Judged}

-- 08 and 09 begin a type
unfoldable pub is_type : ℕ → Bool
is_type b = eqb b 8 || eqb b 9

-- 0A, 0B and 0C are parts of the type before them
unfoldable pub is_part : ℕ → Bool
is_part b = eqb b 10 || eqb b 11 || eqb b 12

-- the head, then a type, then its parts and 0F
unfoldable pub may_add : ℕ → ℕ → Bool
may_add last b = cond (eqb last 0) (eqb b 1) (cond (eqb last 1) (is_type b) (is_part b || eqb b 15))

-- the command at a cursor, judged as a current record's with this one rule of place more
unfoldable pub addition_as : Str → Str → Cursor → ℕ → Option Str → Judged
addition_as s p c b None = Err (R.Unknown, c.at)
addition_as s p c b (Some os) = judged_with Current s p c os (1 + widths os) (may_stand c b && may_add c.last b)

unfoldable pub addition_at : Str → Str → Cursor → Judged
addition_at s p c =
    cond (ltb c.at (length s)) (addition_as s p c (get_or s c.at 0) (operands (get_or s c.at 0))) (Err (R.Cut, c.at))

-- the places of the commands from a cursor on, or the first refusal
unfoldable pub parse_addition : ℕ → Str → Str → Cursor → Parsed
parse_addition zero s p c = bad R.Cut c.at
parse_addition (suc k) s p c = continued c.at (parse_addition k s p) (addition_at s p c)

-- 8 and 7 go before the commands
unfoldable pub concluded_addition : Bool → Option ℕ → Parsed → Parsed
concluded_addition false l c = bad R.Long 0
concluded_addition true (Some i) c = bad R.Letter i
concluded_addition true None c = c

-- the places of an addition's commands, or its refusal
unfoldable pub addition : Rec → Parsed
addition r =
    concluded_addition (leb (length r.stream) stream_limit && leb (length r.pool) pool_limit) (odd_letter r.pool)
    (parse_addition (length r.stream + 1) r.stream r.pool start)
