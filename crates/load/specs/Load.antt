-- The load call of 02, W-213: a pair as bytes, and the call's answer. Assumes nothing.
use Rattle.std.specs.Prelude.{[], ◌++◌, cond, ℕ, eqb, leb, length, Option, Some, None}
use Rattle.record.specs.Base.{Str}
use Rattle.layout.specs.Answer.{Answer, text_or}
use Rattle.load.specs.Pool.{pool}
use Rattle.load.specs.Commands.{w4}
use Rattle.load.specs.Draws.{setting_of}
use Rattle.load.specs.Generator.{released_commands, current_commands, stream_of}
use Rattle.load.specs.declared.outcomes.Outcome.{Outcome}
use Rattle.load.specs.declared.outcomes.Outcome.TheVariants as O

-- a part of the check program's input, which 01 describes: a length of four bytes, the lowest first, and as many bytes
unfoldable pub part : Str → Str
part s = w4 (length s) s

-- the two streams of a seed
unfoldable pub now_stream : ℕ → Outcome → Str
now_stream seed o = stream_of (current_commands (setting_of seed) o)

unfoldable pub was_stream : ℕ → Str
was_stream seed = stream_of (released_commands (setting_of seed))

-- 02: "The pair is written as the check program's four parts": current stream and pool, released stream and pool
unfoldable pub pair_of : ℕ → Outcome → Str
pair_of seed o = part (now_stream seed o) ++ (part pool ++ (part (was_stream seed) ++ part pool))

-- 02: "the wanted outcome (accepted, or one named verdict among 20, 34, 35, 36 and 43) is an operand"; any other number names none
unfoldable pub outcome_at : ℕ → Option Outcome
outcome_at n =
    cond (eqb n 0) (Some O.Accepted)
    (cond (eqb n 20) (Some O.ConstantGone)
    (cond (eqb n 34) (Some O.FieldGone)
    (cond (eqb n 35) (Some O.FieldMoved)
    (cond (eqb n 36) (Some O.FieldResized)
    (cond (eqb n 43) (Some O.Unraised) None)))))

-- 02: "Errors: 61 another outcome or a seed above 2147483647, before 10"
unfoldable pub unfit : Answer
unfit = record { number = 61; side = 0; place = 0; len = 0; text = [] }

unfoldable pub load_as : ℕ → ℕ → Option Outcome → Answer
load_as room seed None = unfit
load_as room seed (Some o) = text_or room 0 (pair_of seed o)

-- by the room in the lent buffer, the outcome's number and the seed: 61, or the pair with 0, or 10 with its length
unfoldable pub load : ℕ → ℕ → ℕ → Answer
load room outcome seed = cond (leb seed 2147483647) (load_as room seed (outcome_at outcome)) unfit
