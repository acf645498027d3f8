-- The check's answer on bytes: 01, What a check returns. Assumes nothing.
use Rattle.std.specs.Prelude.{[], ℕ}
use Rattle.record.specs.Reading.{Rec, Reading, read, refuse, reading}
use Rattle.record.specs.declared.refusal.Side.TheVariants.{Current, Released}
use Rattle.layout.specs.Answer.{Answer, refusal_of, text_or}
use Rattle.definition.specs.Verdicts.{Verdict, pass, stop, word_number}
use Rattle.definition.specs.Compare.{compare}

-- 01: accepted: all zero, nothing written. A verdict has side 0, place 0 and the Rust's error text
unfoldable pub verdict_of : ℕ → Verdict → Answer
verdict_of room pass = record { number = 0; side = 0; place = 0; len = 0; text = [] }
verdict_of room (stop w m) = text_or room (word_number w) m

-- 01: the current record whole, then the released one
unfoldable pub answered : ℕ → Reading → Reading → Answer
answered room (refuse n p) rel = refusal_of Current n p
answered room (read c) (refuse n p) = refusal_of Released n p
answered room (read c) (read r) = verdict_of room (compare c r)

-- a current record, a released one, and the room in the lent buffer
unfoldable pub check : ℕ → Rec → Rec → Answer
check room cur rel = answered room (reading Current cur) (reading Released rel)
