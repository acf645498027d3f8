-- The answers of 01, What a check returns: number, side, place, length of the text, and the text; and what a call's answer says of one.
-- Assumes nothing.
use Rattle.std.specs.Prelude.{◌≡◌, [], cond, ℕ, leb, length}
use Rattle.record.specs.Base.{Str}
use Rattle.record.specs.Fill.{fronted}
use Rattle.record.specs.Refusals.{refusal_number, side_number}
use Rattle.record.specs.Reading.{Rec, Reading, read, refuse, reading}
use Rattle.record.specs.declared.refusal.Side.{Side}
use Rattle.record.specs.declared.refusal.Refusal.{Refusal}
use Rattle.layout.specs.Listing.{list_of}
use Rattle.layout.specs.declared.answer.Answer as D

-- 01: an answer is a number, a side, a place and a message length; with the text to be written
pub record Answer : Type 0 where
  pub number : ℕ
  pub side : ℕ
  pub place : ℕ
  pub len : ℕ
  pub text : Str

-- 01: numbers 1 to 9 write nothing and give length 0
unfoldable pub refusal_of : Side → Refusal → ℕ → Answer
refusal_of side n p = record { number = refusal_number n; side = side_number side; place = p; len = 0; text = [] }

-- a text under its number where there is room for it; else 01's 10, "no room": the length needed, and nothing written
unfoldable pub text_or : ℕ → ℕ → Str → Answer
text_or room number m =
    cond (leb (length m) room)
    (record { number = number; side = 0; place = 0; len = length m; text = m })
    (record { number = 10; side = 0; place = 0; len = length m; text = [] })

-- the list of a record's layouts, read as one side
unfoldable pub list_answer : ℕ → Side → Reading → Answer
list_answer room side (refuse n p) = refusal_of side n p
list_answer room side (read s) = text_or room 0 (list_of s)

unfoldable pub list : ℕ → Side → Rec → Answer
list room side r = list_answer room side (reading side r)

-- the buffer before and after, what is to be answered, and the answer: the text stands at the front, and the rest is as it was
pub record Answered (out after : Str) (a : Answer) (r : D.Answer) : Type 0 where
  pub number : r.number ≡ a.number
  pub side : r.side ≡ a.side
  pub place : r.place ≡ a.place
  pub len : r.len ≡ a.len
  pub buffer : after ≡ fronted out a.text
