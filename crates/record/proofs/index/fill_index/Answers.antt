use native.Mathlib.Omega.{arith}
use Rattle.record.proofs.index.fill_index.Goals as goal

pub returns-then-stream-gt32768 : goal.returns-then-stream-gt32768
returns-then-stream-gt32768 c = λ h r. absurd (omega (arith, c.if-stream-gt32768.true))

pub returns-then-index-stream : goal.returns-then-index-stream
returns-then-index-stream c = λ h r. absurd (omega (arith, c.if-index-stream.true))

pub returns : goal.returns
returns c = λ h r. c.fill_room.ensures
