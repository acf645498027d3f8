use Rattle.record.proofs.JudgeLaws.{ready-laws}
use Rattle.record.proofs.command.Cursor.ready.Goals as goal

pub returns-then-end-stream : goal.returns-then-end-stream
returns-then-end-stream c = search ready-laws

pub returns-then-byte-eq15 : goal.returns-then-byte-eq15
returns-then-byte-eq15 c = search ready-laws

pub returns : goal.returns
returns c = search ready-laws
