use Rattle.record.proofs.CommandLaws.{step-laws}
use Rattle.record.proofs.command.Cursor.next.Goals as goal

pub returns-then-s-at : goal.returns-then-s-at
returns-then-s-at c = search step-laws

pub returns-then-byte-eq15 : goal.returns-then-byte-eq15
returns-then-byte-eq15 c = search step-laws

pub returns-then-width-eq0 : goal.returns-then-width-eq0
returns-then-width-eq0 c = search step-laws

pub returns-then-s-at-2 : goal.returns-then-s-at-2
returns-then-s-at-2 c = search step-laws

pub returns : goal.returns
returns c = search step-laws
