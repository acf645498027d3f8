use Rattle.record.proofs.JudgeLaws.{row-width, judged-laws}
use borrow.Author.Rules.{rules}
use Rattle.record.proofs.command.Cursor.judged.Goals as goal

pub returns-then-stream-at : goal.returns-then-stream-at
returns-then-stream-at c = search judged-laws

pub returns-then-width-eq0 : goal.returns-then-width-eq0
returns-then-width-eq0 c = search judged-laws

pub returns-then-stream-at-2 : goal.returns-then-stream-at-2
returns-then-stream-at-2 c = search judged-laws

pub judge-requires : goal.judge-requires
judge-requires c = search (row-width, rules)

pub returns-then-row : goal.returns-then-row
returns-then-row c = search judged-laws

pub returns : goal.returns
returns c = search judged-laws
