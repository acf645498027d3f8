use Rattle.record.proofs.TextLaws.{text-laws}
use Rattle.record.proofs.text.bytes_of.Goals as goal

pub returns-then-n-a : goal.returns-then-n-a
returns-then-n-a c = search text-laws

pub returns-then-n-a-2 : goal.returns-then-n-a-2
returns-then-n-a-2 c = search text-laws

pub returns : goal.returns
returns c = search text-laws
