use Rattle.record.proofs.SeekLaws.{after-laws}
use Rattle.record.proofs.seek.end_of.Goals as goal

pub returns-then-byte-eq15 : goal.returns-then-byte-eq15
returns-then-byte-eq15 c = search after-laws

pub returns-then-width-eq0 : goal.returns-then-width-eq0
returns-then-width-eq0 c = search after-laws

pub returns-then-s-at : goal.returns-then-s-at
returns-then-s-at c = search after-laws

pub returns : goal.returns
returns c = search after-laws
