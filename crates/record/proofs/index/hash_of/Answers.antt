use Rattle.record.proofs.IndexLaws.{hash-laws}
use Rattle.record.proofs.index.hash_of.Goals as goal

pub returns-then-n-lt4 : goal.returns-then-n-lt4
returns-then-n-lt4 c = search hash-laws

pub returns : goal.returns
returns c = search hash-laws
