use Rattle.record.proofs.IndexLaws.{named-there}
use Rattle.record.proofs.index.declared_name.Goals as goal

pub returns : goal.returns
returns c = search named-there
