use Rattle.record.proofs.KeyLaws.{stored-whole}
use Rattle.record.proofs.keys.first_stored.Goals as goal

pub returns : goal.returns
returns c = search stored-whole
