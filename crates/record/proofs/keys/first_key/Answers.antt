use Rattle.record.proofs.KeyLaws.{keys-whole}
use Rattle.record.proofs.keys.first_key.Goals as goal

pub returns : goal.returns
returns c = search keys-whole
