use Rattle.record.proofs.KeyLaws.{unstored-key-laws}
use Rattle.record.proofs.keys.next_unstored_key.Goals as goal

pub returns-in_default : goal.returns-in_default
returns-in_default c = search unstored-key-laws

pub returns : goal.returns
returns c = search unstored-key-laws
