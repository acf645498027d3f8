use Rattle.record.proofs.KeyLaws.{all-key-laws}
use Rattle.record.proofs.keys.next_plugin_key.Goals as goal

pub returns-in_default : goal.returns-in_default
returns-in_default c = search all-key-laws

pub returns-in-Some : goal.returns-in-Some
returns-in-Some c = search all-key-laws

pub returns-in-Unstored : goal.returns-in-Unstored
returns-in-Unstored c = search all-key-laws
