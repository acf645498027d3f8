use Rattle.record.proofs.KeyLaws.{walk-laws}
use Rattle.record.proofs.keys.next_stored_key.Goals as goal

pub returns-in-Structs : goal.returns-in-Structs
returns-in-Structs c = search walk-laws

pub returns-in-Keyed : goal.returns-in-Keyed
returns-in-Keyed c = search walk-laws

pub returns-in-Ended : goal.returns-in-Ended
returns-in-Ended c = search walk-laws
