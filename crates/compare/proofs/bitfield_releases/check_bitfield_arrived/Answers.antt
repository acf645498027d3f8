use Rattle.verdicts.proofs.PassLaws.{handed}
use Rattle.compare.proofs.BitfieldReleaseLaws.{bitfield-laws}
use Rattle.compare.proofs.bitfield_releases.check_bitfield_arrived.Goals as goal

pub returns-in_err-check_arrived : goal.returns-in_err-check_arrived
returns-in_err-check_arrived c = search (bitfield-laws, handed, c.in_err-check_arrived.was)

pub returns : goal.returns
returns c = search (bitfield-laws, c.in_ok-check_arrived.was)
