use Rattle.record.proofs.TextLaws.{kept, ended}
use Rattle.record.proofs.StepLaws.{bitfields-nearer}
use Rattle.verdicts.proofs.PassLaws.{handed}
use Rattle.compare.proofs.BitfieldReleaseLaws.{releases-begin, releases-laws}
use Rattle.compare.proofs.bitfield_releases.check_bitfield_releases.Goals as goal

pub loop-is-init : goal.loop-is-init
loop-is-init c = search releases-begin

pub returns : goal.returns
returns c = search (ended, releases-laws)

pub loop-is-smaller : goal.loop-is-smaller
loop-is-smaller c = search bitfields-nearer

pub loop-is-preserved : goal.loop-is-preserved
loop-is-preserved c = search (kept, releases-laws, c.in_ok-check_bitfield_arrived.was)

pub returns-in_err-check_bitfield_arrived : goal.returns-in_err-check_bitfield_arrived
returns-in_err-check_bitfield_arrived c = search (ended, releases-laws, handed, c.in_err-check_bitfield_arrived.was)
