use Rattle.record.proofs.TextLaws.{kept, ended}
use Rattle.record.proofs.StepLaws.{bitfields-nearer}
use Rattle.verdicts.proofs.PassLaws.{handed}
use Rattle.compare.proofs.BitfieldLaws.{bitfields-begin, bitfields-laws}
use Rattle.compare.proofs.bitfields.check_bitfields.Goals as goal

pub loop-was-init : goal.loop-was-init
loop-was-init c = search bitfields-begin

pub returns : goal.returns
returns c = search (ended, bitfields-laws)

pub loop-was-smaller : goal.loop-was-smaller
loop-was-smaller c = search bitfields-nearer

pub loop-was-preserved : goal.loop-was-preserved
loop-was-preserved c = search (kept, bitfields-laws, c.in_ok-check_bitfield.was)

pub returns-in_err-check_bitfield : goal.returns-in_err-check_bitfield
returns-in_err-check_bitfield c = search (ended, bitfields-laws, handed, c.in_err-check_bitfield.was)
