use Rattle.record.proofs.TextLaws.{kept, ended}
use Rattle.verdicts.proofs.PassLaws.{handed}
use Rattle.compare.proofs.ConstantLaws.{placed-laws}
use Rattle.compare.proofs.constants.check_placed.Goals as goal

pub returns-in_err-check_constant : goal.returns-in_err-check_constant
returns-in_err-check_constant c = search (ended, placed-laws, handed, c.in_err-check_constant.was)

pub loop-place-preserved : goal.loop-place-preserved
loop-place-preserved c = search (kept, placed-laws, c.in_ok-check_constant.was)

pub returns : goal.returns
returns c = search (ended, placed-laws)
