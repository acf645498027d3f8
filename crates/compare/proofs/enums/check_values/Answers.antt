use Rattle.record.proofs.TextLaws.{kept, ended}
use Rattle.record.proofs.StepLaws.{values-nearer}
use Rattle.verdicts.proofs.PassLaws.{handed}
use Rattle.compare.proofs.EnumLaws.{values-laws}
use Rattle.compare.proofs.enums.check_values.Goals as goal

pub returns : goal.returns
returns c = search (ended, values-laws)

pub loop-was-smaller : goal.loop-was-smaller
loop-was-smaller c = search values-nearer

pub loop-was-preserved : goal.loop-was-preserved
loop-was-preserved c = search (kept, values-laws, c.in_ok-check_value.was)

pub returns-in_err-check_value : goal.returns-in_err-check_value
returns-in_err-check_value c = search (ended, values-laws, handed, c.in_err-check_value.was)
