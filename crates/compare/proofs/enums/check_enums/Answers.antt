use Rattle.record.proofs.TextLaws.{kept, ended}
use Rattle.record.proofs.StepLaws.{enums-nearer}
use Rattle.verdicts.proofs.PassLaws.{handed}
use Rattle.compare.proofs.EnumLaws.{enums-begin, enums-laws}
use Rattle.compare.proofs.enums.check_enums.Goals as goal

pub loop-was-init : goal.loop-was-init
loop-was-init c = search enums-begin

pub returns : goal.returns
returns c = search (ended, enums-laws)

pub loop-was-smaller : goal.loop-was-smaller
loop-was-smaller c = search enums-nearer

pub loop-was-preserved : goal.loop-was-preserved
loop-was-preserved c = search (kept, enums-laws, c.in_ok-check_enum.was)

pub returns-in_err-check_enum : goal.returns-in_err-check_enum
returns-in_err-check_enum c = search (ended, enums-laws, handed, c.in_err-check_enum.was)
