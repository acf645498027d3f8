use Rattle.record.proofs.TextLaws.{kept, ended}
use Rattle.record.proofs.StepLaws.{families-nearer}
use Rattle.verdicts.proofs.PassLaws.{handed}
use Rattle.compare.proofs.StandaloneLaws.{families-begin, families-end, families-on, families-stop}
use Rattle.compare.proofs.standalone.check_standalone.Goals as goal

pub loop-m-init : goal.loop-m-init
loop-m-init c = search families-begin

pub returns : goal.returns
returns c = search (ended, families-end)

pub check_family-requires : goal.check_family-requires
check_family-requires c = c.requires

pub loop-m-smaller : goal.loop-m-smaller
loop-m-smaller c = search families-nearer

pub loop-m-preserved : goal.loop-m-preserved
loop-m-preserved c = search (kept, families-on, c.in_ok-check_family.was)

pub returns-in_err-check_family : goal.returns-in_err-check_family
returns-in_err-check_family c = search (ended, families-stop, handed, c.in_err-check_family.was)
