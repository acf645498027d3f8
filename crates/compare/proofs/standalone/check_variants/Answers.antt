use Rattle.record.proofs.TextLaws.{kept, ended}
use Rattle.record.proofs.StepLaws.{variants-nearer}
use Rattle.verdicts.proofs.PassLaws.{handed}
use Rattle.compare.proofs.StandaloneLaws.{variants-end, variants-on, variants-stop}
use Rattle.compare.proofs.standalone.check_variants.Goals as goal

pub returns : goal.returns
returns c = search (ended, variants-end)

pub loop-variant-smaller : goal.loop-variant-smaller
loop-variant-smaller c = search variants-nearer

pub loop-variant-preserved : goal.loop-variant-preserved
loop-variant-preserved c = search (kept, variants-on, c.in_ok-check_pair.was)

pub returns-in_err-check_pair : goal.returns-in_err-check_pair
returns-in_err-check_pair c = search (ended, variants-stop, handed, c.in_err-check_pair.was)
