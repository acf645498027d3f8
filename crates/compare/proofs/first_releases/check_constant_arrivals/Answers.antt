use Rattle.record.proofs.TextLaws.{kept, ended}
use Rattle.record.proofs.StepLaws.{constants-nearer}
use Rattle.verdicts.proofs.PassLaws.{handed}
use Rattle.compare.proofs.FirstReleaseLaws.{constants-begin, constant-arrivals-laws}
use Rattle.compare.proofs.first_releases.check_constant_arrivals.Goals as goal

pub loop-is-init : goal.loop-is-init
loop-is-init c = search constants-begin

pub returns : goal.returns
returns c = search (ended, constant-arrivals-laws)

pub loop-is-smaller : goal.loop-is-smaller
loop-is-smaller c = search constants-nearer

pub loop-is-preserved : goal.loop-is-preserved
loop-is-preserved c = search (kept, constant-arrivals-laws, c.in_ok-check_constant_arrival.was)

pub returns-in_err-check_constant_arrival : goal.returns-in_err-check_constant_arrival
returns-in_err-check_constant_arrival c = search (ended, constant-arrivals-laws, handed, c.in_err-check_constant_arrival.was)
