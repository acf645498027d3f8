use Rattle.record.proofs.TextLaws.{kept, ended}
use Rattle.record.proofs.StepLaws.{values-nearer}
use Rattle.verdicts.proofs.PassLaws.{handed}
use Rattle.compare.proofs.FirstReleaseLaws.{value-arrivals-laws}
use Rattle.compare.proofs.first_releases.check_value_arrivals.Goals as goal

pub returns : goal.returns
returns c = search (ended, value-arrivals-laws)

pub loop-is-smaller : goal.loop-is-smaller
loop-is-smaller c = search values-nearer

pub loop-is-preserved : goal.loop-is-preserved
loop-is-preserved c = search (kept, value-arrivals-laws, c.in_ok-check_value_arrival.was)

pub returns-in_err-check_value_arrival : goal.returns-in_err-check_value_arrival
returns-in_err-check_value_arrival c = search (ended, value-arrivals-laws, handed, c.in_err-check_value_arrival.was)
