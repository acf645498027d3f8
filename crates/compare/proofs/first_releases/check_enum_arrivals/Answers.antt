use Rattle.record.proofs.TextLaws.{kept, ended}
use Rattle.record.proofs.StepLaws.{enums-nearer}
use Rattle.verdicts.proofs.PassLaws.{handed}
use Rattle.compare.proofs.FirstReleaseLaws.{enums-begin, enum-arrivals-laws}
use Rattle.compare.proofs.first_releases.check_enum_arrivals.Goals as goal

pub loop-is-init : goal.loop-is-init
loop-is-init c = search enums-begin

pub returns : goal.returns
returns c = search (ended, enum-arrivals-laws)

pub loop-is-smaller : goal.loop-is-smaller
loop-is-smaller c = search enums-nearer

pub loop-is-preserved : goal.loop-is-preserved
loop-is-preserved c = search (kept, enum-arrivals-laws, c.in_ok-check_enum_arrival.was)

pub returns-in_err-check_enum_arrival : goal.returns-in_err-check_enum_arrival
returns-in_err-check_enum_arrival c = search (ended, enum-arrivals-laws, handed, c.in_err-check_enum_arrival.was)
