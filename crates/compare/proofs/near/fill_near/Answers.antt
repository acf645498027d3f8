use Rattle.compare.proofs.NearLaws.{near-clear, near-body}
use Rattle.compare.proofs.near.fill_near.Goals as goal

pub returns-in_default : goal.returns-in_default
returns-in_default c = search near-clear

pub returns : goal.returns
returns c = search near-body
