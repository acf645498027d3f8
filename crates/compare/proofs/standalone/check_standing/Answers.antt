use Rattle.compare.proofs.StandaloneLaws.{standing-new, standing-same, standing-other}
use Rattle.compare.proofs.standalone.check_standing.Goals as goal

pub returns-in_default : goal.returns-in_default
returns-in_default c = search standing-new

pub returns-then-was-standalone : goal.returns-then-was-standalone
returns-then-was-standalone c = search standing-same

pub returns : goal.returns
returns c = search standing-other
