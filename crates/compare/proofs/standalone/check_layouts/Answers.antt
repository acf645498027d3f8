use Rattle.verdicts.proofs.PassLaws.{handed}
use Rattle.compare.proofs.StandaloneLaws.{layouts-own, layouts-rest}
use Rattle.compare.proofs.standalone.check_layouts.Goals as goal

pub returns-in_err-check_pair : goal.returns-in_err-check_pair
returns-in_err-check_pair c = search (layouts-own, handed, c.in_err-check_pair.was)

pub returns : goal.returns
returns c = search (layouts-rest, c.in_ok-check_pair.was)
