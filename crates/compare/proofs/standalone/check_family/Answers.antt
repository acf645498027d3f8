use Rattle.verdicts.proofs.PassLaws.{handed}
use Rattle.compare.proofs.StandaloneLaws.{family-standing, family-owned, family-shipped}
use Rattle.compare.proofs.standalone.check_family.Goals as goal

pub returns-in_err-check_standing : goal.returns-in_err-check_standing
returns-in_err-check_standing c = search (family-standing, handed, c.in_err-check_standing.was)

pub returns-then-m : goal.returns-then-m
returns-then-m c = search (family-shipped, c.in_ok-check_standing.was)

pub returns : goal.returns
returns c = search (family-owned, c.in_ok-check_standing.was)
