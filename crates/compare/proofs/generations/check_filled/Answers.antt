use Rattle.verdicts.proofs.PassLaws.{handed}
use Rattle.compare.proofs.GenerationLaws.{filled-laws}
use Rattle.compare.proofs.generations.check_filled.Goals as goal

pub returns-in_err-check_covered : goal.returns-in_err-check_covered
returns-in_err-check_covered c = search (filled-laws, handed, c.in_err-check_covered.was)

pub returns : goal.returns
returns c = search (filled-laws, c.in_ok-check_covered.was)
