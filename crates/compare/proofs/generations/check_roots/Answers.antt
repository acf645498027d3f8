use Rattle.verdicts.proofs.PassLaws.{handed}
use Rattle.compare.proofs.GenerationLaws.{roots-laws}
use Rattle.compare.proofs.generations.check_roots.Goals as goal

pub returns-in_err-check_slot : goal.returns-in_err-check_slot
returns-in_err-check_slot c = search (roots-laws, handed, c.in_err-check_slot.was)

pub returns-in_err-check_slot-2 : goal.returns-in_err-check_slot-2
returns-in_err-check_slot-2 c = search (roots-laws, handed, c.in_ok-check_slot.was, c.in_err-check_slot-2.was)

pub returns : goal.returns
returns c = search (roots-laws, c.in_ok-check_slot.was, c.in_ok-check_slot-2.was)
