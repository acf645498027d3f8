use Rattle.pointers.proofs.PointerLaws.{filled}
use Rattle.pointers.proofs.check.check_lent.Goals as goal

pub first_fault-requires : goal.first_fault-requires
first_fault-requires c = search filled
