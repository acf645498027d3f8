use Rattle.pointers.proofs.PointerLaws.{is-struct-laws}
use Rattle.pointers.proofs.rule.is_struct.Goals as goal

pub returns-in_default : goal.returns-in_default
returns-in_default c = search is-struct-laws

pub returns : goal.returns
returns c = search is-struct-laws
