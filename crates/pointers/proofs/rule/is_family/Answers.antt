use Rattle.pointers.proofs.PointerLaws.{is-family-laws}
use Rattle.pointers.proofs.rule.is_family.Goals as goal

pub returns-in_default : goal.returns-in_default
returns-in_default c = search is-family-laws

pub returns : goal.returns
returns c = search is-family-laws
