use Rattle.pointers.proofs.PointerLaws.{family-absent, family-right, family-other, family-nothing}
use Rattle.pointers.proofs.rule.family_fault.Goals as goal

pub returns-in_default : goal.returns-in_default
returns-in_default c = search family-absent

pub returns-then-is_family : goal.returns-then-is_family
returns-then-is_family c = search family-right

pub returns-then-is_struct : goal.returns-then-is_struct
returns-then-is_struct c = search family-other

pub returns : goal.returns
returns c = search family-nothing
