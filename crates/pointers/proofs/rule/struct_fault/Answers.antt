use Rattle.pointers.proofs.PointerLaws.{struct-absent, struct-right, struct-other, struct-nothing}
use Rattle.pointers.proofs.rule.struct_fault.Goals as goal

pub returns-in_default : goal.returns-in_default
returns-in_default c = search struct-absent

pub returns-then-is_struct : goal.returns-then-is_struct
returns-then-is_struct c = search struct-right

pub returns-then-is_family : goal.returns-then-is_family
returns-then-is_family c = search struct-other

pub returns : goal.returns
returns c = search struct-nothing
