use Rattle.pointers.proofs.PointerLaws.{field-fault-laws}
use Rattle.pointers.proofs.rule.field_fault.Goals as goal

pub returns-in-Unjudged : goal.returns-in-Unjudged
returns-in-Unjudged c = search field-fault-laws

pub returns-in-ToStruct : goal.returns-in-ToStruct
returns-in-ToStruct c = search field-fault-laws

pub returns-in-ToFamily : goal.returns-in-ToFamily
returns-in-ToFamily c = search field-fault-laws
