use borrow.Enum.Refused.{opened}
use Rattle.record.proofs.ReferenceLaws.{reference-laws}
use Rattle.record.proofs.references.referenced_type.Goals as goal

pub returns-in-StructPtr : goal.returns-in-StructPtr
returns-in-StructPtr c = search reference-laws

pub returns-in-StructArrayPtr : goal.returns-in-StructArrayPtr
returns-in-StructArrayPtr c = search reference-laws

pub returns-in_default : goal.returns-in_default
returns-in_default c = search (reference-laws, opened)
