use Rattle.record.proofs.RootLaws.{root_laws}
use Rattle.record.proofs.marks.mark_root.Goals as goal

pub returns-in_default : goal.returns-in_default
returns-in_default c = search root_laws

pub returns : goal.returns
returns c = search root_laws
