use Rattle.layout.proofs.NameLaws.{parts_laws}
use Rattle.layout.proofs.names.parts_before.Goals as goal

pub returns-then-k-l : goal.returns-then-k-l
returns-then-k-l c = search parts_laws

pub returns-else-same : goal.returns-else-same
returns-else-same c = search parts_laws
