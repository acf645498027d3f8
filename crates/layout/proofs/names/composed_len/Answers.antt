use Rattle.layout.proofs.NameLaws.{composed-length}
use Rattle.layout.proofs.names.composed_len.Goals as goal

pub returns : goal.returns
returns c = search composed-length
