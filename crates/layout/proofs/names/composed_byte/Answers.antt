use Rattle.layout.proofs.NameLaws.{byte_laws}
use Rattle.layout.proofs.names.composed_byte.Goals as goal

pub returns-then-i-f : goal.returns-then-i-f
returns-then-i-f c = search byte_laws

pub returns-then-j-k : goal.returns-then-j-k
returns-then-j-k c = search byte_laws

pub returns : goal.returns
returns c = search byte_laws
