use Rattle.load.proofs.StructureLaws.{plain-put}
use Rattle.load.proofs.structures.put_plain.Goals as goal

pub returns : goal.returns
returns c = search plain-put
