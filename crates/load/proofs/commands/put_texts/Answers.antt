use Rattle.load.proofs.PutLaws.{puts-texts}
use Rattle.load.proofs.commands.put_texts.Goals as goal

pub returns : goal.returns
returns c = search puts-texts
