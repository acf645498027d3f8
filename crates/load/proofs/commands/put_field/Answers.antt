use Rattle.load.proofs.PutLaws.{puts-field}
use Rattle.load.proofs.commands.put_field.Goals as goal

pub returns : goal.returns
returns c = search puts-field
