use Rattle.drafts.proofs.PutLaws.{command-put}
use Rattle.drafts.proofs.writing.put_command.Goals as goal

pub returns : goal.returns
returns c = search command-put
