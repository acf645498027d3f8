use Rattle.drafts.proofs.MarkedLaws.{command-marked}
use Rattle.drafts.proofs.marking.mark_command.Goals as goal

pub returns : goal.returns
returns c = search command-marked
