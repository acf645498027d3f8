use Rattle.drafts.proofs.ShapeLaws.{read-vast, read_kept}
use Rattle.drafts.proofs.judging.commands_read.Goals as goal

pub returns-then-is_vast : goal.returns-then-is_vast
returns-then-is_vast c = search read-vast

pub returns-else-is_vast : goal.returns-else-is_vast
returns-else-is_vast c = search read_kept
