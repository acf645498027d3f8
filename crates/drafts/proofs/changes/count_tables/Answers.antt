use Rattle.drafts.proofs.ChangedLaws.{counted-both}
use Rattle.drafts.proofs.changes.count_tables.Goals as goal

pub returns : goal.returns
returns c = search counted-both
