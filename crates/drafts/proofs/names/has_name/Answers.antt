use Rattle.drafts.proofs.RowLaws.{named-row}
use Rattle.drafts.proofs.names.has_name.Goals as goal

pub returns : goal.returns
returns c = search named-row
