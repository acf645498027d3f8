use Rattle.drafts.proofs.ShelvedLaws.{row-set}
use Rattle.drafts.proofs.shelved.set_row.Goals as goal

pub returns : goal.returns
returns c = search row-set
