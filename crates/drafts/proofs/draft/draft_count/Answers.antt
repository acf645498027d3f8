use Rattle.drafts.proofs.OpeningLaws.{count-built}
use Rattle.drafts.proofs.draft.draft_count.Goals as goal

pub returns : goal.returns
returns c = search count-built
