use Rattle.drafts.proofs.SumLaws.{more-packed}
use Rattle.drafts.proofs.adding.pack_more.Goals as goal

pub returns : goal.returns
returns c = search more-packed
