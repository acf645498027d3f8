use Rattle.drafts.proofs.SumLaws.{sum-built}
use Rattle.drafts.proofs.adding.build_sum.Goals as goal

pub returns : goal.returns
returns c = search sum-built
