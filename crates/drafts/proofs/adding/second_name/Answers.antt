use Rattle.drafts.proofs.SumLaws.{second_is}
use Rattle.drafts.proofs.adding.second_name.Goals as goal

pub returns : goal.returns
returns c = search second_is
