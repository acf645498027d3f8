use Rattle.compare.proofs.HeadLaws.{not-unreleased, its-flag}
use Rattle.compare.proofs.heads.head_unreleased.Goals as goal

pub returns-in_default : goal.returns-in_default
returns-in_default c = search not-unreleased

pub returns : goal.returns
returns c = search its-flag
