use Rattle.compare.proofs.HeadLaws.{no-release, its-release}
use Rattle.compare.proofs.heads.head_release.Goals as goal

pub returns-in_default : goal.returns-in_default
returns-in_default c = search no-release

pub returns : goal.returns
returns c = search its-release
