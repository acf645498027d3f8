use Rattle.compare.proofs.FirstReleaseLaws.{passed-laws}
use Rattle.compare.proofs.first_releases.passed_if.Goals as goal

pub returns-then-holds : goal.returns-then-holds
returns-then-holds c = search passed-laws

pub returns : goal.returns
returns c = search passed-laws
