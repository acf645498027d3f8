use Rattle.compare.proofs.CoverageLaws.{cut-laws, cut_on}
use Rattle.compare.proofs.coverage.before_colons.Goals as goal

pub returns-then-colons_first : goal.returns-then-colons_first
returns-then-colons_first c = search cut-laws

pub loop-i-preserved : goal.loop-i-preserved
loop-i-preserved c = search cut_on

pub returns : goal.returns
returns c = search cut-laws
