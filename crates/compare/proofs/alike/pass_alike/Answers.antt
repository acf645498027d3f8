use Rattle.compare.proofs.AlikeLaws.{alike-here, alike-bodies}
use Rattle.compare.proofs.alike.pass_alike.Goals as goal

pub returns-in_default : goal.returns-in_default
returns-in_default c = search alike-here

pub returns-in_default-ahead : goal.returns-in_default-ahead
returns-in_default-ahead c = search alike-here

pub returns-then-is-was : goal.returns-then-is-was
returns-then-is-was c = search alike-here

pub returns : goal.returns
returns c = search alike-bodies
