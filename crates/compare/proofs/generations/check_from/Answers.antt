use Rattle.compare.proofs.GenerationLaws.{from-laws}
use Rattle.compare.proofs.generations.check_from.Goals as goal

pub returns-then-was : goal.returns-then-was
returns-then-was c = λ q. search from-laws

pub returns-then-was-ge4294967296 : goal.returns-then-was-ge4294967296
returns-then-was-ge4294967296 c = λ q. search from-laws

pub returns : goal.returns
returns c = λ q. search from-laws
