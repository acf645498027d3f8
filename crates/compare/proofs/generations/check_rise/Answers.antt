use Rattle.compare.proofs.GenerationLaws.{rise-laws}
use Rattle.compare.proofs.generations.check_rise.Goals as goal

pub returns-then-is-was : goal.returns-then-is-was
returns-then-is-was c = λ q. search rise-laws

pub returns-then-is-was-2 : goal.returns-then-is-was-2
returns-then-is-was-2 c = λ q. search rise-laws

pub returns-then-is-was-ne1 : goal.returns-then-is-was-ne1
returns-then-is-was-ne1 c = λ q. search rise-laws

pub returns-then-is_listed : goal.returns-then-is_listed
returns-then-is_listed c = λ q. search rise-laws

pub returns : goal.returns
returns c = λ q. search rise-laws
