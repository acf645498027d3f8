use Rattle.load.specs.Load.{outcome_at}
use Rattle.load.proofs.AnswerLaws.{outcome-none}
use Rattle.load.proofs.outcomes.Outcome.numbered.Goals as goal

pub returns-in-0 : goal.returns-in-0
unfolding outcome_at
returns-in-0 c = rw c.in-0.is

pub returns-in-20 : goal.returns-in-20
unfolding outcome_at
returns-in-20 c = rw c.in-20.is

pub returns-in-34 : goal.returns-in-34
unfolding outcome_at
returns-in-34 c = rw c.in-34.is

pub returns-in-35 : goal.returns-in-35
unfolding outcome_at
returns-in-35 c = rw c.in-35.is

pub returns-in-36 : goal.returns-in-36
unfolding outcome_at
returns-in-36 c = rw c.in-36.is

pub returns-in-43 : goal.returns-in-43
unfolding outcome_at
returns-in-43 c = rw c.in-43.is

pub returns-in_default : goal.returns-in_default
returns-in_default c = search outcome-none
