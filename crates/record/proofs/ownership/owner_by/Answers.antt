use Rattle.record.proofs.OwnerLaws.{answer-first, answer-second, answer-third}
use Rattle.record.proofs.ownership.owner_by.Goals as goal

pub returns-in-Some : goal.returns-in-Some
returns-in-Some c = λ g i l. search answer-first

pub returns-in-Some-owner_in : goal.returns-in-Some-owner_in
returns-in-Some-owner_in c = λ g i l. search answer-second

pub returns : goal.returns
returns c = λ g i l. search answer-third
