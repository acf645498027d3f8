use Rattle.record.proofs.GenerationLaws.{version-laws}
use Rattle.record.proofs.generation.held_by.Goals as goal

pub returns-in_default : goal.returns-in_default
returns-in_default c = search version-laws

pub returns-in_default-held : goal.returns-in_default-held
returns-in_default-held c = search version-laws

pub returns-then-c : goal.returns-then-c
returns-then-c c = search version-laws

pub returns-in_default-try_from : goal.returns-in_default-try_from
returns-in_default-try_from c = let h = c.in_default-try_from.ensures in search version-laws

pub returns : goal.returns
returns c = rw c.in-Ok.ensures.1 (search (version-laws, c.in-Ok.ensures.0))
