use Rattle.record.proofs.JudgeLaws.{absent-laws}
use Rattle.record.proofs.judge.if_absent.Goals as goal

pub returns-in-79 : goal.returns-in-79
returns-in-79 c = search absent-laws

pub returns-in-Current : goal.returns-in-Current
returns-in-Current c = search absent-laws

pub returns-in-Released : goal.returns-in-Released
returns-in-Released c = search absent-laws

pub returns-then-flag_at : goal.returns-then-flag_at
returns-then-flag_at c = search absent-laws

pub returns-else-flag_at : goal.returns-else-flag_at
returns-else-flag_at c = search absent-laws

pub returns-in_default : goal.returns-in_default
returns-in_default c = search absent-laws
