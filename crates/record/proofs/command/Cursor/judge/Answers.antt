use Rattle.record.proofs.JudgeLaws.{fault-laws}
use Rattle.record.proofs.command.Cursor.judge.Goals as goal

pub returns-in-Outside : goal.returns-in-Outside
returns-in-Outside c = search fault-laws

pub returns-in-Missing : goal.returns-in-Missing
returns-in-Missing c = search fault-laws

pub returns-in-Flag : goal.returns-in-Flag
returns-in-Flag c = search fault-laws

pub returns-in-Fine : goal.returns-in-Fine
returns-in-Fine c = search fault-laws
