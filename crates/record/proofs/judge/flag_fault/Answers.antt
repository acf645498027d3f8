use Rattle.record.proofs.JudgeLaws.{flag-laws}
use Rattle.record.proofs.judge.flag_fault.Goals as goal

pub returns-then-flag-lt2 : goal.returns-then-flag-lt2
returns-then-flag-lt2 c = search flag-laws

pub returns-else-flag-lt2 : goal.returns-else-flag-lt2
returns-else-flag-lt2 c = search flag-laws
