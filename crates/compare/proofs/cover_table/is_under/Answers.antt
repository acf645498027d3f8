use Rattle.compare.proofs.CoverTableLaws.{under_low, under-root}
use Rattle.compare.proofs.cover_table.is_under.Goals as goal

pub returns-then-entry-lt2 : goal.returns-then-entry-lt2
returns-then-entry-lt2 c = search under_low

pub returns : goal.returns
returns c = search under-root
