use Rattle.layout.proofs.SortLaws.{run_end, run-next}
use Rattle.layout.proofs.sort.ends_run.Goals as goal

pub returns-then-handles-j : goal.returns-then-handles-j
returns-then-handles-j c = search run_end

pub returns : goal.returns
returns c = search run-next
