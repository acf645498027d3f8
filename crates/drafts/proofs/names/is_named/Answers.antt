use Rattle.drafts.proofs.RowLaws.{named-free, named-long, named-same}
use Rattle.drafts.proofs.names.is_named.Goals as goal
use Rattle.drafts.proofs.names.is_named.Goals.{then-letters-eq0-via-then-letters-eq0, then-letters-eq0-via-else-letters-eq0+then-letters-gt16}

pub returns-then-letters-eq0 : goal.returns-then-letters-eq0
returns-then-letters-eq0 c =
    elim c.then-letters-eq0.branch [
      | then-letters-eq0-via-then-letters-eq0 w ↦ search named-free
      | then-letters-eq0-via-else-letters-eq0+then-letters-gt16 w ↦ search named-long
    ]

pub returns : goal.returns
returns c = search named-same
