use Rattle.drafts.proofs.FinishLaws.{finish-long, finish-wide, finish-settled}
use Rattle.drafts.proofs.editing.finish.Goals as goal
use Rattle.drafts.proofs.editing.finish.Goals.{then-ends-gt32768-via-then-ends-gt32768, then-ends-gt32768-via-else-ends-gt32768+then-ends-gt16384}

pub returns-then-ends-gt32768 : goal.returns-then-ends-gt32768
returns-then-ends-gt32768 c =
    elim c.then-ends-gt32768.branch [
      | then-ends-gt32768-via-then-ends-gt32768 w ↦ search finish-long
      | then-ends-gt32768-via-else-ends-gt32768+then-ends-gt16384 w ↦ search finish-wide
    ]

pub returns : goal.returns
returns c = search finish-settled
