use Rattle.drafts.proofs.JudgingLaws.{addition-long, addition-wide, addition-letter}
use Rattle.drafts.proofs.ShapeLaws.{addition-shaped}
use Rattle.drafts.proofs.judging.read_addition.Goals as goal
use Rattle.drafts.proofs.judging.read_addition.Goals.{then-stream-gt32768-via-then-stream-gt32768, then-stream-gt32768-via-else-stream-gt32768+then-pool-gt16384}

pub returns-then-stream-gt32768 : goal.returns-then-stream-gt32768
returns-then-stream-gt32768 c =
    elim c.then-stream-gt32768.branch [
      | then-stream-gt32768-via-then-stream-gt32768 w ↦ search addition-long
      | then-stream-gt32768-via-else-stream-gt32768+then-pool-gt16384 w ↦ search addition-wide
    ]

pub returns-in-Some : goal.returns-in-Some
returns-in-Some c = search addition-letter

pub returns : goal.returns
returns c = search addition-shaped
