use Rattle.texts.proofs.BackLaws.{byte-out}
use Rattle.texts.proofs.back.agreed_by_bytes.Goals as goal
use Rattle.texts.proofs.back.agreed_by_bytes.Goals.{else-a-last-via-then-a-last+then-a-middle+else-a-b, else-a-last-via-then-a-last+else-a-middle, else-a-last-via-else-a-last}

pub returns-else-a-last : goal.returns-else-a-last
returns-else-a-last c = elim c.else-a-last.branch [
  | else-a-last-via-then-a-last+then-a-middle+else-a-b w ↦ byte-out _ _ _ w.if-a-b.false
  | else-a-last-via-then-a-last+else-a-middle w ↦ byte-out _ _ _ w.if-a-middle.false
  | else-a-last-via-else-a-last w ↦ byte-out _ _ _ w.if-a-last.false
]
