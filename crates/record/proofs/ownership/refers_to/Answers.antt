use Rattle.std.proofs.Common.{◌∙◌}
use Rattle.record.proofs.OwnerLaws.{refers-not}
use Rattle.record.proofs.ownership.refers_to.Goals as goal
use Rattle.record.proofs.ownership.refers_to.Goals.{then-is_text, else-is_text}

pub returns-else-maybe : goal.returns-else-maybe
returns-else-maybe c = elim c.if-is_text.branch [
  | then-is_text w ↦ absurd (cc)
  | else-is_text w ↦ c.if-maybe.false ∙ refers-not _ _ _ _ _ _ _ _ _ c.from-bytes.ensures c.opt_text_at.ensures c.is_text.ensures w.if-is_text.false w.opt_text_at-else-is_text.ensures w.is_text-maybe.ensures (cc)
]
