use Rattle.layout.proofs.ListLaws.{refused-is}
use Rattle.layout.proofs.answer.refused.Goals as goal

pub returns : goal.returns
returns c = refused-is _ _ _ _ _ c.number.ensures c.number-2.ensures
