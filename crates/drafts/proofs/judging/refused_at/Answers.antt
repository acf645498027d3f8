use Rattle.drafts.proofs.ShapeLaws.{refused-is}
use Rattle.drafts.proofs.judging.refused_at.Goals as goal

pub returns-in-Err : goal.returns-in-Err
returns-in-Err c = search refused-is
