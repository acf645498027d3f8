use Rattle.texts.proofs.BackLaws.{half-tested}
use Rattle.texts.proofs.back.same_half.Goals as goal

pub returns : goal.returns
returns c = half-tested _ _ c.shared_slice_known-1.given c.shared_slice_known-2-1.given _ _ _ c.half.ensures.0 c.half-2.ensures.0
