use Rattle.texts.proofs.BackLaws.{word-tested}
use Rattle.texts.proofs.back.same_word.Goals as goal

pub returns : goal.returns
returns c = word-tested _ _ c.shared_slice_known-1.given c.shared_slice_known-2-1.given _ _ _ c.word.ensures c.word-2.ensures
