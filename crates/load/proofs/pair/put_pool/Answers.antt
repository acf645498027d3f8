use Rattle.load.specs.Pool as W
use Rattle.record.specs.Base.{bytes}
use mathlib.Core.Path.{refl}
use Rattle.load.proofs.AnswerLaws.{pool-put}
use Rattle.load.proofs.pair.put_pool.Goals as goal

pub returns : goal.returns
unfolding W.pool W.struct_names W.field_names W.kind_texts W.word_texts bytes
returns c = pool-put _ _ _ _ _ _ _ c.put_len-next.ensures c.put.ensures refl
