use Rattle.record.proofs.IndexLaws.{no_index}
use Rattle.record.proofs.sizes.size_unindexed.Goals as goal

pub returns : goal.returns
returns c = c.field_size.ensures (no_index _ _)
