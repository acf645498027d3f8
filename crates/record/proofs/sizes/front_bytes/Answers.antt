use Rattle.record.proofs.IndexLaws.{no_index}
use Rattle.record.proofs.sizes.front_bytes.Goals as goal

pub returns : goal.returns
returns c = c.enum_bytes.ensures (no_index _ _)
