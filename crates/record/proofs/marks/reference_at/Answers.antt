use Rattle.record.proofs.PlaceLaws.{reference-is}
use Rattle.record.proofs.marks.reference_at.Goals as goal

pub returns : goal.returns
returns c = search reference-is
