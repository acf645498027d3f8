use Rattle.record.specs.Base.{bytes}
use Rattle.record.proofs.VersionedLaws.{slots_filled}
use Rattle.record.proofs.versioned.filled_by.Goals as goal

pub returns : goal.returns
unfolding bytes
returns c = search slots_filled
