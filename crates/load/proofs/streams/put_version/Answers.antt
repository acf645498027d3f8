use Rattle.record.proofs.WriterLaws.{puts-as}
use Rattle.load.proofs.StreamLaws.{version-put}
use Rattle.load.proofs.streams.put_version.Goals as goal

pub returns : goal.returns
returns c = search (puts-as, version-put)
