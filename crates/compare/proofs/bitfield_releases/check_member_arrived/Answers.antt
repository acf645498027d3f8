use Rattle.compare.proofs.BitfieldReleaseLaws.{member-arrived}
use Rattle.compare.proofs.bitfield_releases.check_member_arrived.Goals as goal

pub returns : goal.returns
returns c = search member-arrived
