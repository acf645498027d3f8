use Rattle.record.proofs.TextLaws.{kept, ended}
use Rattle.record.proofs.StepLaws.{members-nearer}
use Rattle.verdicts.proofs.PassLaws.{handed}
use Rattle.compare.proofs.BitfieldReleaseLaws.{members-laws}
use Rattle.compare.proofs.bitfield_releases.check_members_arrived.Goals as goal

pub returns : goal.returns
returns c = search (ended, members-laws)

pub loop-m-smaller : goal.loop-m-smaller
loop-m-smaller c = search members-nearer

pub loop-m-preserved : goal.loop-m-preserved
loop-m-preserved c = search (kept, members-laws, c.in_ok-check_member_arrived.was)

pub returns-in_err-check_member_arrived : goal.returns-in_err-check_member_arrived
returns-in_err-check_member_arrived c = search (ended, members-laws, handed, c.in_err-check_member_arrived.was)
