use Rattle.record.proofs.TextLaws.{kept, ended}
use Rattle.record.proofs.StepLaws.{members-nearer}
use Rattle.verdicts.proofs.PassLaws.{handed}
use Rattle.compare.proofs.BitfieldLaws.{members-laws}
use Rattle.compare.proofs.bitfields.check_members.Goals as goal

pub returns : goal.returns
returns c = search (ended, members-laws)

pub loop-was-smaller : goal.loop-was-smaller
loop-was-smaller c = search members-nearer

pub loop-was-preserved : goal.loop-was-preserved
loop-was-preserved c = search (kept, members-laws, c.in_ok-check_member.was)

pub returns-in_err-check_member : goal.returns-in_err-check_member
returns-in_err-check_member c = search (ended, members-laws, handed, c.in_err-check_member.was)
