use Rattle.record.proofs.command.member_at.Goals as goal

pub returns : goal.returns
returns c = cc
