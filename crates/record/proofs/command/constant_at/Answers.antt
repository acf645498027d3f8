use Rattle.record.proofs.command.constant_at.Goals as goal

pub returns : goal.returns
returns c = cc
