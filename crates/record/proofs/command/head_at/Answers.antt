use Rattle.record.proofs.command.head_at.Goals as goal

pub returns : goal.returns
returns c = cc
