use Rattle.record.proofs.command.family_at.Goals as goal

pub returns : goal.returns
returns c = cc
