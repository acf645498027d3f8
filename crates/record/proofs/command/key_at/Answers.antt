use Rattle.record.proofs.command.key_at.Goals as goal

pub returns : goal.returns
returns c = cc
