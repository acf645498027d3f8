use Rattle.record.proofs.command.value_at.Goals as goal

pub returns : goal.returns
returns c = cc
