use Rattle.record.proofs.command.alias_at.Goals as goal

pub returns : goal.returns
returns c = cc
