use Rattle.record.proofs.command.enum_at.Goals as goal

pub returns : goal.returns
returns c = cc
