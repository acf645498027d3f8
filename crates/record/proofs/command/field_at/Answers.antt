use Rattle.record.proofs.command.field_at.Goals as goal

pub returns : goal.returns
returns c = cc
