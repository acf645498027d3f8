use Rattle.record.proofs.command.struct_at.Goals as goal

pub returns : goal.returns
returns c = cc
