use Rattle.record.proofs.command.variant_at.Goals as goal

pub returns : goal.returns
returns c = cc
