use Rattle.record.proofs.command.bitfield_at.Goals as goal

pub returns : goal.returns
returns c = cc
