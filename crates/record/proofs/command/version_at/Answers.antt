use Rattle.record.proofs.command.version_at.Goals as goal

pub returns : goal.returns
returns c = cc
