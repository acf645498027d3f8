use Rattle.layout.proofs.constants.placed_constant.Goals as goal

pub returns : goal.returns
returns c = cc
