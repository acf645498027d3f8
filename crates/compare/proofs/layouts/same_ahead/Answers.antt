use Rattle.compare.proofs.AlikeLaws.{ahead-sound, ahead-sound₀, ahead-same}
use Rattle.compare.proofs.layouts.same_ahead.Goals as goal

pub same_rest-requires : goal.same_rest-requires
same_rest-requires c = (search ahead-sound, search ahead-sound₀)

pub returns : goal.returns
returns c = search ahead-same
