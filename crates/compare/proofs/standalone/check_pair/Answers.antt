use Rattle.compare.proofs.StandaloneLaws.{pair-now, pair_then, pair-none, pair_same, pair-changed, pair-sound, pair-sound-then}
use Rattle.compare.proofs.standalone.check_pair.Goals as goal

pub returns-in_default : goal.returns-in_default
returns-in_default c = search pair-none

pub same_layout-requires : goal.same_layout-requires
same_layout-requires c = (search pair-now, search pair_then)

pub returns-then-same_layout : goal.returns-then-same_layout
returns-then-same_layout c = search pair_same

pub gained-change-requires : goal.gained-change-requires
gained-change-requires c = (search pair-sound, search pair-sound-then)

pub returns : goal.returns
returns c = search pair-changed
