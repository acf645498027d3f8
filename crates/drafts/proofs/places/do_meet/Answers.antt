use mathlib.Core.Path.{◌∙◌}
use Rattle.drafts.proofs.PlaceLaws.{meet-none, meet-nothing, meet-both, meet-first}
use Rattle.drafts.proofs.places.do_meet.Goals as goal
use Rattle.drafts.proofs.places.do_meet.Goals.{then-size-eq0-via-then-size-eq0, then-size-eq0-via-else-size-eq0+then-len-eq0}

pub returns-then-size-eq0 : goal.returns-then-size-eq0
returns-then-size-eq0 c =
    elim c.then-size-eq0.branch [
      | then-size-eq0-via-then-size-eq0 w ↦ search meet-none
      | then-size-eq0-via-else-size-eq0+then-len-eq0 w ↦ search meet-nothing
    ]

pub returns-then-ends_behind : goal.returns-then-ends_behind
returns-then-ends_behind c = search meet-both

pub returns-else-ends_behind : goal.returns-else-ends_behind
returns-else-ends_behind c = c.if-ends_behind.false ∙ search meet-first
