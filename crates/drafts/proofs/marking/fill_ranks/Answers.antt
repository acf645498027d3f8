use mathlib.Core.Path.{◌≡◌}
use native.Mathlib.Omega.{arith}
use lib.ListN.{length}
use Rattle.drafts.proofs.MarkedLaws.{ranked-start, ranked-on, ranked-end}
use Rattle.drafts.proofs.marking.fill_ranks.Goals as goal

pub loop-i-init : goal.loop-i-init
loop-i-init c = search ranked-start

pub loop-i-preserved : goal.loop-i-preserved
loop-i-preserved c = search ranked-on

pub returns : goal.returns
returns c =
    let n : c.loop-i.i ≡ length c.args.marks.now = omega arith in
    rw (← n) (search ranked-end)
