use native.Mathlib.Omega.{arith}
use Rattle.layout.proofs.LineLaws.{lining-start, lining-next, lining-end, lining-body, body_near}
use Rattle.layout.proofs.SpotLaws.{spots-nearer}
use borrow.Author.Rules.{rules}
use Rattle.layout.proofs.lines.put_type.Goals as goal

pub loop-k-init : goal.loop-k-init
loop-k-init c =
    let s = c in
    lining-start _ _ _ _ _ _ _ _ (omega (arith, s.ranges.at.fits)) s.requires.0 s.requires.1 s.requires.2 c.first_spot-cursor.ensures

pub returns-in-Body : goal.returns-in-Body
returns-in-Body c = (search lining-body, search body_near)

pub returns-in_default-next_spot : goal.returns-in_default-next_spot
returns-in_default-next_spot c = lining-end _ _ _ _ _ c.loop-k.invariant _ c.next_spot.ensures (search rules) (omega arith)

pub loop-k-smaller : goal.loop-k-smaller
loop-k-smaller c = search spots-nearer

pub loop-k-preserved : goal.loop-k-preserved
loop-k-preserved c = search lining-next
