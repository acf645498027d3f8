use Rattle.layout.proofs.FrontLaws.{fronts-differ}
use Rattle.layout.proofs.fronts.fronted_before.Goals as goal

pub returns-then-x-y : goal.returns-then-x-y
returns-then-x-y c =
    let m = rw c.in-Some-Some.is-0 at c.front_at-a.ensures in
    let n = rw c.in-Some-Some.is-1 at c.front_at-b.ensures in
    fronts-differ _ _ _ c.requires _ _ _ _ _ _ c.family_part.ensures c.family_part-2.ensures c.if-family_part.true
    c.place_part.ensures c.place_part-then-family_part.ensures _ _ m n c.if-x-y.true
