use Rattle.record.proofs.TextLaws.{kept}
use Rattle.record.proofs.ListingLaws.{naming-none, naming-hit, naming-miss, naming-nearer}
use Rattle.record.proofs.lists.find.Goals as goal

pub returns-in_default : goal.returns-in_default
returns-in_default g c = let t = naming-none g.E.Listed.list g.E.Named.naming g.met.E.Named.along in search t

pub returns-then-same : goal.returns-then-same
returns-then-same g c = let t = naming-hit g.E.Listed.list g.E.Named.naming g.met.E.Named.along in search t

pub loop-e-smaller : goal.loop-e-smaller
loop-e-smaller g c = naming-nearer g.E.Listed.list g.E.Named.naming g.met.E.Named.along _ _ _ c.in-Some.ensures

pub loop-e-preserved : goal.loop-e-preserved
loop-e-preserved g c = let t = naming-miss g.E.Listed.list g.E.Named.naming g.met.E.Named.along in search (kept, t)
