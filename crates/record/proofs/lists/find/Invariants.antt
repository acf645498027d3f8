use mathlib.Core.Path.{◌≡◌}
use Prim.Native.Nat.{◌-◌}
use lib.ListN.{length}
use Rattle.record.specs.Listing.{named_at}
use Rattle.record.proofs.lists.find.Given as goal

abbrev pub invariant-loop-e : goal.invariant-loop-e
invariant-loop-e g l =
    let m = g.E.Named.naming in
    named_at m.list.elements m.name_of l.stream l.pool l.initial.cursor.at l.name ≡ named_at m.list.elements m.name_of l.stream l.pool l.cursor.at l.name

abbrev pub decreases-loop-e : goal.decreases-loop-e
decreases-loop-e g l = length l.stream - l.cursor.at
