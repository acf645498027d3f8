use Prim.Native.Nat.{◌-◌}
use lib.ListN.{length}
use Rattle.record.proofs.LeadLaws.{Leading}
use Rattle.record.proofs.leads.fill_leads.Given as goal

abbrev pub invariant-loop-place : goal.invariant-loop-place
invariant-loop-place l = Leading l.stream l.pool l.marks l.index l.initial.leads l.leads l.place

abbrev pub decreases-loop-place : goal.decreases-loop-place
decreases-loop-place l = length l.marks - l.place
