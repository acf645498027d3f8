use Rattle.drafts.specs.Code.{up_to}
use Rattle.drafts.specs.Packing.{texts_of}
use Rattle.record.specs.Commands.{commands_at}
use lib.ListN.{length}
use Prim.Native.Nat.{◌-◌}
use Rattle.drafts.proofs.MarkedLaws.{Marking}
use Rattle.drafts.proofs.marking.mark_commands.Given as goal

abbrev pub invariant-loop-place : goal.invariant-loop-place
invariant-loop-place l = Marking (texts_of l.stream (up_to l.to (commands_at l.stream l.from))) l.initial.marks l.marks (texts_of l.stream (up_to l.to (commands_at l.stream l.place)))

abbrev pub decreases-loop-place : goal.decreases-loop-place
decreases-loop-place l = length l.stream - l.place
