use Rattle.drafts.specs.Code.{start_of, up_to}
use Rattle.drafts.specs.Packing.{written}
use Rattle.record.specs.Commands.{commands_at}
use Rattle.record.specs.Fill.{joined}
use lib.ListN.{length}
use Prim.Native.Nat.{◌-◌}
use Rattle.drafts.proofs.PutLaws.{Putting}
use Rattle.drafts.proofs.writing.put_commands.Given as goal

abbrev pub invariant-loop-place : goal.invariant-loop-place
invariant-loop-place l = Putting l.initial.out l.at (joined (written (start_of l.base l.ranks) l.stream (up_to l.to (commands_at l.stream l.from)))) l.out l.end (joined (written (start_of l.base l.ranks) l.stream (up_to l.to (commands_at l.stream l.place))))

abbrev pub decreases-loop-place : goal.decreases-loop-place
decreases-loop-place l = length l.stream - l.place
