use Rattle.drafts.specs.Edits.{after_parts}
use Rattle.record.specs.Commands.{commands_at}
use mathlib.Core.Path.{◌≡◌}
use lib.ListN.{length}
use Prim.Native.Nat.{◌-◌}
use Rattle.drafts.proofs.find.past_parts.Given as goal

abbrev pub invariant-loop-from : goal.invariant-loop-from
invariant-loop-from l = after_parts l.stream (commands_at l.stream l.from) ≡ after_parts l.stream (commands_at l.stream l.at)

abbrev pub decreases-loop-from : goal.decreases-loop-from
decreases-loop-from l = length l.stream - l.at
