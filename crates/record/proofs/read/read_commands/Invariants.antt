use mathlib.Core.Path.{◌≡◌}
use Prim.Native.Nat.{◌-◌}
use lib.ListN.{length}
use Rattle.record.specs.Commands.{start}
use Rattle.record.specs.Read.{parsed_from, outcome_of}
use Rattle.record.proofs.read.read_commands.Given as goal

abbrev pub invariant-loop-after : goal.invariant-loop-after
invariant-loop-after l = outcome_of (parsed_from l.side l.stream l.pool start) ≡ outcome_of (parsed_from l.side l.stream l.pool l.cursor)

abbrev pub decreases-loop-after : goal.decreases-loop-after
decreases-loop-after l = length l.stream - l.cursor.at
