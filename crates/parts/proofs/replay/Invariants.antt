use Rattle.std.proofs.Common.{◌-◌, ◌≤◌}
use Rattle.parts.proofs.replay.Given as goal

abbrev pub invariant-loop-turns : goal.invariant-loop-turns
invariant-loop-turns g l = goal.F-IsAlwaysCallable g l.turn × (l.turns ≤ 1000000) × (l.wrong ≤ l.turns)

abbrev pub decreases-loop-turns : goal.decreases-loop-turns
decreases-loop-turns g l = 1000000 - l.turns
