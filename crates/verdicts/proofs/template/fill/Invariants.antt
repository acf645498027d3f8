use Prim.Native.Nat.{◌+◌, ◌*◌, ◌≤◌}
use lib.ListN.{take}
use Rattle.record.specs.Write.{Puts}
use Rattle.verdicts.specs.Template.{filled}
use Rattle.verdicts.proofs.template.fill.Given as goal

abbrev pub invariant-loop-b : goal.invariant-loop-b
invariant-loop-b l = (l.next ≤ l.at + 559 * l.b-index) × Puts l.initial.out l.at (filled l.new l.old l.args (take l.b-index l.template)) l.out l.next
