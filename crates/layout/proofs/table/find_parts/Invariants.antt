use Prim.Native.Nat.{◌-◌}
use Rattle.layout.specs.Names.{composed}
use Rattle.layout.proofs.TableLaws.{Seeking}
use Rattle.layout.proofs.table.find_parts.Given as goal

abbrev pub invariant-loop-lo : goal.invariant-loop-lo
invariant-loop-lo l = Seeking l.stream l.pool l.types (composed l.f l.k l.b) l.lo l.hi

abbrev pub decreases-loop-lo : goal.decreases-loop-lo
decreases-loop-lo l = l.hi - l.lo
