use mathlib.Core.Path.{◌≡◌}
use lib.ListN.{drop}
use Rattle.record.specs.Base.{before}
use Rattle.layout.specs.Names.{composed}
use Rattle.layout.proofs.names.composed_before.Given as goal

abbrev pub invariant-loop-i : goal.invariant-loop-i
invariant-loop-i l = before (composed l.f l.k l.b) (composed l.g l.l l.d) ≡ before (drop l.i (composed l.f l.k l.b)) (drop l.i (composed l.g l.l l.d))
