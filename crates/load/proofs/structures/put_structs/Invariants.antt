use Rattle.load.proofs.StructureLaws.{Putting}
use Rattle.load.specs.Bytes.{structs_bytes}
use Rattle.load.specs.Draws.{structs_from}
use Prim.Native.Nat.{◌+◌, ◌-◌}
use mathlib.Core.Path.{◌≡◌}
use lib.ListN.{length}
use Rattle.load.proofs.structures.put_structs.Given as goal

abbrev pub invariant-loop-i : goal.invariant-loop-i
invariant-loop-i l =
    Putting l.initial.out l.at (structs_bytes (structs_from l.g l.seed l.from l.n)) l.out l.next (structs_bytes (structs_from l.g l.s l.i (l.from + l.n - l.i)))
    × (length l.out ≡ length l.initial.out)
