use Rattle.load.proofs.StructureLaws.{Putting}
use Rattle.load.specs.Bytes.{fields_bytes}
use Rattle.load.specs.Draws.{fields_from}
use Prim.Native.Nat.{◌+◌, ◌-◌}
use mathlib.Core.Path.{◌≡◌}
use lib.ListN.{length}
use Rattle.load.proofs.structures.put_fields.Given as goal

abbrev pub invariant-loop-j : goal.invariant-loop-j
invariant-loop-j l =
    Putting l.initial.out l.at (fields_bytes (fields_from l.g l.seed l.from l.n)) l.out l.next (fields_bytes (fields_from l.g l.s l.j (l.from + l.n - l.j)))
    × (length l.out ≡ length l.initial.out)
