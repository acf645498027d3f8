use Prim.Native.Nat.{◌+◌, ◌-◌}
use native.Mathlib.Omega.{arith}
use mathlib.Core.Path.{◌≡◌, refl}
use borrow.Author.Rules.{rules}
use Rattle.load.proofs.StructureLaws.{putting-start, structs-on, structs_end}
use Rattle.load.proofs.structures.put_structs.Goals as goal

pub loop-i-init : goal.loop-i-init
loop-i-init c =
    let n : c.args.from + c.args.n - c.args.from ≡ c.args.n = omega arith in
    (rw n (putting-start _ _ _ (omega arith) (omega arith)), refl)

pub loop-i-preserved : goal.loop-i-preserved
loop-i-preserved c = (search structs-on, search rules)

pub returns : goal.returns
returns c = search structs_end
