use Prim.Native.Nat.{◌+◌, ◌-◌}
use native.Mathlib.Omega.{arith}
use mathlib.Core.Path.{◌≡◌, refl}
use borrow.Author.Rules.{rules}
use Rattle.load.proofs.StructureLaws.{putting-start, fields-on, fields-end}
use Rattle.load.proofs.structures.put_fields.Goals as goal

pub loop-j-init : goal.loop-j-init
loop-j-init c =
    let n : c.args.from + c.args.n - c.args.from ≡ c.args.n = omega arith in
    (rw n (putting-start _ _ _ (omega arith) (omega arith)), refl)

pub loop-j-preserved : goal.loop-j-preserved
loop-j-preserved c = (search fields-on, search rules)

pub returns : goal.returns
returns c = search fields-end
