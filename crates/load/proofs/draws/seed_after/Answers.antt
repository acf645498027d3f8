use Rattle.load.proofs.SettingLaws.{seed-after-on, seed-after-end}
use Prim.Native.Nat.{◌-◌}
use mathlib.Core.Path.{◌≡◌}
use native.Mathlib.Omega.{arith}
use Rattle.load.proofs.draws.seed_after.Goals as goal

pub loop-init : goal.loop-init
loop-init c = let n : c.args.k - 0 ≡ c.args.k = omega arith in rw n

pub loop-preserved : goal.loop-preserved
loop-preserved c = search seed-after-on

pub returns : goal.returns
returns c = search seed-after-end
