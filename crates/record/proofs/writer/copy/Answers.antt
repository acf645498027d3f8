use mathlib.Core.Path.{refl}
use Prim.Native.Nat.{◌+◌}
use native.Mathlib.Omega.{arith}
use lib.Seq.{paste-zero}
use Rattle.record.proofs.WriterLaws.{stored, copied}
use Rattle.record.proofs.writer.copy.Goals as goal

pub loop-j-init : goal.loop-j-init
loop-j-init c = paste-zero c.args.out.now c.args.at c.args.src.now

pub loop-j-preserved : goal.loop-j-preserved
loop-j-preserved c =
    let l = c.loop-j in
    let a = c.args in
    stored a.out.now a.src.now l.out a.at (a.at + l.j) l.j refl l.invariant (omega arith) c.loop-j-test.true

pub returns : goal.returns
returns c =
    let l = c.loop-j in
    let a = c.args in
    copied a.out.now a.src.now l.out a.at l.j (omega arith) l.invariant
