use mathlib.Core.Path.{refl}
use mathlib.Core.List.{append-nil}
use Prim.Native.Nat.{◌-◌}
use native.Mathlib.Omega.{arith}
use lib.ListN.{length-set}
use Rattle.record.specs.Base.{decimal}
use Rattle.record.proofs.WriterLaws.{digit-more, digit-last, places, places-less}
use Rattle.record.proofs.writer.decimal.Goals as goal

pub loop-rest-init : goal.loop-rest-init
unfolding decimal
loop-rest-init c = (omega arith, omega arith, refl, omega (arith, c.ranges.n.fits), append-nil _)

pub overflow_sub-i : goal.overflow_sub-i
overflow_sub-i c = omega arith

pub overflow_cast-bytes : goal.overflow_cast-bytes
overflow_cast-bytes c = omega arith

pub overflow_add-bytes : goal.overflow_add-bytes
overflow_add-bytes c = omega arith

pub bounds-bytes-i : goal.bounds-bytes-i
bounds-bytes-i c = omega arith

pub loop-rest-smaller : goal.loop-rest-smaller
loop-rest-smaller c = omega arith

pub loop-rest-preserved : goal.loop-rest-preserved
loop-rest-preserved c =
    let l = c.loop-rest in
    let t = c.loop-rest-test.true in
    let k = places (l.i - 1) l.rest t l.invariant.3 in (
      omega arith,
      omega arith,
      simp length-set l.invariant.2,
      places-less (l.i - 1) l.rest t l.invariant.3,
      digit-more l.i l.rest l.bytes _ (omega arith) (omega arith) t l.invariant.4,
    )

pub overflow_sub-i-2 : goal.overflow_sub-i-2
overflow_sub-i-2 c = omega arith

pub overflow_cast-bytes-2 : goal.overflow_cast-bytes-2
overflow_cast-bytes-2 c = omega arith

pub overflow_add-bytes-2 : goal.overflow_add-bytes-2
overflow_add-bytes-2 c = omega arith

pub bounds-bytes-i-2 : goal.bounds-bytes-i-2
bounds-bytes-i-2 c = omega arith

pub returns : goal.returns
returns c =
    let l = c.loop-rest in
    (digit-last l.i l.rest l.bytes _ (omega arith) (omega arith) c.loop-rest-test.false l.invariant.4, omega arith, omega arith, simp length-set l.invariant.2)
