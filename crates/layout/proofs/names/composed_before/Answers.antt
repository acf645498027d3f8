use native.Mathlib.Omega.{arith}
use Rattle.record.proofs.TextLaws.{kept, ended}
use Rattle.layout.proofs.NameLaws.{composed-skip, front_long, turn-longer, turn-other, turn-next, turn-done}
use borrow.Author.Rules.{rules}
use Rattle.layout.proofs.names.composed_before.Goals as goal

pub loop-i-init : goal.loop-i-init
loop-i-init c = search composed-skip

pub returns-then-m-i : goal.returns-then-m-i
returns-then-m-i c = ended c.loop-i.invariant
    (turn-longer _ _ _ _ c.loop-i.i c.composed_len-n.ensures c.composed_len-m.ensures (search rules) (search rules))

pub returns-then-x-y : goal.returns-then-x-y
returns-then-x-y c = ended c.loop-i.invariant
    (turn-other _ _ _ _ c.loop-i.i c.composed_len-n.ensures c.composed_len-m.ensures _ _ (search rules) (search rules)
    c.composed_byte-x.ensures c.composed_byte-y.ensures (search rules))

pub loop-i-preserved : goal.loop-i-preserved
loop-i-preserved c = kept c.loop-i.invariant
    (turn-next _ _ _ _ c.loop-i.i c.composed_len-n.ensures c.composed_len-m.ensures _ _ (search rules) (search rules)
    c.composed_byte-x.ensures c.composed_byte-y.ensures (search rules))

pub returns : goal.returns
returns c =
    let p = front_long c.args.f.now c.args.k c.args.b.now c.skip-i.result c.skip-i.ensures.in-first in
    ended c.loop-i.invariant
    (turn-done _ _ _ _ c.loop-i.i c.composed_len-n.ensures c.composed_len-m.ensures c.loop-i-test.false (c.loop-i.auto.i-end (omega arith)))
