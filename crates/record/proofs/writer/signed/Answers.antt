use mathlib.Core.Path.{◌∙◌}
use native.Mathlib.Omega.{arith}
use lib.ListN.{length-set}
use Rattle.record.proofs.WriterLaws.{sign, no_sign}
use Rattle.record.proofs.writer.signed.Goals as goal

pub returns-then-v-lt9223372036854775808 : goal.returns-then-v-lt9223372036854775808
returns-then-v-lt9223372036854775808 c = (c.decimal.ensures.0 ∙ no_sign _ c.if-v-lt9223372036854775808.true, c.decimal.ensures.3)

pub returns : goal.returns
returns c =
    let d = c.decimal-d in
    let s = c in
    (sign s.args.v d.result.start d.result.bytes c.if-v-lt9223372036854775808.false s.ranges.v.fits (omega arith) (omega arith) d.ensures.0, simp length-set d.ensures.3)
