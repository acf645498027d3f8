use mathlib.Core.Path.{refl}
use native.Mathlib.Omega.{arith}
use Rattle.record.proofs.WriterLaws.{puts_none}
use Rattle.verdicts.specs.Template.{filled}
use Rattle.verdicts.proofs.TemplateLaws.{fill_more, fill-all}
use Rattle.verdicts.proofs.template.fill.Goals as goal

pub loop-b-init : goal.loop-b-init
unfolding filled
loop-b-init c = (omega arith, puts_none _ _ (omega arith) (omega arith))

pub loop-b-preserved : goal.loop-b-preserved
loop-b-preserved c =
    let l = c.loop-b in
    let a = c.args in
    (omega arith, fill_more a.new.now a.old.now a.args a.template.now l.b-index _ c.loop-b-test.true refl l.invariant.1 c.put_piece-next.ensures.0)

pub returns : goal.returns
returns c = (search fill-all, omega arith)
