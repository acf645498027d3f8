use Rattle.layout.proofs.SortLaws.{pass-nearer, passed-step, passed-end}
use mathlib.Core.Path.{refl}
use borrow.Author.Rules.{rules}
use Rattle.layout.proofs.sort.pass.Goals as goal

pub loop-lo-init : goal.loop-lo-init
loop-lo-init c = (record { so_far = refl; inside = search rules; long = search rules }, search rules, search rules)

pub loop-lo-smaller : goal.loop-lo-smaller
loop-lo-smaller c = pass-nearer _ _ _ _ _ _ _ c.loop-lo.invariant.0 c.loop-lo.invariant.2 c.bound-mid.ensures c.bound-hi.ensures (search rules)

pub loop-lo-preserved : goal.loop-lo-preserved
loop-lo-preserved c = (passed-step _ _ _ _ _ _ _ c.loop-lo.invariant.0 c.loop-lo.invariant.2 c.bound-mid.ensures c.bound-hi.ensures _ (search rules) c.merge_runs.ensures, search rules, search rules)

pub returns : goal.returns
returns c = search passed-end
