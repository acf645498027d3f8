use Rattle.layout.proofs.FrontLaws.{fronts-clear, fronts-more}
use borrow.Author.Rules.{rules}
use Rattle.layout.proofs.fronts.fill_fronts.Goals as goal

pub loop-handle-init : goal.loop-handle-init
loop-handle-init c = (search fronts-clear, search rules)

pub loop-handle-preserved : goal.loop-handle-preserved
loop-handle-preserved c = (search fronts-more, search rules)
