use borrow.Author.Rules.{rules}
use Rattle.verdicts.proofs.PassLaws.{handed}
use Rattle.compare.proofs.CompareLaws.{order-stop, order-on}
use Rattle.compare.proofs.compare.check_passes.Goals as goal

pub returns-in_err-check_release_order : goal.returns-in_err-check_release_order
returns-in_err-check_release_order c =
    order-stop _ _ _ _ _ _ _ c.args.pair.now.releases _ c.check_release_order.ensures _ (handed _ _ _ c.in_err-check_release_order.was c.from_residual.ensures)

pub returns-then-released-le2048 : goal.returns-then-released-le2048
returns-then-released-le2048 c = order-on _ _ _ _ _ _ _ c.args.pair.now.releases _ c.check_release_order.ensures _ c.in_ok-check_release_order.was c.check_sized.ensures

pub returns : goal.returns
returns c = order-on _ _ _ _ _ _ _ c.args.pair.now.releases _ c.check_release_order.ensures _ c.in_ok-check_release_order.was c.check_sized-2.ensures
