use Rattle.drafts.specs.Shelving.{covering}
use Rattle.drafts.proofs.ClosingLaws.{Closing}
use Rattle.drafts.proofs.closing.close_up.Given as goal

abbrev pub invariant-loop-i : goal.invariant-loop-i
invariant-loop-i l = Closing (covering l.starts l.sizes) l.initial.held l.held l.end l.i
