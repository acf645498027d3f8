use Rattle.std.proofs.lemmas.Slice.Zip.{Zip-more, either_empty_from_Zip}
use borrow.Author.Rules.{rules}
use Rattle.drafts.proofs.ClosingLaws.{sum-start, sum-on, sum_fits, sum-end}
use Rattle.drafts.proofs.closing.kept_before.Goals as goal

pub loop-start-init : goal.loop-start-init
loop-start-init c = sum-start _ _ _ _ _ (search rules) (search rules)

pub overflow_add-sum : goal.overflow_add-sum
overflow_add-sum c =
    let m = Zip-more c.loop-start.start-iterator c.next.new.self _ _ c.in-Some.is c.next.ensures.steps in
    let f = sum_fits _ _ _ _ _ _ c.loop-start.invariant _ _ _ _ m.0 m.1 _ c.bytes_before-sum.ensures c.requires (search rules) in record { fits = f }

pub loop-start-preserved : goal.loop-start-preserved
loop-start-preserved c =
    let m = Zip-more c.loop-start.start-iterator c.next.new.self _ _ c.in-Some.is c.next.ensures.steps in
    sum-on _ _ _ _ _ _ c.loop-start.invariant _ _ _ _ m.0 m.1 _ c.bytes_before-sum.ensures

pub returns : goal.returns
returns c = sum-end _ _ _ _ _ _ c.loop-start.invariant (either_empty_from_Zip c.loop-start.start-iterator c.next.new.self _ c.in-None.is c.next.ensures.steps)
