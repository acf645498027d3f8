use mathlib.Core.Path.{sym, ◌∙◌}
use Rattle.std.proofs.lemmas.Slice.Zip.{Zip-more, either_empty_from_Zip}
use borrow.Author.Rules.{rules}
use Rattle.drafts.proofs.ClosingLaws.{covers-on, covers-here, covers-end}
use Rattle.drafts.proofs.closing.stays.Goals as goal

pub loop-start-init : goal.loop-start-init
loop-start-init c = search rules

pub returns-then-in_place : goal.returns-then-in_place
returns-then-in_place c =
    let m = Zip-more c.loop-start.start-iterator c.next.new.self _ _ c.in-Some.is c.next.ensures.steps in
    covers-here _ _ _ _ _ _ _ m.0 m.1 _ c.in_place.ensures c.if-in_place.true ∙ sym c.loop-start.invariant

pub loop-start-preserved : goal.loop-start-preserved
loop-start-preserved c =
    let m = Zip-more c.loop-start.start-iterator c.next.new.self _ _ c.in-Some.is c.next.ensures.steps in
    c.loop-start.invariant ∙ covers-on _ _ _ _ _ _ _ m.0 m.1 _ c.in_place.ensures c.if-in_place.false

pub returns : goal.returns
returns c = covers-end _ _ _ (either_empty_from_Zip c.loop-start.start-iterator c.next.new.self _ c.in-None.is c.next.ensures.steps) ∙ sym c.loop-start.invariant
