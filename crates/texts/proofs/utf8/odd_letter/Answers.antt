use Rattle.texts.proofs.LetterLaws.{stepped-none, plain-all, plain-on, passed_on, passed-odd, passed-last}
use borrow.Author.Rules.{rules}
use Rattle.texts.proofs.utf8.odd_letter.Goals as goal

pub returns-then-all_plain : goal.returns-then-all_plain
returns-then-all_plain c = search plain-all

pub loop-i-init : goal.loop-i-init
loop-i-init c = stepped-none _ _ (search rules)

pub loop-i-preserved-then-all_plain-2 : goal.loop-i-preserved-then-all_plain-2
loop-i-preserved-then-all_plain-2 c = plain-on _ _ _ _ c.loop-i.invariant (search rules) (search rules) c.all_plain-in-loop-i.ensures c.if-all_plain-2.true

pub returns-then-at-end : goal.returns-then-at-end
returns-then-at-end c = passed-odd _ _ _ _ c.loop-i.invariant c.pass_letters-at.ensures c.if-at-end.true (search rules)

pub loop-i-preserved : goal.loop-i-preserved
loop-i-preserved c = search passed_on

pub returns : goal.returns
returns c = search passed-last
