use native.Mathlib.Omega.{arith}
use Rattle.texts.proofs.LetterLaws.{stepped-none, pass_on, pass-room, pass-stop, pass-done}
use borrow.Author.Rules.{rules}
use Rattle.texts.proofs.utf8.pass_letters.Goals as goal

pub loop-i-init : goal.loop-i-init
loop-i-init c = (search rules, search stepped-none)

pub returns-then-k-eq0 : goal.returns-then-k-eq0
returns-then-k-eq0 c = search pass-stop

pub overflow_add-i : goal.overflow_add-i
overflow_add-i c = let r = pass-room _ _ _ _ c.loop-i-test.true (search rules) c.letter_length-k.ensures c.if-k-eq0.false in omega (arith, r)

pub loop-i-preserved : goal.loop-i-preserved
loop-i-preserved c = (search rules, search pass_on)

pub returns : goal.returns
returns c = search pass-done
