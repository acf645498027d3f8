use Rattle.texts.proofs.BackLaws.{agreed-none, word_on, unlike-out, front_out, tested-out}
use Rattle.texts.proofs.back.agreed_by_words.Goals as goal

pub loop-left-init : goal.loop-left-init
loop-left-init c = search agreed-none

pub returns-then-not-same_word : goal.returns-then-not-same_word
returns-then-not-same_word c = search unlike-out

pub loop-left-preserved : goal.loop-left-preserved
loop-left-preserved c = search word_on

pub returns-then-same_word : goal.returns-then-same_word
returns-then-same_word c = search front_out

pub returns : goal.returns
returns c = search tested-out
