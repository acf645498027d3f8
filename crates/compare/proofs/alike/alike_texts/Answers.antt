use mathlib.Core.Bool.{false≢true}
use Rattle.compare.proofs.AlikeLaws.{texts-alike}
use Rattle.compare.proofs.alike.alike_texts.Goals as goal

pub returns-then-alike_words : goal.returns-then-alike_words
returns-then-alike_words c = λ t.
    texts-alike _ _ _ _ _ _ _ _ _ _ _ _ _ _ _ _ _ _ _ _ c.text_at.ensures c.text_at-2.ensures c.bytes_of.ensures c.bytes_of-2.ensures c.same.ensures c.if-same.true
    c.text_at-then-same.ensures c.text_at-then-same-2.ensures c.bytes_of-then-same.ensures c.bytes_of-then-same-2.ensures c.same-then-same.ensures c.if-same-2.true
    c.opt_text_at.ensures c.opt_text_at-then-same-2.ensures c.alike_words.ensures c.if-alike_words.true c.opt_text_at-then-alike_words.ensures c.opt_text_at-then-alike_words-2.ensures c.alike_words-then-alike_words.ensures t

pub returns : goal.returns
returns c = λ t. absurd (false≢true t)
