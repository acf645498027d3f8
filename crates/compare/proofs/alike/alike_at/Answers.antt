use mathlib.Core.Path.{sym, ◌∙◌}
use mathlib.Core.Bool.{false≢true}
use Rattle.compare.proofs.AlikeLaws.{alike-there}
use Rattle.compare.proofs.alike.alike_at.Goals as goal

pub returns-then-alike_numbers : goal.returns-then-alike_numbers
returns-then-alike_numbers c = λ t.
    let a = c.args in
    alike-there a.current.now.stream.now a.current.now.pool.now a.released.now.stream.now a.released.now.pool.now a.a a.b _ _ c.alike_numbers.ensures c.if-alike_numbers.true c.alike_texts.ensures t

pub returns-else-alike_numbers : goal.returns-else-alike_numbers
returns-else-alike_numbers c = λ t. absurd (false≢true (sym c.if-alike_numbers.false ∙ t))
