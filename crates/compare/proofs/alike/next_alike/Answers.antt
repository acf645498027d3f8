use Rattle.compare.proofs.AlikeLaws.{field-inside, alike_next}
use Rattle.compare.proofs.alike.next_alike.Goals as goal

pub returns-in_default : goal.returns-in_default
returns-in_default c = tt

pub returns-in_default-seek : goal.returns-in_default-seek
returns-in_default-seek c = tt

pub returns-then-size-size_before : goal.returns-then-size-size_before
returns-then-size-size_before c = tt

pub alike_at-requires : goal.alike_at-requires
alike_at-requires c = (search field-inside, search field-inside)

pub returns-then-alike_at : goal.returns-then-alike_at
returns-then-alike_at c = search alike_next

pub returns : goal.returns
returns c = tt
