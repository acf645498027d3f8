use mathlib.Core.Path.{sym}
use borrow.Author.Rules.{rules}
use Rattle.drafts.proofs.RowLaws.{first-start, free_on, free-here, first-none}
use Rattle.drafts.proofs.names.free_row.Goals as goal

pub loop-i-init : goal.loop-i-init
loop-i-init c = first-start _ _

pub returns-then-shelf-i-eq0 : goal.returns-then-shelf-i-eq0
returns-then-shelf-i-eq0 c = (search rules, search free-here)

pub loop-i-preserved : goal.loop-i-preserved
loop-i-preserved c = search free_on

pub returns : goal.returns
returns c = sym (search first-none)
