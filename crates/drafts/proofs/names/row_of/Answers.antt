use mathlib.Core.Path.{sym}
use borrow.Author.Rules.{rules}
use Rattle.drafts.proofs.RowLaws.{first-start, first_on, first-here, first-none}
use Rattle.drafts.proofs.names.row_of.Goals as goal

pub loop-i-init : goal.loop-i-init
loop-i-init c = first-start _ _

pub returns-then-has_name : goal.returns-then-has_name
returns-then-has_name c = (search rules, search first-here)

pub loop-i-preserved : goal.loop-i-preserved
loop-i-preserved c = search first_on

pub returns : goal.returns
returns c = sym (search first-none)
