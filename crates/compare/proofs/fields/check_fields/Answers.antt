use borrow.Author.Rules.{rules}
use Rattle.verdicts.proofs.PassLaws.{handed, handed-passed}
use Rattle.compare.proofs.FieldLaws.{table-typed, visited-start, visited-on, visited-end, types-here, types-end, types-on, types-stop}
use Rattle.compare.proofs.fields.check_fields.Goals as goal

pub loop-i-init : goal.loop-i-init
loop-i-init c = (search types-here, search visited-start, search rules, search rules)

pub check_type-requires : goal.check_type-requires
check_type-requires c = (search rules, search table-typed, search rules)

pub returns-in_err-check_type : goal.returns-in_err-check_type
returns-in_err-check_type c = (search (types-stop, handed, c.in_err-check_type.was), λ e. absurd (handed-passed _ _ (handed _ _ _ c.in_err-check_type.was c.from_residual.ensures) e))

pub loop-i-preserved : goal.loop-i-preserved
loop-i-preserved c = (search (types-on, c.in_ok-check_type.was), search (visited-on, c.in_ok-check_type.was), search rules, search rules)

pub returns : goal.returns
returns c = (search types-end, λ e. search visited-end)
