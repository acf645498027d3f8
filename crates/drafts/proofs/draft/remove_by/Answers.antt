use Rattle.drafts.proofs.SettleLaws.{edit-shut, remove-none, open-is-both, remove-done}
use Rattle.drafts.proofs.draft.remove_by.Goals as goal

pub returns-in-Err : goal.returns-in-Err
returns-in-Err c = search edit-shut

pub returns-in_default-find_held : goal.returns-in_default-find_held
returns-in_default-find_held c = search remove-none

pub remove_at-requires : goal.remove_at-requires
remove_at-requires c = search open-is-both

pub returns : goal.returns
returns c = search remove-done
