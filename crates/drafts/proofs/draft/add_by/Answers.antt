use Rattle.drafts.proofs.SumLaws.{add-refused, add-there, add_done, addition-small}
use Rattle.drafts.proofs.SettleLaws.{edit-shut, open-is-both}
use Rattle.drafts.proofs.draft.add_by.Goals as goal

pub returns-in-Err : goal.returns-in-Err
returns-in-Err c = search edit-shut

pub returns-in-Err-read_addition : goal.returns-in-Err-read_addition
returns-in-Err-read_addition c = search add-refused

pub returns-in-Some : goal.returns-in-Some
returns-in-Some c = search add-there

pub add_at-requires : goal.add_at-requires
add_at-requires c = (search open-is-both, search addition-small)

pub returns : goal.returns
returns c = search add_done
