use Rattle.drafts.proofs.SettleLaws.{settle-refused, settle-legible, settle-small, settle_read}
use borrow.Author.Rules.{rules}
use Rattle.drafts.proofs.editing.settle.Goals as goal

pub returns-in-Err : goal.returns-in-Err
returns-in-Err c = search settle-refused

pub store-requires : goal.store-requires
store-requires c = (search settle-legible, search rules, search settle-small)

pub returns : goal.returns
returns c = search settle_read
