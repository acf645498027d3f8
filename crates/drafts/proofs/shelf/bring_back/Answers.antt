use Rattle.drafts.proofs.OpeningLaws.{cut-legible, open-held, open_kept}
use Rattle.drafts.proofs.SettleLaws.{rest-small, both_small, open-is-both}
use Rattle.drafts.proofs.CallLaws.{back-shut, back-open}
use borrow.Author.Rules.{rules}
use Rattle.drafts.proofs.shelf.bring_back.Goals as goal

pub returns-in-Err : goal.returns-in-Err
returns-in-Err c = back-shut _ _ _ _ _ c.«open».result c.«open».ensures _ _ _ _ _ (search rules) c.refusal.ensures c.with_shelf.ensures

pub store-stored-requires : goal.store-stored-requires
store-stored-requires c = (cut-legible _ _ _ _ _ c.after_part.ensures c.part.ensures c.part-2.ensures (open-held _ _ _ c.«open».result c.«open».ensures (search rules)), open_kept _ _ _ c.«open».result c.«open».ensures (search rules), rest-small _ _ _ c.after_part.ensures c.part-2.ensures (both_small _ _ _ (open-is-both _ _ _ c.«open».result c.«open».ensures (search rules))))

pub returns : goal.returns
returns c = back-open _ _ _ _ _ c.«open».result c.«open».ensures _ _ _ _ _ _ (search rules) c.after_part.ensures c.part.ensures c.part-2.ensures c.store-stored.ensures c.with_shelf-2.ensures
