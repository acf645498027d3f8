use Rattle.drafts.proofs.OpeningLaws.{count-shut, count-open, open-held, open_kept}
use Rattle.drafts.proofs.draft.count_by.Goals as goal

pub returns-in-Err : goal.returns-in-Err
returns-in-Err c = search count-shut

pub count_held-requires : goal.count_held-requires
count_held-requires c = (search open-held, search open_kept)

pub returns : goal.returns
returns c = search count-open
