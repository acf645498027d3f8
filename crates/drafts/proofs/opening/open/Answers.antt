use Rattle.drafts.proofs.OpeningLaws.{open-draft, open-copy, open-both}
use Rattle.drafts.proofs.opening.open.Goals as goal

pub returns-in-Err : goal.returns-in-Err
returns-in-Err c = search open-draft

pub returns-in-Err-read_record : goal.returns-in-Err-read_record
returns-in-Err-read_record c = search open-copy

pub returns : goal.returns
returns c = search open-both
