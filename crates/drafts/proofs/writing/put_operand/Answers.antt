use Rattle.drafts.proofs.PutLaws.{flag-put, number_put, word-put, value-put, text-put}
use Rattle.drafts.proofs.writing.put_operand.Goals as goal

pub returns-in-70 : goal.returns-in-70
returns-in-70 c = search flag-put

pub returns-in-78 : goal.returns-in-78
returns-in-78 c = search number_put

pub returns-in-87 : goal.returns-in-87
returns-in-87 c = search word-put

pub returns-in-86 : goal.returns-in-86
returns-in-86 c = search value-put

pub returns-in_default : goal.returns-in_default
returns-in_default c = search text-put
