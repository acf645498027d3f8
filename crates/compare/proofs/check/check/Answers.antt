use Rattle.compare.proofs.CheckLaws.{check-current, check-released, check-premise, check-verdict}
use borrow.Author.Rules.{rules}
use Rattle.compare.proofs.check.check.Goals as goal

pub returns-in-Err : goal.returns-in-Err
returns-in-Err c = search check-current

pub returns-in-Err-read_record : goal.returns-in-Err-read_record
returns-in-Err-read_record c = search check-released

pub compare-found-requires : goal.compare-found-requires
compare-found-requires c = check-premise _ _ _ _ _ c.built_in-rows.ensures _ c.read_record.ensures (search rules) _ c.read_record-2.ensures (search rules)

pub returns : goal.returns
returns c = search check-verdict
