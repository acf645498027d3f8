use Rattle.layout.proofs.ListLaws.{list-refused, list-premise, list-readable}
use borrow.Author.Rules.{rules}
use Rattle.layout.proofs.list.list_layouts.Goals as goal

pub returns-in-Err : goal.returns-in-Err
returns-in-Err c = list-refused _ _ _ _ _ c.built_in-rows.ensures c.read_record.ensures _ _ _ _ (search rules) c.refused.ensures

pub list_read-requires : goal.list_read-requires
list_read-requires c = list-premise _ _ _ _ _ c.built_in-rows.ensures c.read_record.ensures (search rules)

pub returns : goal.returns
returns c = search list-readable
