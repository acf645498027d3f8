use Rattle.layout.proofs.ListLaws.{list-released, list-current}
use Rattle.menqachu.proofs.menqachu_list.Goals as goal

pub returns-then-released : goal.returns-then-released
returns-then-released c = search list-released

pub returns : goal.returns
returns c = search list-current
