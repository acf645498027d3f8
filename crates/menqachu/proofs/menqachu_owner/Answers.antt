use Rattle.layout.proofs.OwnerCallLaws.{owner-exported}
use Rattle.menqachu.proofs.menqachu_owner.Goals as goal

pub returns : goal.returns
returns c = search owner-exported
