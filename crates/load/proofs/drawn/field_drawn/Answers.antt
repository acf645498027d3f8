use Rattle.load.proofs.SettingLaws.{field_is}
use Rattle.load.proofs.drawn.field_drawn.Goals as goal

pub returns : goal.returns
returns c = search field_is
