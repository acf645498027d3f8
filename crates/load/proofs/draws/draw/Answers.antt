use Rattle.load.proofs.SettingLaws.{draw-is, draw-low}
use Rattle.load.proofs.draws.draw.Goals as goal

pub returns : goal.returns
returns c = (search draw-is, search draw-low)
