use Rattle.load.proofs.SettingLaws.{setting-drawn}
use Rattle.load.proofs.settings.draw_setting.Goals as goal

pub returns : goal.returns
returns c = setting-drawn _ _ _ _ _ _ _ _ _ _ _ _ _ c.draw-structs.ensures.0 c.draw-fields.ensures.0 c.draw-releases.ensures.0 c.draw-slot.ensures.0 c.draw-lengths.ensures.0 c.draw-generation.ensures.0 c.draw-spare.ensures.0 c.draw-root.ensures.0 c.draw-target.ensures.0 c.draw-word.ensures.0 c.draw-fresh.ensures.0 c.seed_after-seed.ensures
