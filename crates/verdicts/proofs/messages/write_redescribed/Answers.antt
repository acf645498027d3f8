use Rattle.record.specs.Base.{bytes}
use Rattle.record.specs.Fill.{joined}
use Rattle.verdicts.specs.Template.{pick_of, filled}
use Rattle.definition.specs.Verdicts.{message_of, redescribed}
use Rattle.verdicts.proofs.messages.write_redescribed.Goals as goal

pub write_four-requires : goal.write_four-requires
write_four-requires c = tt

pub returns : goal.returns
unfolding bytes joined pick_of filled message_of redescribed
returns c = c.write_four.ensures
