use Rattle.record.specs.Base.{bytes}
use Rattle.record.specs.Fill.{joined}
use Rattle.verdicts.specs.Template.{pick_of, filled}
use Rattle.definition.specs.Verdicts.{message_of, value_gone}
use Rattle.verdicts.proofs.messages.write_value_gone.Goals as goal

pub write_two-requires : goal.write_two-requires
write_two-requires c = tt

pub returns : goal.returns
unfolding bytes joined pick_of filled message_of value_gone
returns c = c.write_two.ensures
