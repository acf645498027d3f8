use Rattle.record.specs.Base.{bytes}
use Rattle.record.specs.Fill.{joined}
use Rattle.verdicts.specs.Template.{pick_of, filled}
use Rattle.definition.specs.Verdicts.{message_of, type_gone}
use Rattle.verdicts.proofs.messages.write_type_gone.Goals as goal

pub write_one-requires : goal.write_one-requires
write_one-requires c = tt

pub returns : goal.returns
unfolding bytes joined pick_of filled message_of type_gone
returns c = c.write_one.ensures
