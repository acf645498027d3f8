use Rattle.record.specs.Base.{bytes}
use Rattle.record.specs.Fill.{joined}
use Rattle.verdicts.specs.Template.{pick_of, filled}
use Rattle.definition.specs.Verdicts.{message_of, renamed}
use Rattle.verdicts.proofs.messages.write_renamed.Goals as goal

pub write_three-requires : goal.write_three-requires
write_three-requires c = tt

pub returns : goal.returns
unfolding bytes joined pick_of filled message_of renamed
returns c = c.write_three.ensures
