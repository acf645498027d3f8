use Rattle.record.specs.Base.{bytes}
use Rattle.record.specs.Fill.{joined}
use Rattle.verdicts.specs.Template.{pick_of, filled}
use Rattle.definition.specs.Verdicts.{message_of, leapt}
use Rattle.verdicts.proofs.messages.write_leapt.Goals as goal

pub write-requires : goal.write-requires
write-requires c = tt

pub returns : goal.returns
unfolding bytes joined pick_of filled message_of leapt
returns c = c.write.ensures
