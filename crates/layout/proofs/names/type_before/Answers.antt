use Rattle.layout.proofs.NameLaws.{own-names, over-is}
use Rattle.layout.proofs.names.type_before.Goals as goal

pub returns-then-family_part : goal.returns-then-family_part
returns-then-family_part c = search own-names

pub returns : goal.returns
returns c = search over-is
