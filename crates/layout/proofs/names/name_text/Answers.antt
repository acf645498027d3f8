use Rattle.layout.proofs.NameLaws.{text-there}
use Rattle.layout.proofs.names.name_text.Goals as goal

pub returns : goal.returns
returns c = search text-there
