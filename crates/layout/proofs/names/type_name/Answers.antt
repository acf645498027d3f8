use Rattle.layout.proofs.NameLaws.{stretches-plain, stretches-variant}
use Rattle.layout.proofs.names.type_name.Goals as goal

pub returns-then-family-eq0 : goal.returns-then-family-eq0
returns-then-family-eq0 c = search stretches-plain

pub returns : goal.returns
returns c = search stretches-variant
