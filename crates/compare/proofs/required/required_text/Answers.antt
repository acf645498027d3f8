use Rattle.compare.proofs.RequiredLaws.{required-or}
use Rattle.compare.proofs.required.required_text.Goals as goal

pub returns : goal.returns
returns c = search required-or
