use Rattle.record.proofs.ReferenceLaws.{is-text-laws}
use Rattle.record.proofs.references.is_text.Goals as goal

pub returns-in_default : goal.returns-in_default
returns-in_default c = search is-text-laws

pub returns : goal.returns
returns c = search is-text-laws
