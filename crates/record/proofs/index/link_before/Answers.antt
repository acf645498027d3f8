use Rattle.record.proofs.IndexLaws.{link-laws}
use Rattle.record.proofs.index.link_before.Goals as goal

pub returns-then-place-link : goal.returns-then-place-link
returns-then-place-link c = search link-laws

pub returns : goal.returns
returns c = search link-laws
