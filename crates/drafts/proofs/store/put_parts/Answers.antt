use Rattle.drafts.proofs.StoreLaws.{parts-put}
use Rattle.drafts.proofs.store.put_parts.Goals as goal

pub returns : goal.returns
returns c = search parts-put
