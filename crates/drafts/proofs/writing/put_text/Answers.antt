use Rattle.drafts.specs.Packing.{le2}
use Rattle.drafts.specs.Code.{text_bytes}
use borrow.Author.Rules.{rules}
use Rattle.drafts.proofs.writing.put_text.Goals as goal

pub returns : goal.returns
unfolding text_bytes le2
returns c = search rules
