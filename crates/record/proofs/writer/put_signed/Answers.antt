use Rattle.record.proofs.WriterLaws.{puts-as}
use borrow.Author.Rules.{rules}
use Rattle.record.proofs.writer.put_signed.Goals as goal

pub returns : goal.returns
returns c = (search puts-as, search rules)
