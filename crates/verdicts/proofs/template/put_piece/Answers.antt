use native.Mathlib.Omega.{arith}
use Rattle.record.proofs.WriterLaws.{puts-near}
use Rattle.verdicts.proofs.TemplateLaws.{piece-itself, piece-picked}
use borrow.Author.Rules.{rules}
use Rattle.verdicts.proofs.template.put_piece.Goals as goal

pub returns-then-b-ge32 : goal.returns-then-b-ge32
returns-then-b-ge32 c = (search piece-itself, omega (arith, puts-near))

pub returns : goal.returns
returns c = (search piece-picked, search rules)
