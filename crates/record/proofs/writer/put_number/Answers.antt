use native.Mathlib.Omega.{arith}
use Rattle.record.proofs.WriterLaws.{puts-as, puts-near, one-digit, two_digits, three-digits}
use borrow.Author.Rules.{rules}
use Rattle.record.proofs.writer.put_number.Goals as goal

pub returns-then-n-lt10 : goal.returns-then-n-lt10
returns-then-n-lt10 c = (search (puts-as, one-digit), omega (arith, puts-near))

pub returns-then-n-lt100 : goal.returns-then-n-lt100
returns-then-n-lt100 c = (search (puts-as, two_digits), omega (arith, puts-near))

pub returns-then-n-lt1000 : goal.returns-then-n-lt1000
returns-then-n-lt1000 c = (search (puts-as, three-digits), omega (arith, puts-near))

pub returns : goal.returns
returns c = (search puts-as, search rules)
