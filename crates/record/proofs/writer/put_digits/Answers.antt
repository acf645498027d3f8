use mathlib.Core.Path.{◌≡◌}
use lib.ListN.{length}
use Rattle.record.proofs.WriterLaws.{puts-as, puts-near, rest-short}
use native.Mathlib.Omega.{arith}
use borrow.Author.Rules.{rules}
use Rattle.record.proofs.writer.put_digits.Goals as goal

pub returns : goal.returns
returns c = let l : length c.args.d.bytes ≡ 21 = search rules in (search puts-as, omega (arith, puts-near, rest-short))
