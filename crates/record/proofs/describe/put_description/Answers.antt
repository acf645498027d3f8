use native.Mathlib.Omega.{arith}
use Rattle.record.specs.Base.{bytes}
use Rattle.record.proofs.DescribeLaws.{put-plain, put_same, put-array2d, put-discriminant, put-length}
use Rattle.record.proofs.WriterLaws.{puts-near}
use borrow.Author.Rules.{rules}
use Rattle.record.proofs.describe.put_description.Goals as goal

pub returns-in-Plain : goal.returns-in-Plain
returns-in-Plain c = (search put-plain, search rules)

pub returns-in-Named : goal.returns-in-Named
returns-in-Named c = (search put_same, search rules)

pub returns-in-Array : goal.returns-in-Array
returns-in-Array c = (search put_same, search rules)

pub returns-in-Array2d : goal.returns-in-Array2d
returns-in-Array2d c = (search put-array2d, search rules)

pub returns-in-Discriminant : goal.returns-in-Discriminant
unfolding bytes
returns-in-Discriminant c = (search put-discriminant, search rules)

pub returns-in-Length : goal.returns-in-Length
unfolding bytes
returns-in-Length c = (search put-length, omega (arith, puts-near))
