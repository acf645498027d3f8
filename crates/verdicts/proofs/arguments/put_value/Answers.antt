use native.Mathlib.Omega.{arith}
use Rattle.record.proofs.WriterLaws.{puts_none}
use Rattle.verdicts.proofs.ArgumentLaws.{value-integer, value_none, value-words}
use borrow.Author.Rules.{rules}
use Rattle.verdicts.proofs.arguments.put_value.Goals as goal

pub returns-in_default : goal.returns-in_default
returns-in_default c = (value_none _ _ _ c.in-Words.is c.in_default.is (puts_none _ _ (omega arith) (omega arith)), omega arith)

pub returns-in-Integer : goal.returns-in-Integer
returns-in-Integer c = (search value-integer, search rules)

pub returns-in-Some : goal.returns-in-Some
returns-in-Some c = (search value-words, search rules)
