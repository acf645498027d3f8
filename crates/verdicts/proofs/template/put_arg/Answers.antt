use native.Mathlib.Omega.{arith}
use Rattle.record.proofs.WriterLaws.{puts_none, puts-near}
use Rattle.verdicts.proofs.TemplateLaws.{arg-put}
use borrow.Author.Rules.{rules}
use Rattle.verdicts.proofs.template.put_arg.Goals as goal

pub returns-in-Nothing : goal.returns-in-Nothing
returns-in-Nothing c = (rw c.in-Nothing.is (puts_none _ _ (omega arith) (omega arith)), omega arith)

pub returns-in-Byte : goal.returns-in-Byte
returns-in-Byte c = (search arg-put, omega (arith, puts-near))

pub returns-in-Now : goal.returns-in-Now
returns-in-Now c = (search arg-put, search rules)

pub returns-in-Was : goal.returns-in-Was
returns-in-Was c = (search arg-put, search rules)

pub returns-in-Number : goal.returns-in-Number
returns-in-Number c = (search arg-put, search rules)

pub returns-in-Signed : goal.returns-in-Signed
returns-in-Signed c = (search arg-put, search rules)

pub returns-in-NowItem : goal.returns-in-NowItem
returns-in-NowItem c = (search arg-put, search rules)

pub returns-in-WasCopy : goal.returns-in-WasCopy
returns-in-WasCopy c = (search arg-put, search rules)

pub returns-in-NowValue : goal.returns-in-NowValue
returns-in-NowValue c = (search arg-put, search rules)

pub returns-in-WasValue : goal.returns-in-WasValue
returns-in-WasValue c = (search arg-put, search rules)

pub returns-in-NowType : goal.returns-in-NowType
returns-in-NowType c = (search arg-put, search rules)

pub returns-in-WasType : goal.returns-in-WasType
returns-in-WasType c = (search arg-put, search rules)

pub returns-in-NowShape : goal.returns-in-NowShape
returns-in-NowShape c = (search arg-put, search rules)

pub returns-in-WasShape : goal.returns-in-WasShape
returns-in-WasShape c = (search arg-put, search rules)

pub returns-in-Standing : goal.returns-in-Standing
returns-in-Standing c = (search arg-put, search rules)

pub returns-in-NowChange : goal.returns-in-NowChange
returns-in-NowChange c = (search arg-put, search rules)
