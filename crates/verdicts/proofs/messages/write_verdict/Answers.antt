use mathlib.Core.Path.{refl}
use mathlib.Core.List.{[]}
use native.Mathlib.Omega.{arith}
use Rattle.record.proofs.WriterLaws.{front-none}
use Rattle.verdicts.proofs.TemplateLaws.{writes-whole}
use Rattle.definition.specs.Verdicts.{message_of}
use Rattle.verdicts.specs.Meaning.{meaning}
use Rattle.verdicts.proofs.messages.write_verdict.Goals as goal

pub returns-in-Ok : goal.returns-in-Ok
unfolding meaning message_of
returns-in-Ok c = rw c.in-Ok.is (writes-whole _ [] _ 0 refl (omega arith) (front-none _))

pub returns-in-Err : goal.returns-in-Err
unfolding meaning
returns-in-Err c = rw c.in-Err.is c.write_violation.ensures
