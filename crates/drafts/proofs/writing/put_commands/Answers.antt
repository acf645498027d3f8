use Rattle.record.proofs.SeekLaws.{after-nearer}
use mathlib.Core.Path.{refl}
use Rattle.drafts.proofs.PutLaws.{putting-start, putting-on, putting-end, written-stop, written_on, written-end}
use native.Mathlib.Omega.{arith}
use Rattle.drafts.proofs.writing.put_commands.Goals as goal

pub loop-place-init : goal.loop-place-init
loop-place-init c = putting-start (omega arith) (omega arith) refl

pub returns-then-after-eq0 : goal.returns-then-after-eq0
returns-then-after-eq0 c = search (putting-end, written-stop)

pub loop-place-smaller : goal.loop-place-smaller
loop-place-smaller c = search after-nearer

pub loop-place-preserved : goal.loop-place-preserved
loop-place-preserved c = search (putting-on, written_on)

pub returns : goal.returns
returns c = search (putting-end, written-end)
