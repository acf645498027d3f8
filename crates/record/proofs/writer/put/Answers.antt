use Rattle.record.proofs.WriterLaws.{puts-over, put-room, puts-in}
use native.Mathlib.Omega.{arith}
use Rattle.record.proofs.writer.put.Goals as goal

pub returns-then-out-end : goal.returns-then-out-end
returns-then-out-end c = puts-over _ _ _ _ c.after-end.ensures (omega arith) (omega arith)

pub copy-requires : goal.copy-requires
copy-requires c = let a = c.args in put-room a.out.now a.src.now a.at _ c.after-end.ensures (omega arith) (omega arith)

pub returns : goal.returns
returns c = puts-in _ _ _ _ c.after-end.ensures _ (omega arith) (omega arith) c.copy.ensures
