use Rattle.std.proofs.Common.{ℕ, length, arith, sym, ap}
use Rattle.record.specs.Base.{decimal}
use Rattle.record.proofs.WriterLaws.{length-digits}
use Rattle.record.proofs.writer.number_len.Goals as goal

pub returns-in-Some : goal.returns-in-Some
unfolding decimal
returns-in-Some c =
    let b = c.in-Some.ensures.bound in
    (sym (length-digits c.in-Some.k 20 c.args.n b c.in-Some.ensures.power_le c.in-Some.ensures.next_power_gt), omega arith)

pub returns-in-None : goal.returns-in-None
unfolding decimal
returns-in-None c = (ap (λ (m : ℕ). length (decimal m)) (sym c.in-None.ensures.none), omega arith)
