use Rattle.std.proofs.Common.{rules, arith, sym, ◌∙◌}
use Rattle.std.proofs.lemmas.Bool.{leb-true}
use Rattle.record.proofs.OwnerLaws.{eight-there}
use Rattle.record.proofs.ownership.eight_clear.Goals as goal
use Rattle.record.proofs.ownership.eight_clear.Goals.{then-marks-ge8, else-marks-ge8}

pub returns-then-place-marks : goal.returns-then-place-marks
returns-then-place-marks c = elim c.if-marks-ge8.branch [
  | then-marks-ge8 w ↦ eight-there _ _ _ c.word.ensures (search rules) (search rules)
  | else-marks-ge8 w ↦ let t = leb-true _ _ (sym w.value-is ∙ c.if-place-marks.true) in absurd (omega arith)
]
