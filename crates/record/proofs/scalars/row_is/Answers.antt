use Rattle.std.proofs.Common.{rules, ◌∙◌}
use Rattle.record.proofs.ScalarLaws.{row-short, row-longer, row-differs, row_same}
use Rattle.record.proofs.scalars.row_is.Goals as goal
use Rattle.record.proofs.scalars.row_is.Goals.{then-n-gt8-via-then-n-gt8, then-n-gt8-via-else-n-gt8+then-not-row_ends}

pub returns-then-n-gt8 : goal.returns-then-n-gt8
returns-then-n-gt8 c = elim c.then-n-gt8.branch [
  | then-n-gt8-via-then-n-gt8 w ↦ row-short _ _ c.requires w.if-n-gt8.true
  | then-n-gt8-via-else-n-gt8+then-not-row_ends w ↦ row-longer _ _ c.requires w.if-n-gt8.false _ w.row_ends.ensures w.if-not-row_ends.true
]

pub returns-then-same : goal.returns-then-same
returns-then-same c =
    row_same _ _ c.requires c.if-n-gt8.false _ _ _ c.row_ends.ensures c.if-not-row_ends.false (search rules) c.if-same.true c.place_of.ensures

pub returns-else-same : goal.returns-else-same
returns-else-same c = c.if-same.false ∙ row-differs _ _ c.requires c.if-n-gt8.false _ (search rules) c.if-same.false
