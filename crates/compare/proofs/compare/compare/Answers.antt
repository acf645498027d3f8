use Rattle.record.specs.Reading.{rec}
use Rattle.compare.proofs.CompareLaws.{compared-unreleased, compared, releases}
use Rattle.compare.proofs.compare.compare.Goals as goal

pub returns-then-head_unreleased : goal.returns-then-head_unreleased
returns-then-head_unreleased c = compared-unreleased (rec _ _ _) (rec _ _ _) _ c.head_unreleased.ensures _ _ c.if-head_unreleased.true c.check_nothing_released.ensures

pub invariant_of-check_passes : goal.invariant_of-check_passes
invariant_of-check_passes c = record {
  is = c.requires.0;
  was = c.requires.1;
  releases = releases (rec _ _ _) (rec _ _ _) _ _ _ c.head_release.ensures c.required_text.ensures c.head_release-2.ensures;
}

pub returns : goal.returns
returns c = compared (rec _ _ _) (rec _ _ _) _ c.head_unreleased.ensures _ c.if-head_unreleased.false c.check_passes.ensures
