use Rattle.record.proofs.WordLaws.{skip-none, skip-more}
use borrow.Author.Rules.{rules}
use Rattle.record.proofs.words.skip.Goals as goal

pub loop-i-init : goal.loop-i-init
loop-i-init c = (skip-none _ _, search rules, search rules, search rules)

pub loop-i-preserved : goal.loop-i-preserved
loop-i-preserved c = (
  skip-more _ _ c.shared_slice_known-1.given
      c.shared_slice_known-2-1.given _ c.min-n.result _ _
      c.loop-i.invariant.0 c.word.ensures c.word-in-loop-i.ensures c.if-word.false
      c.loop-i.invariant.1 c.loop-i.invariant.2 c.loop-i.invariant.3 (search rules),
  search rules,
  search rules,
  search rules,
)
