use Rattle.std.proofs.Common.{◌∙◌}
use Rattle.record.proofs.TextLaws.{kept, ended}
use Rattle.record.proofs.ReleaseLaws.{number-laws, number-vast}
use borrow.Author.Rules.{rules}
use Rattle.record.proofs.release.parse.Goals as goal

pub returns-then-n-ge4294967296 : goal.returns-then-n-ge4294967296
returns-then-n-ge4294967296 c =
    ended c.loop-b.invariant.1 (number-vast c.args.part.now c.loop-b.b-index c.loop-b.n _ (search rules) (c.from.ensures ∙ c.saturating_sub.ensures) c.if-n-ge4294967296.true)

pub loop-b-preserved : goal.loop-b-preserved
loop-b-preserved c = (search rules, search (kept, number-laws))

pub returns : goal.returns
returns c = search (ended, number-laws)
