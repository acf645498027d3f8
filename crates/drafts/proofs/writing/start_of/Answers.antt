use mathlib.Core.Path.{ap, ◌∙◌}
use Rattle.drafts.specs.Code.{rank_at}
use Rattle.drafts.proofs.PutLaws.{start-least}
use Rattle.drafts.proofs.writing.start_of.Goals as goal

pub returns : goal.returns
returns c = start-least _ _ _ _ (c.rank_at.ensures ∙ ap (rank_at c.args.ranks.now) c.from.ensures) _ c.saturating_add.ensures
