use borrow.Author.Rules.{rules}
use Rattle.compare.proofs.FieldLaws.{ones-filled}
use Rattle.compare.proofs.fields.fill_ones.Goals as goal

pub returns : goal.returns
returns c = ones-filled _ _ _ (search rules) (c.fill.ensures.after (λ y h. h))
