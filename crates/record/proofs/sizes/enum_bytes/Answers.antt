use Rattle.record.proofs.SizeLaws.{sized-laws}
use Rattle.record.proofs.sizes.enum_bytes.Goals as goal

pub returns-in_default : goal.returns-in_default
returns-in_default c = λ f. search sized-laws

pub returns : goal.returns
returns c = λ f. search (sized-laws, c.enum_size.ensures f)
