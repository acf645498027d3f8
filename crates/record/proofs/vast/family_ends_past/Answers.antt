use Rattle.record.proofs.VastLaws.{front-laws}
use Rattle.record.proofs.vast.family_ends_past.Goals as goal

pub returns-then-start-gt-LIMIT : goal.returns-then-start-gt-LIMIT
returns-then-start-gt-LIMIT c = search front-laws

pub returns : goal.returns
returns c = search front-laws
