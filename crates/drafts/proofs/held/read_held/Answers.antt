use Rattle.drafts.proofs.HeldLaws.{held-laws}
use Rattle.drafts.proofs.held.read_held.Goals as goal

pub returns-then-stated-gt32768 : goal.returns-then-stated-gt32768
returns-then-stated-gt32768 c = search held-laws

pub returns-then-stated-gt16384 : goal.returns-then-stated-gt16384
returns-then-stated-gt16384 c = search held-laws

pub returns : goal.returns
returns c = search held-laws
