use Rattle.record.proofs.OwnerLaws.{lead-none, lead-told}
use Rattle.record.proofs.ownership.marked_by.Goals as goal

pub returns-in-NoField : goal.returns-in-NoField
returns-in-NoField c = λ l. search lead-none

pub returns-in-AField : goal.returns-in-AField
returns-in-AField c = λ l. search lead-told
