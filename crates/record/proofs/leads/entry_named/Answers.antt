use Rattle.record.proofs.LeadLaws.{entry-laws}
use Rattle.record.proofs.leads.entry_named.Goals as goal

pub returns-then-found-eq0 : goal.returns-then-found-eq0
returns-then-found-eq0 c = search entry-laws

pub returns : goal.returns
returns c = search entry-laws
