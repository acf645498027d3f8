use Rattle.record.proofs.LeadLaws.{given-laws}
use Rattle.record.proofs.leads.lead_to.Goals as goal

pub returns-then-leads-eq0 : goal.returns-then-leads-eq0
returns-then-leads-eq0 c = search given-laws

pub returns-then-leads-entry : goal.returns-then-leads-entry
returns-then-leads-entry c = search given-laws

pub returns-then-link-eq0 : goal.returns-then-link-eq0
returns-then-link-eq0 c = search given-laws

pub returns : goal.returns
returns c = search given-laws
