use Rattle.record.proofs.LeadLaws.{put-least-laws}
use Rattle.record.proofs.leads.put_least.Goals as goal

pub returns-then-leads-entry : goal.returns-then-leads-entry
returns-then-leads-entry c = search put-least-laws

pub returns-then-is_least : goal.returns-then-is_least
returns-then-is_least c = search put-least-laws

pub returns : goal.returns
returns c = search put-least-laws
