use Rattle.record.proofs.LeadLaws.{put-lead-laws}
use Rattle.record.proofs.leads.put_lead.Goals as goal

pub returns-then-byte_at-eq0 : goal.returns-then-byte_at-eq0
returns-then-byte_at-eq0 c = search put-lead-laws

pub returns-in_default : goal.returns-in_default
returns-in_default c = search put-lead-laws

pub returns : goal.returns
returns c = search put-lead-laws
