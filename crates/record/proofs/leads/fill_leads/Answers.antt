use Rattle.record.proofs.LeadLaws.{leads-long, leading-start, leading-eight, leading-on, leading_end, leading_length}
use Rattle.record.proofs.leads.fill_leads.Goals as goal

pub returns-then-marks-gt32768 : goal.returns-then-marks-gt32768
returns-then-marks-gt32768 c = search leads-long

pub loop-place-init : goal.loop-place-init
loop-place-init c = search leading-start

pub loop-place-preserved-then-eight_clear : goal.loop-place-preserved-then-eight_clear
loop-place-preserved-then-eight_clear c = search leading-eight

pub loop-place-preserved : goal.loop-place-preserved
loop-place-preserved c = search leading-on

pub shape_of-leads : goal.shape_of-leads
shape_of-leads c = search leading_length

pub returns : goal.returns
returns c = search leading_end
