use Rattle.record.proofs.TextLaws.{kept, ended}
use Rattle.verdicts.proofs.PassLaws.{handed}
use Rattle.compare.proofs.FirstReleaseLaws.{plugin-keys-nearer, keys-begin, key-arrivals-laws}
use Rattle.compare.proofs.first_releases.check_key_arrivals.Goals as goal

pub loop-is-init : goal.loop-is-init
loop-is-init c = search keys-begin

pub returns : goal.returns
returns c = search (ended, key-arrivals-laws)

pub loop-is-smaller : goal.loop-is-smaller
loop-is-smaller c = search plugin-keys-nearer

pub loop-is-preserved : goal.loop-is-preserved
loop-is-preserved c = search (kept, key-arrivals-laws, c.in_ok-check_key_arrival.was)

pub returns-in_err-check_key_arrival : goal.returns-in_err-check_key_arrival
returns-in_err-check_key_arrival c = search (ended, key-arrivals-laws, handed, c.in_err-check_key_arrival.was)
