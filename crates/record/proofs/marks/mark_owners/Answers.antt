use Rattle.record.proofs.RootLaws.{marks-short, marks-filled}
use Rattle.record.proofs.marks.mark_owners.Goals as goal

pub returns-then-marks-stream : goal.returns-then-marks-stream
returns-then-marks-stream c = search marks-short

pub returns : goal.returns
returns c = search marks-filled
