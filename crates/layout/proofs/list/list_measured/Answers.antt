use Rattle.layout.proofs.ListLaws.{text-no-room, text-written}
use Rattle.layout.proofs.list.list_measured.Goals as goal

pub returns-then-out-len : goal.returns-then-out-len
returns-then-out-len c = search text-no-room

pub returns : goal.returns
returns c = search text-written
