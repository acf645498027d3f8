use Rattle.drafts.proofs.PackLaws.{packed-is, marks-short, ranks-room}
use Rattle.drafts.proofs.pack.pack_by.Goals as goal

pub fill_ranks-requires : goal.fill_ranks-requires
fill_ranks-requires c = (search marks-short, search ranks-room)

pub returns : goal.returns
returns c = search packed-is
