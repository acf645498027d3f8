use Rattle.drafts.proofs.ChangedLaws.{indexed-one}
use Rattle.drafts.proofs.changes.index_one.Goals as goal

pub returns : goal.returns
returns c = search indexed-one
