use Rattle.compare.proofs.LayoutLaws.{fields-same, bare-same}
use Rattle.compare.proofs.FieldLaws.{cursor-sound}
use Rattle.compare.proofs.layouts.same_layout.Goals as goal

pub returns-then-both_bare : goal.returns-then-both_bare
returns-then-both_bare c = search bare-same

pub same_ahead-requires : goal.same_ahead-requires
same_ahead-requires c = (search cursor-sound, search cursor-sound)

pub returns : goal.returns
returns c =
    let pre = c.requires in
    fields-same _ _ _ _ _ _ _ _ _ _ pre.0 pre.1 c.first_spot-is.ensures c.first_spot-was.ensures c.same_ahead.ensures
