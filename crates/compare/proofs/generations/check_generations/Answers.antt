use Rattle.compare.proofs.GenerationLaws.{generations-are}
use Rattle.compare.proofs.generations.check_generations.Goals as goal

pub fill_cover-requires : goal.fill_cover-requires
fill_cover-requires c =
    let pre = c.requires in
    let slots = c.versioned_structs-slots.ensures in
    let index = c.args.current.now.indexed in
    ((record { marks = c.mark_owners.ensures.within pre.1 slots index; index = index }, slots), pre.2)

pub check_filled-requires : goal.check_filled-requires
check_filled-requires c = c.versioned_structs-slots.ensures

pub returns : goal.returns
returns c = λ w g. search (generations-are, c.requires.0)
