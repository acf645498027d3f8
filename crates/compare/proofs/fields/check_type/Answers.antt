use Rattle.verdicts.proofs.PassLaws.{not-passed}
use Rattle.compare.proofs.FieldLaws.{found_inside, found-room, found-typed, type-gone, type-there, type-noted}
use borrow.Author.Rules.{rules}
use Rattle.compare.proofs.fields.check_type.Goals as goal

pub returns-in_default : goal.returns-in_default
returns-in_default c = (search type-gone, λ e. absurd (not-passed _ e))

pub offset_bounds-types-i : goal.offset_bounds-types-i
offset_bounds-types-i c = search (rules, found_inside)

pub bounds-types-i : goal.bounds-types-i
bounds-types-i c = search found_inside

pub check_layout-requires : goal.check_layout-requires
check_layout-requires c = (search found-typed, search rules, search found-room)

pub returns : goal.returns
returns c = (search type-there, λ e. search type-noted)
