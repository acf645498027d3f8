use Rattle.compare.proofs.FieldLaws.{found_inside}
use Rattle.compare.proofs.StandaloneLaws.{both-new, both-gone, both-there}
use borrow.Author.Rules.{rules}
use Rattle.compare.proofs.standalone.find_both.Goals as goal

pub returns-in_default : goal.returns-in_default
returns-in_default c = search both-new

pub offset_bounds-old_types-j : goal.offset_bounds-old_types-j
offset_bounds-old_types-j c = search (rules, found_inside)

pub bounds-old_types-j : goal.bounds-old_types-j
bounds-old_types-j c = search found_inside

pub returns-in_default-is : goal.returns-in_default-is
returns-in_default-is c = search both-gone

pub offset_bounds-types-i : goal.offset_bounds-types-i
offset_bounds-types-i c = search (rules, found_inside)

pub bounds-types-i : goal.bounds-types-i
bounds-types-i c = search found_inside

pub returns : goal.returns
returns c = search both-there
