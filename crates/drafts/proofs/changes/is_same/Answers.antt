use Rattle.compare.proofs.FieldLaws.{found_inside, found-typed}
use Rattle.drafts.proofs.ChangedLaws.{same_none, same_some}
use borrow.Author.Rules.{rules}
use Rattle.drafts.proofs.changes.is_same.Goals as goal

pub returns-in_default : goal.returns-in_default
returns-in_default c = search same_none

pub offset_bounds-shipped-i : goal.offset_bounds-shipped-i
offset_bounds-shipped-i c = search (rules, found_inside)

pub bounds-shipped-i : goal.bounds-shipped-i
bounds-shipped-i c = search found_inside

pub same_fields-requires : goal.same_fields-requires
same_fields-requires c = ((search found-typed, search rules, search rules), (search rules, search rules, search rules))

pub returns : goal.returns
returns c = search same_some
