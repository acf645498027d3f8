use Rattle.compare.proofs.FieldLaws.{cursor-sound, bare-passed, layout-fields, layout-noted}
use borrow.Author.Rules.{rules}
use Rattle.compare.proofs.fields.check_layout.Goals as goal

pub note_rest-requires : goal.note_rest-requires
note_rest-requires c = (search cursor-sound, search cursor-sound, search rules)

pub returns-then-is_bare : goal.returns-then-is_bare
returns-then-is_bare c = record { verdict = search bare-passed; entry = search layout-noted }

pub check_changed-requires : goal.check_changed-requires
check_changed-requires c = (search cursor-sound, search cursor-sound, search rules)

pub returns : goal.returns
returns c =
    let pre = c.requires in
    let spot = c.first_spot-was.ensures in
    let spot2 = c.first_spot-is.ensures in
    let changed = c.check_changed.ensures in
    record {
      verdict = layout-fields _ _ _ _ _ _ _ _ _ _ _ pre.0 pre.1 spot2 spot c.type_name-owner.ensures changed.verdict;
      entry = layout-noted _ _ _ _ _ _ _ _ _ c.args.types.index c.args.cover.now _ pre.0 pre.1 spot2 spot changed.entry;
    }
