use borrow.Author.Rules.{rules}
use Rattle.compare.proofs.compare.check_sized.Goals as goal

pub check_lent-requires : goal.check_lent-requires
check_lent-requires g c = (
  search rules,
  search rules,
  record {
    types-room = search rules;
    constants-room = search rules;
    shipped-room = search rules;
    sizes-room = search rules;
    widths-room = search rules;
    marks-room = search rules;
    scratch-room = search rules;
    old-scratch-room = search rules;
  },
)
