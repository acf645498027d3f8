use Rattle.verdicts.proofs.PassLaws.{handed}
use Rattle.compare.proofs.CompareLaws.{declared-stop, declared-on}
use borrow.Author.Rules.{rules}
use Rattle.compare.proofs.compare.check_prepared.Goals as goal

pub check_declared-requires : goal.check_declared-requires
check_declared-requires c = record { old_stream_len_bound = (search rules, search rules); fact = search rules }

pub returns-in_err-check_declared : goal.returns-in_err-check_declared
returns-in_err-check_declared c = search (declared-stop, handed, c.in_err-check_declared.was)

pub check_types-requires : goal.check_types-requires
check_types-requires c = record {
  table_rooms = record {
    types-room = search rules;
    constants-room = search rules;
    shipped-room = search rules;
    sizes-room = search rules;
    widths-room = search rules;
    marks-room = search rules;
    scratch-room = search rules;
    old-scratch-room = search rules;
  };
  fact = search rules;
}

pub returns : goal.returns
returns c = search (declared-on, c.in_ok-check_declared.was)
