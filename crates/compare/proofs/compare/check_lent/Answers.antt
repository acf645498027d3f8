use native.Mathlib.Omega.{arith}
use Rattle.compare.proofs.compare.check_lent.Goals as goal

pub check_prepared-requires : goal.check_prepared-requires
check_prepared-requires c =
    let pre = c.requires in record {
      table_rooms = record {
        types-room = omega (arith, pre.2.types-room);
        constants-room = omega (arith, pre.2.constants-room);
        shipped-room = omega (arith, pre.2.shipped-room);
        sizes-room = omega (arith, pre.2.sizes-room);
        widths-room = omega (arith, pre.2.widths-room);
        marks-room = omega (arith, pre.2.marks-room);
        scratch-room = omega (arith, pre.2.scratch-room);
        old-scratch-room = omega (arith, pre.2.old-scratch-room);
      };
      fact = record { is = c.args.pair.now.is; was = c.args.pair.now.was; prepared = c.prepare-facts.ensures };
    }
