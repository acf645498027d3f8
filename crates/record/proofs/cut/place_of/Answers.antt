use Rattle.std.proofs.Common.{rules, tests}
use Rattle.std.proofs.lemmas.Iterator.{YieldsList-from_slice}
use Rattle.std.proofs.lemmas.Iterator.Search.{position_from_yields_List}
use Rattle.record.proofs.CutLaws.{place_found}
use Rattle.record.proofs.cut.place_of.Goals as goal

pub returns : goal.returns
returns c =
    place_found c.args.b c.args.s.now _ _
    (position_from_yields_List _ _ _ _ c.position.ensures.ran (YieldsList-from_slice c.args.s.now cc) (λ x b q k. search (rules, tests)))
    c.unwrap_or.ensures
