use Rattle.std.proofs.Common.{rules, tests, ◌∙◌}
use Rattle.std.proofs.lemmas.Iterator.{YieldsList-from_slice}
use Rattle.std.proofs.lemmas.Iterator.Search.{all_from_yields_List}
use Rattle.record.specs.Release.{digit}
use Rattle.record.proofs.ReleaseLaws.{digits_all}
use Rattle.record.proofs.release.all_digits.Goals as goal

pub returns : goal.returns
unfolding digit
returns c =
    all_from_yields_List digit _ _ _ c.all.ensures.ran (YieldsList-from_slice c.args.part.now cc) (λ x b q k. search (rules, tests)) ∙ digits_all c.args.part.now
