use Rattle.verdicts.proofs.PassLaws.{handed}
use Rattle.compare.proofs.CompareLaws.{seventh-stops, eighth-stops, ninth-ends}
use Rattle.compare.proofs.compare.check_laid.Goals as goal

pub returns-in_err-check_fields : goal.returns-in_err-check_fields
returns-in_err-check_fields c =
    seventh-stops _ _ _ _ _ _ _ _ c.requires.fact.0.prepared _ c.check_fields.ensures.0 _ (handed _ _ _ c.in_err-check_fields.was c.from_residual.ensures)

pub returns-in_err-check_standalone : goal.returns-in_err-check_standalone
returns-in_err-check_standalone c =
    eighth-stops _ _ _ _ _ _ _ _ c.requires.fact.0.prepared _ c.check_fields.ensures.0
    c.in_ok-check_fields.was _ c.check_standalone.ensures _
    (handed _ _ _ c.in_err-check_standalone.was c.from_residual-in_err-check_standalone.ensures)

pub returns : goal.returns
returns c =
    ninth-ends _ _ _ _ _ _ _ _ c.requires.fact.0.prepared _ c.check_fields.ensures.0
    c.in_ok-check_fields.was _ c.check_standalone.ensures _ _ _
    c.in_ok-check_standalone.was c.check_fields.ensures.1 c.check_generations.ensures
