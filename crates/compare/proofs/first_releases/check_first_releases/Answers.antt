use Rattle.verdicts.proofs.PassLaws.{handed}
use Rattle.compare.proofs.FirstReleaseLaws.{first-constants, first-enums, first-keys}
use Rattle.compare.proofs.first_releases.check_first_releases.Goals as goal

pub returns-in_err-check_constant_arrivals : goal.returns-in_err-check_constant_arrivals
returns-in_err-check_constant_arrivals c =
    first-constants _ _ _ _ _ _ c.requires _ _ _ _ _ c.upto.ensures c.check_constant_arrivals.ensures _
    (handed _ _ _ c.in_err-check_constant_arrivals.was c.from_residual.ensures)

pub returns-in_err-check_enum_arrivals : goal.returns-in_err-check_enum_arrivals
returns-in_err-check_enum_arrivals c =
    first-enums _ _ _ _ _ _ c.requires _ _ _ _ _ c.upto.ensures c.check_constant_arrivals.ensures
    c.in_ok-check_constant_arrivals.was _ _ c.upto-2.ensures c.check_enum_arrivals.ensures _
    (handed _ _ _ c.in_err-check_enum_arrivals.was c.from_residual-in_err-check_enum_arrivals.ensures)

pub returns : goal.returns
returns c =
    first-keys _ _ _ _ _ _ c.requires _ _ _ _ _ c.upto.ensures c.check_constant_arrivals.ensures
    c.in_ok-check_constant_arrivals.was _ _ c.upto-2.ensures c.check_enum_arrivals.ensures _ _
    c.in_ok-check_enum_arrivals.was c.upto-3.ensures c.check_key_arrivals.ensures
