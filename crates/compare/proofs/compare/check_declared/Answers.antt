use Rattle.verdicts.proofs.PassLaws.{handed}
use Rattle.compare.proofs.CompareLaws.{short_cut, room_cut, second-stops, third-stops, fourth-stops, fifth-stops, sixth-ends}
use Rattle.compare.proofs.compare.check_declared.Goals as goal

pub returns-in_err-check_first_releases : goal.returns-in_err-check_first_releases
returns-in_err-check_first_releases c =
    second-stops _ _ _ _ _ _ _ _ c.requires.fact.prepared _ c.check_first_releases.ensures _ (handed _ _ _ c.in_err-check_first_releases.was c.from_residual.ensures)

pub check_constants-requires : goal.check_constants-requires
check_constants-requires c = (search (short_cut, c.requires.fact.was.short), search room_cut, search room_cut)

pub returns-in_err-check_constants : goal.returns-in_err-check_constants
returns-in_err-check_constants c =
    third-stops _ _ _ _ _ _ _ _ c.requires.fact.prepared _ c.check_first_releases.ensures
    c.in_ok-check_first_releases.was _ _ c.upto.ensures c.check_constants.ensures _
    (handed _ _ _ c.in_err-check_constants.was c.from_residual-in_err-check_constants.ensures)

pub returns-in_err-check_enums : goal.returns-in_err-check_enums
returns-in_err-check_enums c =
    fourth-stops _ _ _ _ _ _ _ _ c.requires.fact.prepared _ c.check_first_releases.ensures
    c.in_ok-check_first_releases.was _ _ c.upto.ensures c.check_constants.ensures
    c.in_ok-check_constants.was _ _ c.upto-2.ensures c.check_enums.ensures _
    (handed _ _ _ c.in_err-check_enums.was c.from_residual-in_err-check_enums.ensures)

pub returns-in_err-check_bitfields : goal.returns-in_err-check_bitfields
returns-in_err-check_bitfields c =
    fifth-stops _ _ _ _ _ _ _ _ c.requires.fact.prepared _ c.check_first_releases.ensures
    c.in_ok-check_first_releases.was _ _ c.upto.ensures c.check_constants.ensures
    c.in_ok-check_constants.was _ _ c.upto-2.ensures c.check_enums.ensures
    c.in_ok-check_enums.was _ _ _ c.upto-3.ensures c.upto-4.ensures c.check_bitfields.ensures _
    (handed _ _ _ c.in_err-check_bitfields.was c.from_residual-in_err-check_bitfields.ensures)

pub returns : goal.returns
returns c =
    sixth-ends _ _ _ _ _ _ _ _ c.requires.fact.prepared _ c.check_first_releases.ensures
    c.in_ok-check_first_releases.was _ _ c.upto.ensures c.check_constants.ensures
    c.in_ok-check_constants.was _ _ c.upto-2.ensures c.check_enums.ensures
    c.in_ok-check_enums.was _ _ _ c.upto-3.ensures c.upto-4.ensures c.check_bitfields.ensures _
    c.in_ok-check_bitfields.was c.check_bitfield_releases.ensures
