use lib.ListN.{length-set}
use Rattle.record.proofs.PlaceLaws.{places-nearer}
use Rattle.record.proofs.MarkLaws.{field_laws, field-less, field-ready, field-length, going-length, going_less, going-ready, place_inside, place-number, visit-inside, type-seen, type-starts, type-ends, type-goes}
use Rattle.record.proofs.marks.+walk_field_walk_type.Goals as goal

pub walk_field-returns-then-marks-place-ne0 : goal.walk_field-returns-then-marks-place-ne0
walk_field-returns-then-marks-place-ne0 t c = search field_laws

pub walk_field-shape_of-marks-in_default : goal.walk_field-shape_of-marks-in_default
walk_field-shape_of-marks-in_default t c = simp length-set

pub walk_field-returns-in_default : goal.walk_field-returns-in_default
walk_field-returns-in_default t c = search field_laws

pub walk_field-walk_type-requires : goal.walk_field-walk_type-requires
walk_field-walk_type-requires t c = (search field-less, search field-ready)

pub walk_field-shape_of-marks : goal.walk_field-shape_of-marks
walk_field-shape_of-marks t c = search field-length

pub walk_field-returns : goal.walk_field-returns
walk_field-returns t c = search field_laws

pub walk_type-returns-then-is_visited : goal.walk_type-returns-then-is_visited
walk_type-returns-then-is_visited t c = search type-seen

pub walk_type-bounds-marks-place : goal.walk_type-bounds-marks-place
walk_type-bounds-marks-place t c = search visit-inside

pub walk_type-loop-field-init : goal.walk_type-loop-field-init
walk_type-loop-field-init t c = search type-starts

pub walk_type-shape_of-marks-in_default : goal.walk_type-shape_of-marks-in_default
walk_type-shape_of-marks-in_default t c = search going-length

pub walk_type-returns-in_default : goal.walk_type-returns-in_default
walk_type-returns-in_default t c = search type-ends

pub walk_type-walk_field-requires : goal.walk_type-walk_field-requires
walk_type-walk_field-requires t c = (search going_less, (search going-ready, search place_inside, search place-number))

pub walk_type-loop-field-smaller : goal.walk_type-loop-field-smaller
walk_type-loop-field-smaller t c = search places-nearer

pub walk_type-loop-field-preserved : goal.walk_type-loop-field-preserved
walk_type-loop-field-preserved t c = search type-goes
