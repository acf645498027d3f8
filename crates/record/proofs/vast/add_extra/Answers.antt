use Rattle.record.proofs.BoundLaws.{field-there, extra-laws}
use Rattle.record.proofs.vast.add_extra.Goals as goal

pub add_numbers-requires : goal.add_numbers-requires
add_numbers-requires c = search field-there

pub returns-then-byte_at-eq11 : goal.returns-then-byte_at-eq11
returns-then-byte_at-eq11 c = search extra-laws

pub returns : goal.returns
returns c = search extra-laws
