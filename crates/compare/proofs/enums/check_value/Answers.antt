use Rattle.compare.proofs.EnumLaws.{value-laws}
use Rattle.compare.proofs.enums.check_value.Goals as goal

pub returns-then-v-was : goal.returns-then-v-was
returns-then-v-was c = search value-laws

pub returns-in-Some : goal.returns-in-Some
returns-in-Some c = search value-laws

pub returns-in_default-find_number : goal.returns-in_default-find_number
returns-in_default-find_number c = search value-laws

pub returns : goal.returns
returns c = search value-laws
