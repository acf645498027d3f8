use Rattle.compare.proofs.EnumLaws.{enum_laws}
use Rattle.compare.proofs.enums.check_enum.Goals as goal

pub returns-in_default : goal.returns-in_default
returns-in_default c = search enum_laws

pub returns-in_default-first_enum : goal.returns-in_default-first_enum
returns-in_default-first_enum c = search enum_laws

pub returns : goal.returns
returns c = search enum_laws
