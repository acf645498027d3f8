use Rattle.compare.proofs.ConstantLaws.{constant-gone, constant-same, constant-exempt, constant-changed}
use Rattle.compare.proofs.constants.check_constant.Goals as goal

pub returns-in_default : goal.returns-in_default
returns-in_default c = search constant-gone

pub returns-then-same_value : goal.returns-then-same_value
returns-then-same_value c = search constant-same

pub returns-then-is_generation : goal.returns-then-is_generation
returns-then-is_generation c = search constant-exempt

pub returns : goal.returns
returns c = search constant-changed
