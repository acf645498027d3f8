use Rattle.load.specs.Pool.{field_text}
use mathlib.Core.Path.{refl}
use Rattle.load.proofs.drawn.field_text.Goals as goal

pub returns : goal.returns
unfolding field_text
returns c = refl
