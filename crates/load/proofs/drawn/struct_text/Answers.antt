use mathlib.Core.Path.{refl}
use Rattle.load.specs.Pool.{struct_text}
use Rattle.load.proofs.drawn.struct_text.Goals as goal

pub returns : goal.returns
unfolding struct_text
returns c = refl
