use mathlib.Core.Path.{refl}
use Rattle.record.specs.Base.{bytes}
use Rattle.record.specs.Scalars.{built_in_rows}
use Rattle.record.proofs.scalars.built_in.Goals as goal

pub returns : goal.returns
unfolding built_in_rows bytes
returns c = refl
