use mathlib.Core.Path.{◌≡◌}
use Rattle.drafts.specs.Shelving.{covering}
use Rattle.drafts.proofs.closing.stays.Given as goal

abbrev pub invariant-loop-start : goal.invariant-loop-start
invariant-loop-start l = covering l.starts l.sizes l.at ≡ covering l.start-iterator.a.rest.now l.start-iterator.b.rest.now l.at
