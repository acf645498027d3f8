use Rattle.compare.proofs.LayoutLaws.{alike_same}
use Rattle.compare.proofs.layouts.same_description.Goals as goal

pub returns-then-alike : goal.returns-then-alike
returns-then-alike c = search alike_same
