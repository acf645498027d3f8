use mathlib.Core.Path.{ap, ap₂, ◌∙◌}
use Prim.Native.Nat.{◌+◌, min}
use lib.ListN.{length}
use Rattle.drafts.proofs.MarkedLaws.{text-filled}
use Rattle.drafts.proofs.marking.mark_text.Goals as goal

pub returns : goal.returns
returns c =
    text-filled _ _ _ _ _
    (c.min-end.ensures ∙ ap₂ (λ a b. min (length c.args.marks.now) (a + b)) c.from.ensures c.from-2.ensures)
    (c.min-start.ensures ∙ ap (min c.min-end.result) c.from-3.ensures)
    (c.fill.ensures.after (λ y h. h))
