use mathlib.Core.Path.{sym}
use mathlib.Core.Bool.{false≢true}
use Rattle.compare.proofs.KeptLaws.{note-seen, note-new, note-none}
use Rattle.compare.proofs.kept.note.Goals as goal

pub returns-then-seen-key-ne0 : goal.returns-then-seen-key-ne0
returns-then-seen-key-ne0 c = (search note-seen, λ e. absurd (false≢true (sym e)))

pub returns : goal.returns
returns c = (search note-new, λ e. search note-none)
