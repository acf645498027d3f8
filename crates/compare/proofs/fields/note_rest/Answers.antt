use Rattle.compare.proofs.FieldLaws.{note-laws}
use Rattle.compare.proofs.fields.note_rest.Goals as goal

pub returns-then-both_bare : goal.returns-then-both_bare
returns-then-both_bare c = search note-laws

pub returns-then-same_rest : goal.returns-then-same_rest
returns-then-same_rest c = search note-laws

pub returns-else-same_rest : goal.returns-else-same_rest
returns-else-same_rest c = search note-laws
