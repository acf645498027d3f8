use Rattle.compare.proofs.FieldLaws.{kept-moved, kept-resized, kept_same, kept-redescribed}
use Rattle.compare.proofs.fields.check_kept.Goals as goal

pub returns-then-is-was : goal.returns-then-is-was
returns-then-is-was c = search kept-moved

pub returns-then-is-was-2 : goal.returns-then-is-was-2
returns-then-is-was-2 c = search kept-resized

pub returns-then-same_description : goal.returns-then-same_description
returns-then-same_description c = search kept_same

pub returns : goal.returns
returns c = search kept-redescribed
