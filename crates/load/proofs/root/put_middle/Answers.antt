use Rattle.load.proofs.RootLaws.{middle-gone, middle-moved, middle-resized, middle-same}
use Rattle.load.proofs.root.put_middle.Goals as goal

pub returns-in-FieldGone : goal.returns-in-FieldGone
returns-in-FieldGone c = search middle-gone

pub returns-in-FieldMoved : goal.returns-in-FieldMoved
returns-in-FieldMoved c = search middle-moved

pub returns-in-FieldResized : goal.returns-in-FieldResized
returns-in-FieldResized c = search middle-resized

pub returns-in_default : goal.returns-in_default
returns-in_default c = search middle-same
