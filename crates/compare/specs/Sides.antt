-- The records of the code that the passes over the types read, as those of the definition. Assumes nothing.
use Rattle.std.specs.Prelude.{List, ℕ}
use Rattle.record.specs.Scalars.{scalars_of}
use Rattle.record.specs.Reading.{Rec, rec}
use Rattle.layout.specs.Spots.{SoundCursor}
use Rattle.layout.specs.declared.spots.SpotCursor.{SpotCursor}
use Rattle.compare.specs.declared.sides.Measured.{Measured}
use Rattle.compare.specs.declared.sides.Sides.{Sides}
use Rattle.compare.specs.declared.sides.Laid.{Laid}
use Rattle.compare.specs.Passes.{TypesLaid}

-- one of them, by these rows of scalars
abbrev pub whole : List ℕ → Measured → Rec
whole rows m = rec m.record.stream.now m.record.pool.now (scalars_of rows)

-- the current one and the released one
abbrev pub now_of : Sides → Rec
now_of s = whole s.rows.now s.current

abbrev pub then_of : Sides → Rec
then_of s = whole s.rows.now s.released

-- cursors that are sound in them
abbrev pub SoundNow : Sides → SpotCursor → Type 0
SoundNow s c = SoundCursor (now_of s) s.current.sizes.now c

abbrev pub SoundThen : Sides → SpotCursor → Type 0
SoundThen s c = SoundCursor (then_of s) s.released.sizes.now c

-- the tables of types are those of both
abbrev pub AreLaid : Laid → Type 0
AreLaid l = TypesLaid (now_of l.sides) (then_of l.sides) l.types.now l.sides.current.sizes.now l.old_types.now l.sides.released.sizes.now
