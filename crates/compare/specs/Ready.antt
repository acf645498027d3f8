-- Both records once they are indexed, as those of the definition. Assumes nothing.
use Rattle.record.specs.Scalars.{scalars_of}
use Rattle.record.specs.Reading.{Rec, rec}
use Rattle.compare.specs.Passes.{Legible, Prepared}
use Rattle.compare.specs.declared.compare.Ready.{Ready}

abbrev pub ready_now : Ready → Rec
ready_now r = rec r.current.record.stream.now r.current.record.pool.now (scalars_of r.rows.now)

abbrev pub ready_then : Ready → Rec
ready_then r = rec r.released.record.stream.now r.released.record.pool.now (scalars_of r.rows.now)

-- both can be read, and the facts are theirs
pub record IsReady (r : Ready) : Type 0 where
  pub is : Legible (ready_now r)
  pub was : Legible (ready_then r)
  pub prepared : Prepared (ready_now r) (ready_then r) r.current.index.now r.released.index.now r.facts
