-- Both records of the code as those of the definition. Assumes nothing.
use Rattle.record.specs.Scalars.{scalars_of}
use Rattle.record.specs.Reading.{Rec, rec}
use Rattle.compare.specs.declared.pair.Pair.{Pair}

abbrev pub pair_now : Pair → Rec
pair_now p = rec p.current.stream.now p.current.pool.now (scalars_of p.rows.now)

abbrev pub pair_then : Pair → Rec
pair_then p = rec p.released.stream.now p.released.pool.now (scalars_of p.rows.now)
