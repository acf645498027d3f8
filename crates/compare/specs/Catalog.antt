-- A record of the code as that of the definition, with no scalar words: the passes outside the types read none. Assumes nothing.
use Rattle.std.specs.Prelude.{[]}
use Rattle.record.specs.Reading.{Rec, rec}
use Rattle.compare.specs.declared.catalog.Record.{Record}

abbrev pub read : Record → Rec
read r = rec r.stream.now r.pool.now []
