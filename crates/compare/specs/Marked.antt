-- The marks and roots of a record of the code as the definition's. Assumes nothing.
use Rattle.std.specs.Prelude.{List, ℕ}
use Rattle.record.specs.Ownership.{Known}
use Rattle.record.specs.Versioned.{InSlots}
use Rattle.compare.specs.CoverTable.{Owners}
use Rattle.compare.specs.declared.coverage.Marked.{Marked}

-- they are the record's
abbrev pub AreMarked : Marked → Type 0
AreMarked m =
    Known m.catalog.record.stream.now m.catalog.record.pool.now m.marks.now m.catalog.index.now
    × InSlots m.catalog.record.stream.now m.catalog.record.pool.now m.roots

-- and so are these leads
abbrev pub AreOwners : Marked → List ℕ → Type 0
AreOwners m leads = Owners m.catalog.record.stream.now m.catalog.record.pool.now m.roots m.marks.now m.catalog.index.now leads
