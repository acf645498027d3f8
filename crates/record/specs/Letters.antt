-- The letters of a pool: number 7 of 01, What a check returns, as W-206 of 02 has it. Assumes nothing.
use Rattle.std.specs.Prelude.{cond, eqb, length, Option, Some, None, ℕ}
use Rattle.texts.specs.Utf8.{odd_place}
use Rattle.record.specs.Base.{Str}

-- the place of the first ill-formed sequence or control byte
unfoldable pub odd_letter : Str → Option ℕ
odd_letter s = cond (eqb (odd_place s) (length s)) None (Some (odd_place s))
