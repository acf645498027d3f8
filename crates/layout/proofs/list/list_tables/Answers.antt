use native.Mathlib.Omega.{arith}
use native.Mathlib.Nat.{lt_of_le_of_lt}
use Rattle.layout.proofs.LineLaws.{most-fits}
use Rattle.layout.proofs.ListLaws.{text-put}
use Rattle.layout.proofs.list.list_tables.Goals as goal

pub overflow_mul-types : goal.overflow_mul-types
overflow_mul-types c = record { fits = lt_of_le_of_lt (most-fits _ _ _ c.requires _ (omega arith)) (omega arith) }

pub returns-then-types-most : goal.returns-then-types-most
returns-then-types-most c = search text-put
