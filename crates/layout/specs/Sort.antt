-- Numbers in the byte order of their names: a stable sort by insertion, the merge of two lists, a list taken a stretch at a time, and the
-- last of each run of one name. The code's way to the map of Sorted. Assumes nothing.
use Rattle.std.specs.Prelude.{ℕ, zero, suc, ◌+◌, ◌<◌, ◌≤◌, ◌≡◌, List, [], ◌∷◌, ◌++◌, Bool, true, false, cond, ◌&&◌, length, take, drop}
use Rattle.record.specs.Base.{Str, before}

-- one number in front of the first that is not below it
unfoldable pub put : (ℕ → Str) → ℕ → List ℕ → List ℕ
put key x [] = x ∷ []
put key x (y ∷ ys) = cond (before (key y) (key x)) (y ∷ put key x ys) (x ∷ y ∷ ys)

-- the numbers in byte order of their names; those of one name stay in their order
unfoldable pub arranged : (ℕ → Str) → List ℕ → List ℕ
arranged key [] = []
arranged key (x ∷ xs) = put key x (arranged key xs)

-- the next from either list: the second's only where it goes before the first's
unfoldable pub merge_with : (ℕ → Str) → ℕ → (List ℕ → List ℕ) → List ℕ → List ℕ
merge_with key x rest [] = x ∷ rest []
merge_with key x rest (y ∷ ys) = cond (before (key y) (key x)) (y ∷ merge_with key x rest ys) (x ∷ rest (y ∷ ys))

unfoldable pub merge : (ℕ → Str) → List ℕ → List ℕ → List ℕ
merge key [] ys = ys
merge key (x ∷ xs) ys = merge_with key x (merge key xs) ys

-- the next of a merge is the second list's
unfoldable pub second_next : (ℕ → Str) → List ℕ → List ℕ → Bool
second_next key [] ys = true
second_next key (x ∷ xs) [] = false
second_next key (x ∷ xs) (y ∷ ys) = before (key y) (key x)

-- a list taken w at a time, each stretch changed
unfoldable pub chunks_from : ℕ → (List ℕ → List ℕ) → ℕ → List ℕ → List ℕ
chunks_from zero f w l = []
chunks_from (suc n) f w l = f (take w l) ++ chunks_from n f w (drop w l)

unfoldable pub chunks : (List ℕ → List ℕ) → ℕ → List ℕ → List ℕ
chunks f w l = chunks_from (length l) f w l

-- the first w merged with the rest
unfoldable pub halves : (ℕ → Str) → ℕ → List ℕ → List ℕ
halves key w l = merge key (take w l) (drop w l)

-- w past a, and no further than n
pub record Bounded (a w n r : ℕ) : Type 0 where
  pub above : a ≤ r
  pub within : r ≤ n
  pub near : r ≤ a + w
  pub else-end : r < a + w → r ≡ n

-- a number ends its run where it goes before the next, or is the last of all
unfoldable pub ends_run : (ℕ → Str) → List ℕ → Bool
ends_run key [] = true
ends_run key (x ∷ []) = true
ends_run key (x ∷ y ∷ l) = before (key x) (key y)

-- the last of each run
unfoldable pub lasts : (ℕ → Str) → List ℕ → List ℕ
lasts key [] = []
lasts key (x ∷ l) = cond (ends_run key (x ∷ l)) (x ∷ lasts key l) (lasts key l)

-- each goes before the next
unfoldable pub ascends : (ℕ → Str) → List ℕ → Bool
ascends key [] = true
ascends key (x ∷ l) = ends_run key (x ∷ l) && ascends key l
