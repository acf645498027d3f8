-- A shelf of the code as the definition's rows, and its places as two lists of numbers. Assumes nothing.
use Rattle.std.specs.Prelude.{◌≡◌, ℕ, zero, suc, ◌+◌, ◌-◌, ◌*◌, ◌<◌, ◌≤◌, Option, MatchOption, List, [], ◌∷◌, map, Bool, false, ◌&&◌, ◌||◌, cond, get_or, take, drop, replicate, ltb, leb}
use Rattle.record.specs.Base.{Str, any}
use Rattle.drafts.specs.Shelf.{Row, is_held, is_free, is_named, good_name, Shelved, shelved}
use Rattle.drafts.specs.declared.shelved.Shelf.{Shelf}
use Rattle.drafts.specs.declared.shelved.ShelfAnswer.{ShelfAnswer}

abbrev pub row_at : Shelf → ℕ → Row
row_at s i = record {
  word = take 16 (drop (16 * i) s.names);
  letters = get_or s.name_lens i 0;
  start = get_or s.starts i 0;
  size = get_or s.lens i 0;
}

-- so many values of a function, from a number on
unfoldable pub tabulate : {A : Type 0} → (ℕ → A) → ℕ → ℕ → List A
tabulate f zero i = []
tabulate f (suc k) i = f i ∷ tabulate f k (i + 1)

unfoldable pub rows_of : Shelf → List Row
rows_of s = tabulate (row_at s) 8 0

-- a shelf on which no name is held
abbrev pub new_shelf : Shelf
new_shelf = record { names = replicate 128 0; name_lens = replicate 8 0; starts = replicate 8 0; lens = replicate 8 0 }

-- an answer with the buffer that the call may change
abbrev pub shelved_as : ShelfAnswer → Str → Shelved
shelved_as r b = shelved
    (record { number = r.answer.number; side = r.answer.side; place = r.answer.place; len = r.answer.len; changed = r.changed; buffer = b })
    (rows_of r.shelf)

-- a shelf with other starts
abbrev pub with_starts : Shelf → List ℕ → Shelf
with_starts s moved = record { names = s.names; name_lens = s.name_lens; starts = moved; lens = s.lens }

-- names ---------------------------------------------------------------------------------------------------------------------

-- a row of which only the name matters
abbrev pub name_row : Str → ℕ → Row
name_row word letters = record { word = word; letters = letters; start = 0; size = 0 }

-- the index of the first that passes a test, and how many there are where none does
unfoldable pub first_of : {A : Type 0} → (A → Bool) → List A → ℕ
first_of q [] = 0
first_of q (x ∷ xs) = cond (q x) 0 (suc (first_of q xs))

-- the row that a name is set in; 8 where it has none
unfoldable pub row_for : Str → List Row → ℕ
row_for n rows = cond (good_name n) (cond (any (is_named n) rows) (first_of (is_named n) rows) (first_of is_free rows)) 8

-- a row that is found, where 8 says that none is
abbrev pub RowAt : ℕ → Option ℕ → Type 0
RowAt n r = MatchOption r (n ≡ 8) (λ i. (i < 8) × (i ≡ n))

-- places --------------------------------------------------------------------------------------------------------------------

-- a row of which only the place matters
abbrev pub place_row : ℕ → ℕ → Row
place_row start size = record { word = []; letters = 0; start = start; size = size }

-- a row of which only the size matters, and whether it is held
abbrev pub size_row : ℕ → ℕ → Row
size_row letters size = record { word = []; letters = letters; start = 0; size = size }

-- the size of a held place; a free row has none
unfoldable pub held_size : Row → ℕ
held_size r = cond (is_held r) r.size 0

-- whether a byte lies in one of the places
unfoldable pub covering : List ℕ → List ℕ → ℕ → Bool
covering [] sizes i = false
covering (a ∷ starts) [] i = false
covering (a ∷ starts) (l ∷ sizes) i = (leb a i && ltb i (a + l)) || covering starts sizes i

-- how many bytes of a place stand before an end
unfoldable pub bytes_before : ℕ → ℕ → ℕ → ℕ
bytes_before end a l = cond (ltb end a) 0 (cond (ltb (end - a) l) (end - a) l)

-- how many of all places do
unfoldable pub all_before : List ℕ → List ℕ → ℕ → ℕ
all_before [] sizes end = 0
all_before (a ∷ starts) [] end = 0
all_before (a ∷ starts) (l ∷ sizes) end = bytes_before end a l + all_before starts sizes end

-- places that have no byte in common, in numbers
pub record Spaced (starts sizes : List ℕ) : Type 0 where
  pub few : (end : ℕ) → all_before starts sizes end ≤ end

abbrev pub least : ℕ → ℕ → ℕ
least a b = cond (ltb a b) a b

-- where places begin once they are closed up in a buffer of this length
unfoldable pub starts_after : List ℕ → List ℕ → ℕ → List ℕ
starts_after starts sizes len = map (λ (a : ℕ). all_before starts sizes (least a len)) starts
