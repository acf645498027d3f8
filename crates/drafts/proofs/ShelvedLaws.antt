-- A row of a shelf set. Assumes nothing.
use mathlib.Core.Path.{◌≡◌, refl, sym, ap, ◌∙◌}
use mathlib.Core.List.{List, [], ◌∷◌, ◌++◌, append_assoc}
use mathlib.Core.Bool.{Bool, true, false}
use Prim.Native.Nat.{ℕ, zero, suc, ◌+◌, ◌-◌, ◌*◌, ◌≤◌, ◌<◌}
use native.Mathlib.Omega.{arith}
use lib.ListN.{length, get_or, take, drop, set, length-append, length-drop, length-set, take-append-drop}
use lib.Seq.{length-take-le, take-append-le, drop-append-le, drop-append-add, drop-drop, take_at, drop_at, get_or-set_same, get_or-set_other, ext_get_or}
use lib.Dec.{eqb, ltb}
use borrow.Author.Tests.{ltb-true, ltb-false, eqb-true, eqb-false}
use Rattle.record.specs.Base.{Str}
use Rattle.record.specs.Fill.{placed}
use Rattle.record.specs.Write.{Puts}
use Rattle.drafts.specs.Shelf.{Row, filled, new_row}
use Rattle.drafts.specs.Shelving.{row_at, rows_of, with_starts}
use Rattle.drafts.specs.declared.shelved.Shelf.{Shelf}
use Rattle.drafts.proofs.Arrays.{zeros}
use Rattle.drafts.proofs.RowLaws.{rows_long, rows_at}

filled-zeros : (k : ℕ) (n : Str) → length n ≤ k → n ++ drop (length n) (zeros k) ≡ filled k n
unfolding filled
filled-zeros zero [] h = refl
filled-zeros zero (b ∷ n) h = absurd (omega arith)
filled-zeros (suc k) [] h = ap (λ (l : Str). 0 ∷ l) (filled-zeros k [] (omega arith))
filled-zeros (suc k) (b ∷ n) h = ap (λ (l : Str). b ∷ l) (filled-zeros k n (omega arith))

pub name-put : (names n word out : Str) (row a b : ℕ) → length names ≡ 128 → row < 8 → length n ≤ 16 → Puts (zeros 16) 0 n word a → Puts names (16 * row) word out b
    → out ≡ placed names (16 * row) (filled 16 n)
unfolding placed
name-put names n word out row a b l h k p q =
    let z : 0 + length n ≡ length n = omega arith in
    let w : word ≡ filled 16 n = p.bytes (omega arith) ∙ ap (λ (i : ℕ). n ++ drop i (zeros 16)) z ∙ filled-zeros 16 n k in
    let m = p.long in
    q.bytes (omega arith) ∙ ap (placed names (16 * row)) w

-- sixteen bytes of a list in which others were placed ------------------------------------------------------------------------

front-chunk : (x r : Str) (a k : ℕ) → a + k ≤ length x → take k (drop a (x ++ r)) ≡ take k (drop a x)
front-chunk x r a k h = let d = length-drop a x in ap (take k) (drop-append-le a x r (omega arith)) ∙ take-append-le k (drop a x) r (omega arith)

module _ (l w : Str) (b : ℕ) (h : b + length w ≤ length l) where
  long : length (take b l) ≡ b
  long = length-take-le b l (omega arith)

  split : placed l b w ≡ take b l ++ (w ++ drop (b + length w) l)
  unfolding placed
  split = append_assoc (take b l) w (drop (b + length w) l)

  chunk-own : take (length w) (drop b (placed l b w)) ≡ w
  chunk-own =
      ap (λ (x : Str). take (length w) (drop b x)) split ∙ ap (take (length w)) (drop_at (take b l) (w ++ drop (b + length w) l) b long) ∙ take_at w (drop (b + length w) l) (length w) refl

  chunk-before : (a k : ℕ) → a + k ≤ b → take k (drop a (placed l b w)) ≡ take k (drop a l)
  chunk-before a k g =
      let n = long in
      ap (λ (x : Str). take k (drop a x)) split ∙ front-chunk (take b l) (w ++ drop (b + length w) l) a k (omega arith) ∙ sym (front-chunk (take b l) (drop b l) a k (omega arith)) ∙ ap (λ (x : Str). take k (drop a x)) (take-append-drop b l)

  chunk-after : (a : ℕ) → b + length w ≤ a → drop a (placed l b w) ≡ drop a l
  unfolding placed
  chunk-after a g =
      let n = long in
      let m : length (take b l ++ w) ≡ b + length w = length-append (take b l) w ∙ (omega arith) in
      let d : ℕ = a - (b + length w) in
      let z : a ≡ length (take b l ++ w) + d = omega arith in
      let y : b + length w + d ≡ a = omega arith in
      ap (λ (i : ℕ). drop i (take b l ++ w ++ drop (b + length w) l)) z ∙ drop-append-add (take b l ++ w) (drop (b + length w) l) d
      ∙ drop-drop d (b + length w) l ∙ ap (λ (i : ℕ). drop i l) y

filled-long : (k : ℕ) (n : Str) → length (filled k n) ≡ k
unfolding filled
filled-long zero n = refl
filled-long (suc k) [] = ap suc (filled-long k [])
filled-long (suc k) (b ∷ n) = ap suc (filled-long k n)

-- a row set -----------------------------------------------------------------------------------------------------------------

module _ (s : Shelf) (moved : List ℕ) (row : ℕ) (n : Str) (start len : ℕ) (h : row < 8)
    (a : length s.names ≡ 128) (b : length s.name_lens ≡ 8) (c : length moved ≡ 8) (d : length s.lens ≡ 8) where
  abbrev set-shelf : List ℕ → Shelf
  set-shelf names = record { names = names; name_lens = set s.name_lens row (length n); starts = set moved row start; lens = set s.lens row len }

  abbrev after : Shelf
  after = set-shelf (placed s.names (16 * row) (filled 16 n))

  abbrev before : Shelf
  before = with_starts s moved

  abbrev own : Row
  own = new_row n start len

  fits : 16 * row + length (filled 16 n) ≤ length s.names
  fits = let l = filled-long 16 n in omega arith

  own_at : row_at after row ≡ own
  own_at =
      let l = filled-long 16 n in
      let x : take 16 (drop (16 * row) (placed s.names (16 * row) (filled 16 n))) ≡ filled 16 n = ap (λ (k : ℕ). take k (drop (16 * row) (placed s.names (16 * row) (filled 16 n)))) (sym l) ∙ chunk-own s.names (filled 16 n) (16 * row) fits in
      let y : get_or (set s.name_lens row (length n)) row 0 ≡ length n = get_or-set_same s.name_lens row (length n) 0 (omega arith) in
      let z : get_or (set moved row start) row 0 ≡ start = get_or-set_same moved row start 0 (omega arith) in
      let w : get_or (set s.lens row len) row 0 ≡ len = get_or-set_same s.lens row len 0 (omega arith) in
      λ k. record { word = x k; letters = y k; start = z k; size = w k }

  other_at : (j : ℕ) → j < 8 → (j ≡ row → ⊥) → row_at after j ≡ row_at before j
  other_at j g e =
      let l = filled-long 16 n in
      let x : take 16 (drop (16 * j) (placed s.names (16 * row) (filled 16 n))) ≡ take 16 (drop (16 * j) s.names) = word_at (ltb j row) refl in
      let y : get_or (set s.name_lens row (length n)) j 0 ≡ get_or s.name_lens j 0 = get_or-set_other s.name_lens row j (length n) 0 e in
      let z : get_or (set moved row start) j 0 ≡ get_or moved j 0 = get_or-set_other moved row j start 0 e in
      let w : get_or (set s.lens row len) j 0 ≡ get_or s.lens j 0 = get_or-set_other s.lens row j len 0 e in
      λ k. record { word = x k; letters = y k; start = z k; size = w k }
    where
      word_at : (t : Bool) → ltb j row ≡ t → take 16 (drop (16 * j) (placed s.names (16 * row) (filled 16 n))) ≡ take 16 (drop (16 * j) s.names)
      word_at true q = let i = ltb-true j row q in chunk-before s.names (filled 16 n) (16 * row) fits (16 * j) 16 (omega arith)
      word_at false q = let i = ltb-false j row q in let l = filled-long 16 n in ap (take 16) (chunk-after s.names (filled 16 n) (16 * row) fits (16 * j) (omega arith))

  all-at : (j : ℕ) → j < 8 → (t : Bool) → eqb j row ≡ t → get_or (rows_of after) j own ≡ get_or (set (rows_of before) row own) j own
  all-at j g true q =
      let i = eqb-true j row q in
      let l = rows_long before in
      ap (λ (k : ℕ). get_or (rows_of after) k own) i ∙ rows_at after row own h ∙ own_at ∙ sym (ap (λ (k : ℕ). get_or (set (rows_of before) row own) k own) i ∙ get_or-set_same (rows_of before) row own own (omega arith))
  all-at j g false q =
      rows_at after j own g ∙ other_at j g (eqb-false j row q) ∙ sym (get_or-set_other (rows_of before) row j own own (eqb-false j row q) ∙ rows_at before j own g)

  rows-set : rows_of after ≡ set (rows_of before) row own
  rows-set =
      let l = rows_long after in
      let m = length-set (rows_of before) row own ∙ rows_long before in
      ext_get_or own (rows_of after) (set (rows_of before) row own) (l ∙ sym m) (λ j g. all-at j (omega arith) (eqb j row) refl)

  pub row-set : (names lens starts sizes : List ℕ) → names ≡ placed s.names (16 * row) (filled 16 n) → lens ≡ set s.name_lens row (length n) → starts ≡ set moved row start → sizes ≡ set s.lens row len
      → rows_of (record { names = names; name_lens = lens; starts = starts; lens = sizes }) ≡ set (rows_of before) row own
  row-set names lens starts sizes e f g i = (λ k. rows_of (record { names = e k; name_lens = f k; starts = g k; lens = i k })) ∙ rows-set
