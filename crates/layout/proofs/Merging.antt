-- The merge of two arranged lists is the arranged list of both. No fact of the lists is needed: an insertion goes through a merge. Assumes nothing.
use Prim.Native.Nat.{ℕ, suc, ◌+◌}
use mathlib.Core.List.{List, [], ◌∷◌, ◌++◌}
use mathlib.Core.Bool.{Bool, true, false, cond, false≢true}
use mathlib.Core.Path.{◌≡◌, refl, sym, ap, ◌∙◌}
use native.Mathlib.Omega.{arith}
use lib.ListN.{length}
use Rattle.record.specs.Base.{Str, before}
use Rattle.layout.specs.Sort.{put, arranged, merge_with, merge}
use Rattle.layout.proofs.Order.{before-trans, before-co}

module _ (key : ℕ → Str) where
  pub merge-nil : (xs : List ℕ) → merge key xs [] ≡ xs
  unfolding merge merge_with
  merge-nil [] = refl
  merge-nil (x ∷ xs) = ap (λ (l : List ℕ). x ∷ l) (merge-nil xs)

  alone : (x : ℕ) (ys : List ℕ) → put key x ys ≡ merge key (x ∷ []) ys
  unfolding merge merge_with put
  alone x [] = refl
  alone x (y ∷ ys) = rw (alone x ys)

  -- one step of a merge
  meet : (x y : ℕ) (xs ys : List ℕ) → merge key (x ∷ xs) (y ∷ ys) ≡ cond (before (key y) (key x)) (y ∷ merge key (x ∷ xs) ys) (x ∷ merge key xs (y ∷ ys))
  unfolding merge merge_with
  meet x y xs ys = refl

  insert-is : (x y : ℕ) (ys : List ℕ) → put key x (y ∷ ys) ≡ cond (before (key y) (key x)) (y ∷ put key x ys) (x ∷ y ∷ ys)
  unfolding put
  insert-is x y ys = refl

  module _ (x a b : ℕ) (l m : List ℕ) (ih-left : put key x (merge key l (b ∷ m)) ≡ merge key (put key x l) (b ∷ m)) (ih-right : put key x (merge key (a ∷ l) m) ≡ merge key (put key x (a ∷ l)) m) where
    cases : (p q r : Bool) → before (key b) (key a) ≡ p → before (key a) (key x) ≡ q → before (key b) (key x) ≡ r
        → put key x (merge key (a ∷ l) (b ∷ m)) ≡ merge key (put key x (a ∷ l)) (b ∷ m)
    cases true true true e f g = rw (meet a b l m, e, insert-is x b (merge key (a ∷ l) m), g, ih-right, insert-is x a l, f, meet a b (put key x l) m, e)
    cases true true false e f g = absurd (false≢true (sym g ∙ before-trans (key b) (key a) (key x) e f))
    cases true false true e f g = rw (meet a b l m, e, insert-is x b (merge key (a ∷ l) m), g, ih-right, insert-is x a l, f, meet x b (a ∷ l) m, g)
    cases true false false e f g = rw (meet a b l m, e, insert-is x b (merge key (a ∷ l) m), g, insert-is x a l, f, meet x b (a ∷ l) m, g, meet a b l m, e)
    cases false true r e f g = rw (meet a b l m, e, insert-is x a (merge key l (b ∷ m)), f, ih-left, insert-is x a l, f, meet a b (put key x l) m, e)
    cases false false true e f g = absurd (false≢true (sym e ∙ before-co (key b) (key a) (key x) g f))
    cases false false false e f g = rw (meet a b l m, e, insert-is x a (merge key l (b ∷ m)), f, insert-is x a l, f, meet x b (a ∷ l) m, g, meet a b l m, e)

  nil-left : (x : ℕ) (m : List ℕ) → put key x (merge key [] m) ≡ put key x m
  unfolding merge
  nil-left x m = refl

  nil-insert : (x : ℕ) (m : List ℕ) → merge key (x ∷ []) m ≡ merge key (put key x []) m
  unfolding put
  nil-insert x m = refl

  nil-merge : (m : List ℕ) → merge key [] m ≡ m
  unfolding merge
  nil-merge m = refl

  through : (x : ℕ) (l m : List ℕ) → put key x (merge key l m) ≡ merge key (put key x l) m
  through x [] m = nil-left x m ∙ alone x m ∙ nil-insert x m
  through x (a ∷ l) [] = ap (put key x) (merge-nil (a ∷ l)) ∙ sym (merge-nil (put key x (a ∷ l)))
  through x (a ∷ l) (b ∷ m) = cases x a b l m (through x l (b ∷ m)) (through x (a ∷ l) m) (before (key b) (key a)) (before (key a) (key x)) (before (key b) (key x)) refl refl refl

  pub merge-arranged : (xs ys : List ℕ) → merge key (arranged key xs) (arranged key ys) ≡ arranged key (xs ++ ys)
  unfolding arranged merge
  merge-arranged [] ys = refl
  merge-arranged (x ∷ xs) ys = sym (through x (arranged key xs) (arranged key ys)) ∙ ap (put key x) (merge-arranged xs ys)

  pub length-put : (x : ℕ) (l : List ℕ) → length (put key x l) ≡ suc (length l)
  unfolding put
  length-put x [] = refl
  length-put x (y ∷ ys) = go (before (key y) (key x)) (length-put x ys)
    where
      go : (b : Bool) → length (put key x ys) ≡ suc (length ys) → length (cond b (y ∷ put key x ys) (x ∷ y ∷ ys)) ≡ suc (suc (length ys))
      go true e = ap suc e
      go false e = refl

  pub length-arranged : (l : List ℕ) → length (arranged key l) ≡ length l
  unfolding arranged
  length-arranged [] = refl
  length-arranged (x ∷ xs) = length-put x (arranged key xs) ∙ ap suc (length-arranged xs)

  pub length-merge : (xs ys : List ℕ) → length (merge key xs ys) ≡ length xs + length ys
  length-merge [] ys = ap length (nil-merge ys) ∙ omega arith
  length-merge (x ∷ xs) [] = ap length (merge-nil (x ∷ xs)) ∙ omega arith
  length-merge (x ∷ xs) (y ∷ ys) = ap length (meet x y xs ys) ∙ go (before (key y) (key x)) (length-merge (x ∷ xs) ys) (length-merge xs (y ∷ ys))
    where
      go : (b : Bool) → length (merge key (x ∷ xs) ys) ≡ suc (length xs) + length ys → length (merge key xs (y ∷ ys)) ≡ length xs + suc (length ys)
          → length (cond b (y ∷ merge key (x ∷ xs) ys) (x ∷ merge key xs (y ∷ ys))) ≡ suc (length xs) + suc (length ys)
      go true p q = omega arith
      go false p q = omega arith
