-- One entry of the table of words: it is the word, or the rest of the table decides. Words of other lengths play no part.
use Prim.Native.Nat.{ℕ}
use mathlib.Core.List.{List, [], ◌∷◌}
use mathlib.Core.Bool.{Bool, true, false, cond}
use mathlib.Core.Path.{◌≡◌, refl, sym, ap, ◌∙◌}
use lib.ListN.{length}
use lib.Dec.{eqb}
use borrow.Author.Tests.{eqb-false}
use Rattle.record.specs.Base.{Str, bytes, eqs}
use Rattle.record.specs.declared.kind.Kind.{Kind}
use Rattle.record.specs.declared.kind.Kind.TheVariants.{Other}
use Rattle.record.specs.Kind.{Word, words, of_length, kind_among, kind_of}
use Rattle.texts.proofs.BackLaws.{same_length}

module _ (w : Str) where
  pub word-hit : (s : Str) (k : Kind) (xs : List Word) (b : Bool) → b ≡ eqs w s → b ≡ true → k ≡ kind_among (record { spelt = s; means = k } ∷ xs) w
  unfolding kind_among
  word-hit s k xs b e t = rw (← e, t)

  pub word-miss : (s : Str) (m k : Kind) (xs : List Word) (b : Bool) → b ≡ eqs w s → b ≡ false → k ≡ kind_among xs w → k ≡ kind_among (record { spelt = s; means = m } ∷ xs) w
  unfolding kind_among
  word-miss s m k xs b e t h = rw (← e, t) h

  pub word_none : Other ≡ kind_among [] w
  unfolding kind_among
  word_none = refl

pub ruleset word_laws = (word-hit, word-miss, word_none)

length-step : (w : Str) (x : Word) (xs ys : List Word) → kind_among ys w ≡ kind_among xs w → (t : Bool) → eqb (length x.spelt) (length w) ≡ t → kind_among (cond t (x ∷ ys) ys) w ≡ kind_among (x ∷ xs) w
unfolding kind_among
length-step w x xs ys h true e = rw h
length-step w x xs ys h false e = rw (← same_length w x.spelt (λ q. eqb-false (length x.spelt) (length w) e (sym q))) h

of_length-among : (w : Str) (l : List Word) → kind_among (of_length (length w) l) w ≡ kind_among l w
unfolding of_length
of_length-among w [] = refl
of_length-among w (x ∷ xs) = length-step w x xs (of_length (length w) xs) (of_length-among w xs) (eqb (length x.spelt) (length w)) refl

-- a length that no word of a table has
abbrev pub Apart : ℕ → List Word → Type 0
Apart n [] = Unit
Apart n (x ∷ xs) = (n ≡ length x.spelt → ⊥) × Apart n xs

none_apart : (w : Str) (l : List Word) → Apart (length w) l → Other ≡ kind_among l w
unfolding kind_among
none_apart w [] h = refl
none_apart w (x ∷ xs) h = rw (← same_length w x.spelt h.0) (none_apart w xs h.1)

module _ (w : Str) where
  -- the words of a word's own length decide
  pub kind-by-length : (n : ℕ) (k : Kind) → length w ≡ n → k ≡ kind_among (of_length n words) w → k ≡ kind_of w
  unfolding kind_of
  kind-by-length n k e h = h ∙ ap (λ (m : ℕ). kind_among (of_length m words) w) (sym e) ∙ of_length-among w words

  pub kind-of-none : (length w ≡ 6 → ⊥) → (length w ≡ 4 → ⊥) → (length w ≡ 8 → ⊥) → (length w ≡ 10 → ⊥) → (length w ≡ 12 → ⊥) → (length w ≡ 14 → ⊥) → (length w ≡ 7 → ⊥)
      → (length w ≡ 16 → ⊥) → (length w ≡ 20 → ⊥) → Other ≡ kind_of w
  unfolding kind_of words bytes
  kind-of-none six four eight ten twelve fourteen seven sixteen twenty =
      none_apart w words (six, (four, (ten, (eight, (twelve, (fourteen, (eight, (ten, (sixteen, (twenty, (fourteen, (fourteen, (ten, (six, (seven, (six, tt))))))))))))))))
