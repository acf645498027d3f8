-- The names of a pair: no two of a list are the same, and no structure's is a family's. Each is one computed test over all indices and lengths. Assumes nothing.
use mathlib.Core.Path.{◌≡◌, refl, sym, ◌∙◌, ap}
use mathlib.Core.List.Memᴰ
use mathlib.Core.List.{[], ◌∷◌, Memᴰ}
use mathlib.Core.Bool.{Bool, true, false, ◌&&◌, not, beq}
use Prim.Native.Nat.{ℕ, zero, suc, ◌<◌}
use native.Mathlib.Omega.{arith}
use lib.Dec.{eqb}
use lib.ListN.{drop}
use borrow.Author.Tests.{eqb-true, eqb-false, ne_eqb, not-true}
use Rattle.record.specs.Base.{Str, bytes, eqs}
use Rattle.record.specs.Stretch.{text_of}
use Rattle.record.proofs.Basics.{both, eqs→eq}
use Rattle.definition.specs.Chain.{NoColon}
use Rattle.definition.proofs.Same.{beq→eq}
use Rattle.load.specs.Pool.{pool, struct_names, field_names, kind_texts, word_texts, struct_text, field_text}

-- a test of every number below n
unfoldable pub below : ℕ → (ℕ → Bool) → Bool
below zero q = true
below (suc n) q = q n && below n q

pub below_at : (n : ℕ) (q : ℕ → Bool) → below n q ≡ true → (i : ℕ) → i < n → q i ≡ true
unfolding below
below_at zero q h i l = absurd (omega arith)
below_at (suc n) q h i l = go (both (q n) (below n q) h) (eqb i n) refl (λ k m. below_at n q k i m)
  where
    less : (i ≡ n → ⊥) → i < n
    less z = omega arith

    go : (q n ≡ true) × (below n q ≡ true) → (b : Bool) → eqb i n ≡ b → (below n q ≡ true → i < n → q i ≡ true) → q i ≡ true
    go k true e r = ap q (eqb-true i n e) ∙ k.0
    go k false e r = r k.1 (less (eqb-false i n e))

unfoldable pub field_spelt : ℕ → ℕ → Str
field_spelt l i = text_of pool (field_text l i)

unfoldable pub struct_spelt : ℕ → ℕ → Str
struct_spelt l i = text_of pool (struct_text l i)

-- all pairs of names
fields-test : below 14 (λ l. below 19 (λ i. below 19 (λ k. beq (eqs (field_spelt l i) (field_spelt l k)) (eqb i k)))) ≡ true
unfolding below field_spelt pool struct_names field_names kind_texts word_texts bytes field_text text_of eqs
fields-test = refl

structs-test : below 14 (λ l. below 8 (λ i. below 8 (λ k. beq (eqs (struct_spelt l i) (struct_spelt l k)) (eqb i k)))) ≡ true
unfolding below struct_spelt pool struct_names field_names kind_texts word_texts bytes struct_text text_of eqs
structs-test = refl

-- the letter s, and what follows it
pub struct_rest : ℕ → ℕ → Str
struct_rest l i = drop 1 (struct_spelt l i)

starts_test : below 14 (λ l. below 8 (λ i. eqs (struct_spelt l i) (115 ∷ struct_rest l i))) ≡ true
unfolding below struct_spelt struct_rest pool struct_names field_names kind_texts word_texts bytes struct_text text_of eqs
starts_test = refl

unfoldable pub without : ℕ → Str → Bool
without b [] = true
without b (a ∷ s) = not (eqb a b) && without b s

pub without-mem : (b : ℕ) (s : Str) → without b s ≡ true → Memᴰ b s → ⊥
unfolding without
without-mem b [] h m = Memᴰ.not-nil m
without-mem b (a ∷ s) h (Memᴰ.head e) =
    let k = both (not (eqb a b)) (without b s) h in
    eqb-false a b (not-true (eqb a b) k.0) (sym e)
without-mem b (a ∷ s) h (Memᴰ.tail m) = let k = both (not (eqb a b)) (without b s) h in without-mem b s k.1 m

colons-test : below 14 (λ l. below 8 (λ i. without 58 (struct_spelt l i))) ≡ true
unfolding below struct_spelt pool struct_names field_names kind_texts word_texts bytes struct_text text_of without
colons-test = refl

module _ (l : ℕ) (h : l < 14) where
  pub fields-apart : (i k : ℕ) → i < 19 → k < 19 → (i ≡ k → ⊥) → eqs (field_spelt l i) (field_spelt l k) ≡ false
  fields-apart i k a b n =
      beq→eq _ _ (below_at 19 (λ k. beq (eqs (field_spelt l i) (field_spelt l k)) (eqb i k))
      (below_at 19 (λ i. below 19 (λ k. beq (eqs (field_spelt l i) (field_spelt l k)) (eqb i k)))
      (below_at 14 (λ l. below 19 (λ i. below 19 (λ k. beq (eqs (field_spelt l i) (field_spelt l k)) (eqb i k)))) fields-test l h) i a) k b)
      ∙ ne_eqb i k n

  pub structs-apart : (i k : ℕ) → i < 8 → k < 8 → (i ≡ k → ⊥) → eqs (struct_spelt l i) (struct_spelt l k) ≡ false
  structs-apart i k a b n =
      beq→eq _ _ (below_at 8 (λ k. beq (eqs (struct_spelt l i) (struct_spelt l k)) (eqb i k))
      (below_at 8 (λ i. below 8 (λ k. beq (eqs (struct_spelt l i) (struct_spelt l k)) (eqb i k)))
      (below_at 14 (λ l. below 8 (λ i. below 8 (λ k. beq (eqs (struct_spelt l i) (struct_spelt l k)) (eqb i k)))) structs-test l h) i a) k b)
      ∙ ne_eqb i k n

  pub struct-starts : (i : ℕ) → i < 8 → struct_spelt l i ≡ 115 ∷ struct_rest l i
  struct-starts i a =
      eqs→eq _ _ (below_at 8 (λ i. eqs (struct_spelt l i) (115 ∷ struct_rest l i))
      (below_at 14 (λ l. below 8 (λ i. eqs (struct_spelt l i) (115 ∷ struct_rest l i))) starts_test l h) i a)

  pub struct-colons : (i : ℕ) → i < 8 → NoColon (struct_spelt l i)
  struct-colons i a =
      without-mem 58 (struct_spelt l i) (below_at 8 (λ i. without 58 (struct_spelt l i)) (below_at 14 (λ l. below 8 (λ i. without 58 (struct_spelt l i))) colons-test l h) i a)
