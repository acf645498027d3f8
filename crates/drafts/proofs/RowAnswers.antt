-- The letters of operands, by the command's number. Assumes nothing.
use mathlib.Core.Path.{◌≡◌}
use mathlib.Core.List.{[]}
use Prim.Native.Nat.{ℕ}
use borrow.Author.Tests.{ne_eqb}
use Rattle.record.specs.Commands.{operands, wide}
use Rattle.record.proofs.CommandLaws.{none-operands}
use Rattle.drafts.specs.Code.{or_none}

-- a number that is no command's has no operands
pub none-letters : (b : ℕ) → (b ≡ 1 → ⊥) → (b ≡ 2 → ⊥) → (b ≡ 3 → ⊥) → (b ≡ 4 → ⊥) → (b ≡ 5 → ⊥) → (b ≡ 6 → ⊥) → (b ≡ 7 → ⊥) → (b ≡ 8 → ⊥) → (b ≡ 9 → ⊥)
    → (b ≡ 10 → ⊥) → (b ≡ 11 → ⊥) → (b ≡ 12 → ⊥) → (b ≡ 13 → ⊥) → (b ≡ 14 → ⊥) → (b ≡ 15 → ⊥) → [] ≡ or_none (operands b)
unfolding or_none
none-letters b h1 h2 h3 h4 h5 h6 h7 h8 h9 h10 h11 h12 h13 h14 h15 = rw (none-operands b h1 h2 h3 h4 h5 h6 h7 h8 h9 h10 h11 h12 h13 h14 h15)

pub text-wide : (o : ℕ) → (o ≡ 70 → ⊥) → (o ≡ 87 → ⊥) → (o ≡ 86 → ⊥) → (o ≡ 78 → ⊥) → 3 ≡ wide o
unfolding wide
text-wide o h1 h2 h3 h4 = rw (ne_eqb o 70 h1, ne_eqb o 87 h2, ne_eqb o 86 h3, ne_eqb o 78 h4)
