-- Bytes put, in the form in which the code has them. Assumes nothing.
use Rattle.std.specs.Prelude.{Option, Some, None}
use mathlib.Core.Path.{◌≡◌, refl}
use mathlib.Core.List.{[], ◌∷◌, ◌++◌}
use Prim.Native.Nat.{ℕ, ◌/◌, ◌%◌}
use Rattle.record.specs.declared.text.Text.{Text}
use Rattle.record.specs.Base.{Str}
use Rattle.record.specs.Write.{Puts}
use Rattle.record.proofs.WriterLaws.{puts_then, puts-as}
use Rattle.load.specs.Commands.{struct_bytes, struct_command, operand_bytes, num_bytes, texts_bytes, nums_bytes, field_bytes}
use Rattle.load.specs.declared.commands.FieldCommand.{FieldCommand}

module _ (n s v : Text) (a b c d e f : ℕ) (p : a ≡ n.start % 256) (q : b ≡ n.start / 256) (r : c ≡ s.start % 256) (x : d ≡ s.start / 256) (y : e ≡ v.start % 256) (z : f ≡ v.start / 256) where
  pub struct-put : (8 ∷ a ∷ b ∷ n.len ∷ c ∷ d ∷ s.len ∷ e ∷ f ∷ v.len ∷ []) ≡ struct_bytes (struct_command n s v)
  unfolding struct_bytes
  struct-put = λ i. 8 ∷ p i ∷ q i ∷ n.len ∷ r i ∷ x i ∷ s.len ∷ y i ∷ z i ∷ v.len ∷ []

module _ (n : Text) (a b : ℕ) (p : a ≡ n.start % 256) (q : b ≡ n.start / 256) where
  pub operand-put : (a ∷ b ∷ n.len ∷ []) ≡ operand_bytes n
  unfolding operand_bytes
  operand-put = λ i. p i ∷ q i ∷ n.len ∷ []

module _ (n : Option ℕ) where
  pub num-none : n ≡ None → (0 ∷ 0 ∷ 0 ∷ 0 ∷ 0 ∷ []) ≡ num_bytes n
  unfolding num_bytes
  num-none e = rw e

  pub num-put : (v a b c d : ℕ) → n ≡ Some v → a ≡ v % 256 → b ≡ v / 256 % 256 → c ≡ v / 65536 % 256 → d ≡ v / 16777216 → (1 ∷ a ∷ b ∷ c ∷ d ∷ []) ≡ num_bytes n
  unfolding num_bytes
  num-put v a b c d e p q r x = rw (e, p, q, r, x)

pub field_put : (f : FieldCommand) → (11 ∷ []) ++ texts_bytes f ++ nums_bytes f ≡ field_bytes f
unfolding texts_bytes nums_bytes operand_bytes num_bytes field_bytes
field_put f = refl

puts-four : {out a b c d m n k after : Str} {at q r s t : ℕ} → Puts out at a m q → Puts m q b n r → Puts n r c k s → Puts k s d after t → Puts out at (a ++ b ++ c ++ d) after t
puts-four w x y z = puts_then (puts_then (puts_then w x) y) z

pub puts-texts : (f : FieldCommand) {out m n k after : Str} {at q r s t : ℕ} → Puts out at (operand_bytes f.name) m q
    → Puts m q (operand_bytes f.kind) n r → Puts n r (operand_bytes f.typ) k s → Puts k s (operand_bytes f.element) after t
    → Puts out at (texts_bytes f) after t
unfolding texts_bytes
puts-texts f w x y z = puts-four w x y z

pub puts-nums : (f : FieldCommand) {out m n k after : Str} {at q r s t : ℕ} → Puts out at (num_bytes f.count) m q
    → Puts m q (num_bytes f.rows) n r → Puts n r (num_bytes f.cols) k s → Puts k s (num_bytes f.size) after t
    → Puts out at (nums_bytes f) after t
unfolding nums_bytes
puts-nums f w x y z = puts-four w x y z

pub puts-field : (f : FieldCommand) {out x mid then after : Str} {at p q r : ℕ} → Puts out at x mid p → x ≡ 11 ∷ []
    → Puts mid p (texts_bytes f) then q → Puts then q (nums_bytes f) after r → Puts out at (field_bytes f) after r
puts-field f a e b c = puts-as (puts_then (puts_then (puts-as a e) b) c) (field_put f)
