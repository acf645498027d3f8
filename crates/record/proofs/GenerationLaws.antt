-- The ways out of the look-up of a generation. Assumes nothing.
use Rattle.std.specs.Prelude.{Option, Some, None}
use mathlib.Core.Path.{◌≡◌, refl, ap, ◌∙◌}
use mathlib.Core.List.{List}
use mathlib.Core.Bool.{true, false}
use Prim.Native.Nat.{ℕ, ◌^◌, ◌<◌}
use lib.ListN.{drop}
use borrow.Author.Tests.{lt-ltb, le-ltb}
use native.Mathlib.Omega.{arith}
use Rattle.record.specs.Base.{Str}
use Rattle.record.specs.Stretch.{text_of}
use Rattle.record.specs.Operands.{opt_text_at}
use Rattle.record.specs.Lists.{opt_of}
use Rattle.record.specs.Steps.{structs_at, constants_at, constant_found}
use Rattle.record.specs.Index.{Indexed, Declared, struct_placed}
use Rattle.record.specs.Named.{FirstConstant}
use Rattle.record.specs.declared.text.Text.{Text}
use Rattle.record.specs.declared.command as D
use Rattle.record.specs.declared.command.Cursor.{Cursor}
use Rattle.record.specs.Generation.{as_generation, of_constant, of_version, of_struct, generation_of, HeldBy, HoldsGeneration}
use Rattle.record.specs.Commands.{Step}

module _ (s p : Str) (x : List ℕ) (v : Option Text) where
  pub no-version : v ≡ None → HeldBy s p x v None
  unfolding of_version
  no-version e = record { this = λ i. rw e }

  module _ (t : Text) (e : v ≡ Some t) (y : Str) (j : y ≡ text_of p t) (r : Step D.Constant.Constant) (h : FirstConstant s p x y r) where
    version-gives : Indexed s p x → of_version (constants_at s p 0) (opt_of p v) ≡ of_constant (text_of p t) (constant_found s p r)
    unfolding of_version
    version-gives i = rw e (ap (of_constant (text_of p t)) (rw j at (h.this i)))

    pub no-constant : r ≡ None → HeldBy s p x v None
    unfolding of_constant
    no-constant m = record { this = λ i. rw (version-gives i, m) }

    module _ (c : D.Constant.Constant) (k : Cursor) (m : r ≡ Some (c, k)) where
      pub a-text : c.is_text ≡ true → HeldBy s p x v None
      unfolding of_constant as_generation
      a-text b = record { this = λ i. rw (version-gives i, m, b) }

      pub above : c.is_text ≡ false → (c.integer < 4294967296 → ⊥) → HeldBy s p x v None
      unfolding of_constant as_generation
      above b u = record { this = λ i. rw (version-gives i, m, b, le-ltb c.integer (2 ^ 32) (omega arith)) }

      pub held : c.is_text ≡ false → c.integer < 4294967296 → HeldBy s p x v (Some (t, c.integer))
      unfolding of_constant as_generation
      held b u = record { this = λ i. rw (version-gives i, m, b, lt-ltb c.integer (2 ^ 32) u) }

pub ruleset version-laws = (no-version, no-constant, a-text, above, held)

module _ (s p : Str) (x : List ℕ) (n : Str) (r : Option (ℕ × ℕ)) (h : Declared s p x 8 n r) where
  struct-gives : Indexed s p x → generation_of (structs_at s p 0) (constants_at s p 0) n ≡ of_struct (constants_at s p 0) (struct_placed s p r)
  unfolding generation_of
  struct-gives i = ap (of_struct (constants_at s p 0)) ((h.named i).struct refl)

  pub no-struct : r ≡ None → HoldsGeneration s p x n None
  unfolding of_struct
  no-struct m = record { this = λ i. rw (struct-gives i, m) }

  pub struct-held : (a k : ℕ) → r ≡ Some (a, k) → (y : Str) (v : Option Text) (g : Option (Text × ℕ)) → y ≡ drop a s → v ≡ opt_text_at y 7 → HeldBy s p x v g → HoldsGeneration s p x n g
  unfolding of_struct
  struct-held a k m y v g d e q = record { this = λ i. rw (struct-gives i, m) (q.this i ∙ ap (λ (o : Option Text). of_version (constants_at s p 0) (opt_of p o)) (e ∙ ap (λ (z : Str). opt_text_at z 7) d)) }

pub ruleset generation-laws = (no-struct, struct-held)
