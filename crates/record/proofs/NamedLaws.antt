-- The constants, enums and unstored keys that are found by the index, as their look-ups need them. Assumes nothing.
use Rattle.std.specs.Prelude.{Option, Some, None}
use Prim.Native.Nat.{ℕ}
use mathlib.Core.Path.{◌≡◌, refl, ap, ◌∙◌}
use mathlib.Core.List.{List}
use lib.ListN.{drop}
use Rattle.record.specs.Base.{Str}
use Rattle.record.specs.Commands.{constant_at, enum_at, key_at, place}
use Rattle.record.specs.Index.{Declared, LastDeclared, unstored_placed}
use Rattle.record.specs.Named.{ConstantThere, EnumThere, FirstConstant, LastConstant, ApiConstant, FirstEnum, ApiEnum, LastUnstored}
use Rattle.record.specs.declared.command as D
use Rattle.record.specs.declared.command.Cursor.{Cursor}
use Rattle.record.specs.Commands.{Step}

-- what stands at a place
module _ (s : Str) (t : Option (ℕ × ℕ)) where
  pub constant-nowhere : t ≡ None → ConstantThere s t None
  constant-nowhere m = record { this = λ p. rw m }

  pub enum-nowhere : t ≡ None → EnumThere s t None
  enum-nowhere m = record { this = λ p. rw m }

  module _ (a j : ℕ) (m : t ≡ Some (a, j)) (y : Str) (d : y ≡ drop a s) (k : Cursor) (g : k ≡ place j) where
    pub constant-placed : (c : D.Constant.Constant) → c ≡ constant_at y → ConstantThere s t (Some (c, k))
    constant-placed c e = record { this = λ p. rw (m, e, d) }

    pub enum_placed : (c : D.Enum.Enum) → c ≡ enum_at y → EnumThere s t (Some (c, k))
    enum_placed c e = record { this = λ p. rw (m, e, d, g) }

pub ruleset there-laws = (constant-nowhere, enum-nowhere, constant-placed, enum_placed)

-- the look-ups
module _ (s p : Str) (x : List ℕ) (n : Str) (t : Option (ℕ × ℕ)) where
  module _ (r : Step D.Constant.Constant) (h : ConstantThere s t r) where
    pub first-constant : Declared s p x 2 n t → FirstConstant s p x n r
    first-constant g = record { this = λ i. (g.named i).constant refl ∙ h.this p }

    pub last-constant : LastDeclared s p x 2 0 n t → LastConstant s p x n r
    last-constant g = record { this = λ i. (g.named i).constant refl refl ∙ h.this p }

    pub api-constant : LastDeclared s p x 2 16 n t → ApiConstant s p x n r
    api-constant g = record { this = λ i. (g.named i).api-constant refl refl ∙ h.this p }

  module _ (r : Step D.Enum.Enum) (h : EnumThere s t r) where
    pub first-enum : Declared s p x 4 n t → FirstEnum s p x n r
    first-enum g = record { this = λ i. (g.named i).enum refl ∙ h.this p }

    pub api-enum : LastDeclared s p x 4 8 n t → ApiEnum s p x n r
    api-enum g = record { this = λ i. (g.named i).api-enum refl refl ∙ h.this p }

pub ruleset named-laws = (first-constant, last-constant, api-constant, first-enum, api-enum)

module _ (s p : Str) (x : List ℕ) (n : Str) (t : Option (ℕ × ℕ)) (g : LastDeclared s p x 13 0 n t) where
  pub unstored-none : t ≡ None → LastUnstored s p x n None
  unstored-none m = record { this = λ i. (g.named i).unstored refl refl ∙ ap (unstored_placed s p) m }

  pub unstored-last : (a j : ℕ) → t ≡ Some (a, j) → (y : Str) → y ≡ drop a s → (c : D.PluginKey.PluginKey) (k : Cursor) → c ≡ key_at y → LastUnstored s p x n (Some (c, k))
  unstored-last a j m y d c k e = record { this = λ i. (g.named i).unstored refl refl ∙ rw (m, e, d) }

pub ruleset last-unstored-laws = (unstored-none, unstored-last)
