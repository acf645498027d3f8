-- The elements of a list by the places of their commands, and what a step along them answers. Assumes nothing.
use Rattle.std.specs.Prelude.{◌≡◌, Bool, ℕ, ◌+◌, ◌≤◌, ◌<◌, length, get_or, Option, Some, None}
use mathlib.Core.List.{List, [], ◌∷◌, Memᴰ}
use Rattle.record.specs.Base.{Str}
use Rattle.record.specs.Commands.{width_of, step_at, commands_at}
use Rattle.record.specs.Lists.{listed, anything, nothing, a_key, a_field, a_variant}
use Rattle.record.specs.declared.seek.Between.{Between}
use Rattle.record.specs.declared.seek.Between.TheVariants.{Anything, Nothing, Keys, Fields, Variants}

-- the place after the command at a place; 0 where there is none
unfoldable pub after_at : Str → ℕ → ℕ
after_at s at = elim (step_at s at) [ Some (c, k) ↦ k.at | None ↦ 0 ]

-- what may stand between, as the definition of the lists has it
abbrev pub over_of : Between → ℕ → Bool
over_of Anything = anything
over_of Nothing = nothing
over_of Keys = a_key
over_of Fields = a_field
over_of Variants = a_variant

-- the places of a list's elements, from a place on
unfoldable pub places_of : Str → Between → ℕ → ℕ → List ℕ
places_of s o b at = listed s (over_of o) b (λ at rest. at) (commands_at s at)

-- the places at a step
abbrev pub places_left : Str → Between → ℕ → Option (ℕ × ℕ) → List ℕ
places_left s o b None = []
places_left s o b (Some (a, k)) = a ∷ places_of s o b k

-- an element's command is among those from a place on and has its number, and the place after it is within the stream
pub record Standing (s : Str) (b at a k : ℕ) : Type 0 where
  pub in-stream : Memᴰ a (commands_at s at)
  pub number : get_or s a 0 ≡ b
  pub after : k ≡ a + width_of b
  pub ahead : at ≤ a
  pub on : a < k
  pub within : k ≤ length s

abbrev pub Stands : Str → ℕ → ℕ → Option (ℕ × ℕ) → Type 0
Stands s b at None = Unit
Stands s b at (Some (a, k)) = Standing s b at a k

pub record SoughtFrom (s : Str) (o : Between) (b at : ℕ) (r : Option (ℕ × ℕ)) : Type 0 where
  pub list : places_of s o b at ≡ places_left s o b r
  pub standing : Stands s b at r
