-- The code's table of the first four bytes of names, which sorts by numbers where these differ. Assumes nothing.
use Rattle.std.specs.Prelude.{◌≡◌, List, ℕ, ◌+◌, ◌/◌, ◌%◌, get_or, Option, IfSome}
use Rattle.record.specs.Base.{Str}
use Rattle.record.specs.Words.{Fronted}
use Rattle.layout.specs.Handles.{name_at}

-- an entry that says a place has the front of the name there; 0 says none
pub record Fronts (s p : Str) (t : List ℕ) : Type 0 where
  pub right : (i at : ℕ) → get_or t i 0 % 131072 ≡ at + 1 → Fronted (name_at s p at) (get_or t i 0 / 131072)

-- a table is still right where a right front was put
pub record FrontPut (t : List ℕ) (at front : ℕ) (u : List ℕ) : Type 0 where
  pub kept : (s p : Str) → Fronts s p t → Fronted (name_at s p at) front → Fronts s p u

-- a front that is found is the front of an entry that says the place
abbrev pub FrontRead : List ℕ → ℕ → Option ℕ → Type 0
FrontRead t at r = IfSome r (λ x. (get_or t (at / 4) 0 % 131072 ≡ at + 1) × (x ≡ get_or t (at / 4) 0 / 131072))
