-- Released fields that stand as they were: what the code passes over where it holds the fields of a type to those that were. Assumes nothing.
use Rattle.std.specs.Prelude.{◌≡◌, List, ℕ, ◌+◌, get_or, Option, Some, None}
use Rattle.record.specs.Base.{Str}
use Rattle.record.specs.Scalars.{Scalar}
use Rattle.record.specs.Shapes.{capped}
use Rattle.record.specs.Reading.{rec}
use Rattle.layout.specs.Spots.{places_from, SoundCursor, OthersPassed}
use Rattle.layout.specs.declared.spots.SpotCursor.{SpotCursor}
use Rattle.definition.specs.Fields.{check_places}
use Rattle.compare.specs.Near.{key_of}
use Rattle.compare.specs.Alike.{body_at, AlikePassed, AlikeNext}
use Rattle.compare.specs.declared.alike.Both.{Both}

-- the released fields from one cursor on stand as they were where those from another on do; c is at the front of the current type
pub record PlacesKept (s p : Str) (z : List ℕ) (c : SpotCursor) (b q : Str) (y : List ℕ) (d e : SpotCursor) : Type 0 where
  pub same : (w : List Scalar) → SoundCursor (rec s p w) z c → SoundCursor (rec b q w) y d
      → (n : Str)
      → check_places n (places_from (rec s p w) c) (places_from (rec b q w) d) ≡ check_places n (places_from (rec s p w) c) (places_from (rec b q w) e)
  pub sound : (w : List Scalar) → SoundCursor (rec s p w) z c → SoundCursor (rec b q w) y d → SoundCursor (rec b q w) y e

-- fields at the fronts of two types were passed over: they are alike, and the released ones stand as they were
pub record KeptPassed (s p : Str) (z : List ℕ) (b q : Str) (y : List ℕ) (front is was : SpotCursor) (r : Both) : Type 0 where
  pub kept : PlacesKept s p z front b q y was r.was
  pub alike : AlikePassed s p z b q y is was r.is r.was

-- a name whose number is not noted is of no field before a place
pub record Noted (s p : Str) (z : List ℕ) (c : SpotCursor) (t : List ℕ) (at offset : ℕ) : Type 0 where
  pub others : (n : Str) → get_or t (key_of n) 0 ≡ 0 → OthersPassed s p z n c (body_at at offset)

-- the number of a name is noted, and nothing else
pub record Noting (t : List ℕ) (n : Str) (u : List ℕ) : Type 0 where
  pub noted : get_or u (key_of n) 0 ≡ 0 → ⊥
  pub others : (i : ℕ) → (i ≡ key_of n → ⊥) → get_or u i 0 ≡ get_or t i 0

-- the next fields, which are alike, the current one the first of its name
pub record KeptNext (s p : Str) (z : List ℕ) (c : SpotCursor) (u : List ℕ) (at : ℕ) (b q : Str) (y : List ℕ) (to offset a k l size : ℕ) : Type 0 where
  pub kept : (e : ℕ) → e ≡ capped (offset + size) → PlacesKept s p z c b q y (body_at to offset) (body_at l e)
  pub noted : (e : ℕ) → e ≡ capped (offset + size) → Noted s p z c u k e
  pub alike : AlikeNext s p z at b q y to a k l size

abbrev pub KeptFrom : Str → Str → List ℕ → SpotCursor → List ℕ → ℕ → Str → Str → List ℕ → ℕ → ℕ → Option (ℕ × ℕ × ℕ × ℕ) → Type 0
KeptFrom s p z c u at b q y to offset None = Unit
KeptFrom s p z c u at b q y to offset (Some (a, k, l, size)) = KeptNext s p z c u at b q y to offset a k l size
