-- The code's table of where to look for the fields of a type by their names. Assumes nothing.
use Rattle.std.specs.Prelude.{◌≡◌, List, Bool, true, ℕ, ◌+◌, ◌-◌, ◌*◌, ◌/◌, ◌%◌, length, get_or}
use Rattle.record.specs.Base.{Str}
use Rattle.record.specs.Commands.{place}
use Rattle.layout.specs.Spots.{cursor_at, OthersPassed}
use Rattle.layout.specs.declared.spots.Ahead.TheVariants.{Body}
use Rattle.layout.specs.declared.spots.SpotCursor.{SpotCursor}

-- the number of a name
unfoldable pub key_of : Str → ℕ
key_of n = (get_or n (length n - 1) 0 + 10 * get_or n (length n - 2) 0 + 100 * get_or n (length n - 3) 0 + 331 * get_or n 0 0) % 1024

-- an entry is one more than a place and 65,536 times an offset
unfoldable pub cursor_in : ℕ → SpotCursor
cursor_in e = cursor_at (Body (place ((e - 1) % 65536))) ((e - 1) / 65536)

-- before an entry there is no field whose name has its number; 0 says nothing
pub record Near (s p : Str) (z : List ℕ) (c : SpotCursor) (t : List ℕ) : Type 0 where
  pub right : (n : Str) → (get_or t (key_of n) 0 ≡ 0 → ⊥) → OthersPassed s p z n c (cursor_in (get_or t (key_of n) 0))

-- an entry is put where there is none, and no other is touched
pub record NearPut (t : List ℕ) (k at offset : ℕ) (u : List ℕ) (r : Bool) : Type 0 where
  pub others : (i : ℕ) → (i ≡ k → ⊥) → get_or u i 0 ≡ get_or t i 0
  pub kept : (get_or t k 0 ≡ 0 → ⊥) → get_or u k 0 ≡ get_or t k 0
  pub put : get_or t k 0 ≡ 0 → (get_or u k 0 ≡ 0 → ⊥) → cursor_in (get_or u k 0) ≡ cursor_at (Body (place at)) offset
  pub done : r ≡ true → get_or u k 0 ≡ 0 → ⊥

-- where a name is looked for
pub record NearSpot (t : List ℕ) (c : SpotCursor) (n : Str) (r : SpotCursor) : Type 0 where
  pub passed : (s p : Str) (z : List ℕ) → Near s p z c t → OthersPassed s p z n c r
