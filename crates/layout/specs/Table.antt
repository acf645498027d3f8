-- The sorted table of a record's types: one handle a type, in byte order of the names. The code's way to the layouts of Layout, and 01's "walk to
-- the next name in byte order". Assumes nothing.
use Rattle.std.specs.Prelude.{◌≡◌, true, ◌⊎◌, ℕ, suc, ◌+◌, ◌<◌, ◌≤◌, length, get_or, Option, Some, None}
use mathlib.Core.List.{List, map, Memᴰ}
use Rattle.record.specs.Base.{Str, before}
use Rattle.record.specs.Scalars.{Scalar}
use Rattle.record.specs.Commands.{commands_at}
use Rattle.record.specs.Reading.{Rec, rec, schema_of}
use Rattle.layout.specs.Layout.{TypeLayout, types, type_in}
use Rattle.layout.specs.Handles.{family_part, place_part, type_name, layout_of}

-- a handle is of a structure or a family, or of a variant and its family
pub data Typed (s : Str) (h : ℕ) : Type 0 where
  plain : family_part h ≡ 0 → Memᴰ (place_part h) (commands_at s 0) → (get_or s (place_part h) 0 ≡ 8) ⊎ (get_or s (place_part h) 0 ≡ 9) → Typed s h
  variant : (f : ℕ) → family_part h ≡ f + 1 → Memᴰ f (commands_at s 0) → get_or s f 0 ≡ 9
      → Memᴰ (place_part h) (commands_at s 0) → get_or s (place_part h) 0 ≡ 10 → Typed s h

-- the table holds the record's types, whatever the scalar words: their layouts are 01's, their names go up
pub record TypesTable (s p : Str) (t : List ℕ) : Type 0 where
  pub layouts : (w : List Scalar) → map (layout_of (rec s p w)) t ≡ types (schema_of (rec s p w))
  pub upward : (i j : ℕ) → i < j → j < length t → before (type_name s p (get_or t i 0)) (type_name s p (get_or t j 0)) ≡ true
  pub typed : (i : ℕ) → i < length t → Typed s (get_or t i 0)

-- what a look-up answers: the layout at the index, and one more than the index
abbrev pub found_in : Rec → List ℕ → Option ℕ → Option TypeLayout
found_in r t None = None
found_in r t (Some i) = Some (layout_of r (get_or t i 0))

abbrev pub found_end : Option ℕ → ℕ
found_end None = 0
found_end (Some i) = suc i

-- an index of the table, or none; and where the table is the record's, the type of that name, whatever the scalar words
pub record FoundType (s p : Str) (t : List ℕ) (n : Str) (r : Option ℕ) : Type 0 where
  pub layout : TypesTable s p t → (w : List Scalar) → type_in n (types (schema_of (rec s p w))) ≡ found_in (rec s p w) t r
  pub inside : found_end r ≤ length t
