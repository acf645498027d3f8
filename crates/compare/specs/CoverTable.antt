-- The table of what covers each type, as the code fills it and reads it: its way to Coverage of definition, check_generations of layout.rs.
-- Assumes nothing.
use Rattle.std.specs.Prelude.{◌≡◌, Result, Ok, Err, ⊤, List, [], ◌∷◌, Bool, false, ◌&&◌, not, cond, ℕ, ◌-◌, ◌≤◌, ◌<◌, ◌/◌, ◌%◌, eqb, ltb, length, get_or, drop, Option, Some, None}
use Rattle.record.specs.Base.{Str, eqs}
use Rattle.record.specs.Stretch.{text_of}
use Rattle.record.specs.Owner.{Types, owner_of}
use Rattle.record.specs.References.{types_at}
use Rattle.record.specs.Reading.{Rec, schema_of}
use Rattle.record.specs.Leads.{LeadTable}
use Rattle.record.specs.Ownership.{Known}
use Rattle.record.specs.Versioned.{InSlots}
use Rattle.record.specs.declared.text.Text.{Text}
use Rattle.record.specs.declared.versioned.Versioned.{Versioned}
use Rattle.layout.specs.Layout.{TypeLayout, types, type_in}
use Rattle.layout.specs.Handles.{family_part, type_name, layout_of}
use Rattle.layout.specs.Names.{stretches_of}
use Rattle.definition.specs.Fields.{same_as, changed}
use Rattle.definition.specs.Coverage.{owning, stands_alone}
use Rattle.verdicts.specs.declared.verdict.Verdict.{Verdict}
use Rattle.verdicts.specs.declared.verdict.Verdict.TheVariants.{Uncovered}

-- names ------------------------------------------------------------------------------------------------------------------

-- a text begins with two colons
unfoldable pub colons_first : Str → Bool
colons_first s = eqb (get_or s 0 0) 58 && eqb (get_or s 1 0) 58

-- two types are variants of one family
unfoldable pub one_family : ℕ → ℕ → Bool
one_family g h = not (eqb (family_part g) 0) && eqb (family_part g) (family_part h)

-- what covers a type ------------------------------------------------------------------------------------------------------

-- nothing has to cover what stands alone; else the owner does, if there is one
unfoldable pub cover_in : Types → Str → Option (Option Str)
cover_in ts n = cond (stands_alone ts.families n) None (Some (owner_of ts n))

-- nothing has to cover a type that is as it was
unfoldable pub cover_for : Types → List TypeLayout → TypeLayout → Option (Option Str)
cover_for ts was t = cond (same_as (type_in t.name was) t) None (cover_in ts (owning t.name))

-- entries -----------------------------------------------------------------------------------------------------------------

-- the stretch of a root's name in an entry
unfoldable pub stretch_in : ℕ → Text
stretch_in n = record { start = (n - 2) / 256 % 65536; len = (n - 2) % 256 }

-- an entry is 0 where nothing has to cover the type, 1 where nothing covers it, else two more than a stretch as a number
unfoldable pub cover_meant : Str → ℕ → Option (Option Str)
cover_meant p n = cond (ltb n 2) (cond (eqb n 0) None (Some None)) (Some (Some (text_of p (stretch_in n))))

-- the entry of an owner
pub record Packed (t : Text) (n : ℕ) : Type 0 where
  pub owned : 2 ≤ n
  pub stretch : stretch_in n ≡ t

-- what an owner is asked by: the record's roots, marks, index and leads
pub record Owners (s p : Str) (roots : Versioned) (m x t : List ℕ) : Type 0 where
  pub known : Known s p m x
  pub slots : InSlots s p roots
  pub leads : LeadTable s p m t

-- an entry that was found is that of its type's name
abbrev pub Knows : Str → Str → Option (ℕ × ℕ) → Type 0
Knows s p None = Unit
Knows s p (Some (h, n)) = cover_meant p n ≡ cover_in (types_at s p) (owning (type_name s p h))

-- the table ---------------------------------------------------------------------------------------------------------------

-- the types of a record whose layout is not the released one
abbrev pub changed_types : Rec → Rec → List TypeLayout
changed_types r r₀ = changed (types (schema_of r)) (types (schema_of r₀))

-- a number for each type of a record, against a released one: 0 just where the type is as it was
pub record Changes (r r₀ : Rec) (t m : List ℕ) : Type 0 where
  pub same : (i : ℕ) → i < length t
      → eqb (get_or m i 0) 0 ≡ same_as (type_in (type_name r.stream r.pool (get_or t i 0)) (types (schema_of r₀))) (layout_of r (get_or t i 0))

-- each number but 0 has become the entry of its type's name
pub record Entered (s p : Str) (t before m : List ℕ) : Type 0 where
  pub none : (i : ℕ) → i < length t → get_or before i 0 ≡ 0 → get_or m i 0 ≡ 0
  pub found : (i : ℕ) → i < length t → (get_or before i 0 ≡ 0 → ⊥)
      → cover_meant p (get_or m i 0) ≡ cover_in (types_at s p) (owning (type_name s p (get_or t i 0)))

-- an entry for each type of a record, against a released one
pub record CoverTable (r r₀ : Rec) (t m : List ℕ) : Type 0 where
  pub entries : (i : ℕ) → i < length t
      → cover_meant r.pool (get_or m i 0) ≡ cover_for (types_at r.stream r.pool) (types (schema_of r₀)) (layout_of r (get_or t i 0))

-- the first type whose entry says that nothing covers it
unfoldable pub first_uncovered : Str → List ℕ → List ℕ → Result ⊤ Verdict
first_uncovered s [] m = Ok tt
first_uncovered s (h ∷ t) m = cond (eqb (get_or m 0 0) 1) (Err (Uncovered (stretches_of s h))) (first_uncovered s t (drop 1 m))

-- an entry says that the type is under this root
unfoldable pub is_under : Str → Str → ℕ → Bool
is_under p root n = cond (ltb n 2) false (eqs (text_of p (stretch_in n)) root)

-- the first type whose entry does
unfoldable pub first_touched : Str → List ℕ → List ℕ → Str → Option ℕ
first_touched p [] m root = None
first_touched p (h ∷ t) m root = cond (is_under p root (get_or m 0 0)) (Some h) (first_touched p t (drop 1 m) root)

abbrev pub touched_name : Str → Str → Option ℕ → Option Str
touched_name s p None = None
touched_name s p (Some h) = Some (type_name s p h)

-- its name
unfoldable pub touched_by : Str → Str → List ℕ → List ℕ → Str → Option Str
touched_by s p t m root = touched_name s p (first_touched p t m root)
