-- What the pass over the fields notes of the current types, in the table that CoverTable reads. Assumes nothing.
use Rattle.std.specs.Prelude.{◌≡◌, Result, ⊤, List, Bool, cond, ℕ, ◌<◌, length, get_or, set}
use Rattle.record.specs.Base.{Str}
use Rattle.record.specs.Shapes.{FieldLayout}
use Rattle.record.specs.Reading.{Rec}
use Rattle.layout.specs.Handles.{type_name, layout_of}
use Rattle.definition.specs.Fields.{eq_places, check_places}
use Rattle.verdicts.specs.Meaning.{meaning}
use Rattle.verdicts.specs.declared.verdict.Verdict.{Verdict}

-- the entry of a type by whether it is as it was
abbrev pub entry_of : Bool → ℕ
entry_of same = cond same 0 1

-- the numbers are 1 below an index
pub record Ones (n : ℕ) (m : List ℕ) : Type 0 where
  pub one : (i : ℕ) → i < n → get_or m i 0 ≡ 1

-- the fields of a released type were held to those of a current one: the verdict, and the table before and after its entry was put
pub record FieldsHeld (cur rel : Rec) (owner : Str) (is was : List FieldLayout) (i : ℕ) (before after : List ℕ) (r : Result ⊤ Verdict) : Type 0 where
  pub verdict : meaning cur.pool rel.pool r ≡ check_places owner is was
  pub entry : after ≡ set before i (entry_of (eq_places is was))

-- the type of a released one's name has its entry, and no other has another than before
pub record TypeNoted (r r₀ : Rec) (t : List ℕ) (h : ℕ) (m n : List ℕ) : Type 0 where
  pub index : ℕ
  pub inside : index < length t
  pub named : type_name r.stream r.pool (get_or t index 0) ≡ type_name r₀.stream r₀.pool h
  pub entry : n ≡ set m index (entry_of (eq_places (layout_of r (get_or t index 0)).fields (layout_of r₀ h).fields))
