-- The table of leads: for each declared type a place whose mark is no higher than that of any field with a mark that refers to it. What stands at the
-- place is left open, since a look-up reads it again. Assumes nothing.
use Rattle.std.specs.Prelude.{◌≡◌, List, Bool, true, false, cond, ℕ, ◌+◌, ◌-◌, ◌/◌, ◌≤◌, ◌<◌, eqb, length, get_or, Some}
use Rattle.record.specs.Base.{Str}
use Rattle.record.specs.Index.{first_place, Indexed}
use Rattle.record.specs.Marks.{reference_at}
use Rattle.record.specs.declared.leads.Lead.{Lead}
use Rattle.record.specs.declared.leads.Lead.TheVariants.{NoField, AField}

-- the entry of a name: by the first structure, else by the first family; names that nobody declares share the first
unfoldable pub entry_of : Str → Str → Str → ℕ
entry_of s p n = cond (eqb (first_place s p 8 n) 0) (first_place s p 9 n / 10) (first_place s p 8 n / 10)

-- the answer, where the index is the record's
pub record EntryNamed (s p : Str) (x : List ℕ) (n : Str) (r : ℕ) : Type 0 where
  pub is : Indexed s p x → r ≡ entry_of s p n

-- an entry that leads to a field whose mark is no higher than that of the field at q
pub record Least (m : List ℕ) (e q : ℕ) : Type 0 where
  pub there : e ≡ 0 → ⊥
  pub least : get_or m (e - 1) 0 ≤ get_or m q 0

-- the answer: whether it is such an entry; where it is not, the field at q has a mark that is lower
pub record IsLeast (m : List ℕ) (e q : ℕ) (r : Bool) : Type 0 where
  pub yes : r ≡ true → Least m e q
  pub lower : r ≡ false → (k : ℕ) → Least m e k → get_or m q 0 ≤ get_or m k 0

-- a table into an entry of which the field at q was put
pub record PutLeast (m t : List ℕ) (e q : ℕ) (after : List ℕ) : Type 0 where
  pub same_length : length after ≡ length t
  pub here : e < length t → Least m (get_or after e 0) q
  pub kept : (j k : ℕ) → Least m (get_or t j 0) k → Least m (get_or after j 0) k

-- the fields with a mark before a place have been put into the table
pub record LedTo (s p : Str) (m t : List ℕ) (i : ℕ) : Type 0 where
  pub each : (q : ℕ) (n : Str) → q < i → (get_or m q 0 ≡ 0 → ⊥) → reference_at s p q ≡ Some n → entry_of s p n < length t
      → Least m (get_or t (entry_of s p n) 0) q

-- a table into which the field at q was put, where the index is the record's
pub record PutLead (s p : Str) (m x t : List ℕ) (q : ℕ) (after : List ℕ) : Type 0 where
  pub same_length : length after ≡ length t
  pub next : Indexed s p x → LedTo s p m t q → LedTo s p m after (q + 1)

-- the table of a record's leads
pub record LeadTable (s p : Str) (m t : List ℕ) : Type 0 where
  pub each : (q : ℕ) (n : Str) → (get_or m q 0 ≡ 0 → ⊥) → reference_at s p q ≡ Some n → entry_of s p n < length t → Least m (get_or t (entry_of s p n) 0) q

-- a table that was filled: the record's, where the index is and a place fits an entry
pub record LeadsFilled (s p : Str) (m x t : List ℕ) : Type 0 where
  pub led : Indexed s p x → length m ≤ 32768 → LeadTable s p m t

-- what is known of the fields with a mark that refer to a name: that there is none, or that none has a lower mark than this one
pub record LeadsTo (s p : Str) (m : List ℕ) (n : Str) (r : Lead) : Type 0 where
  pub none : r ≡ NoField → (q : ℕ) → (get_or m q 0 ≡ 0 → ⊥) → reference_at s p q ≡ Some n → ⊥
  pub least : (i : ℕ) → r ≡ AField i → (q : ℕ) → (get_or m q 0 ≡ 0 → ⊥) → reference_at s p q ≡ Some n → get_or m i 0 ≤ get_or m q 0

-- the answer, where the index and the table are the record's
pub record LeadGiven (s p : Str) (x t : List ℕ) (n : Str) (r : Lead) : Type 0 where
  pub by : Indexed s p x → (m : List ℕ) → LeadTable s p m t → LeadsTo s p m n r
