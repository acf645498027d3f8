-- A list of a record (01, Record commands) as the function that goes along all of them has it, and that which searches some by name. Assumes nothing.
use Rattle.std.specs.Prelude.{◌≡◌, ℕ, ◌-◌, ◌<◌, ◌≤◌, length, get_or, drop, Option, Some, None}
use mathlib.Core.List.{List, [], ◌∷◌, Memᴰ}
use Rattle.record.specs.Base.{Str, eqs, find}
use Rattle.record.specs.Commands.{width_of, commands_at, Step}
use Rattle.record.specs.Lists.{listed}
use Rattle.record.specs.Seek.{over_of}
use Rattle.record.specs.Stretch.{text_of}
use Rattle.record.specs.declared.command.Cursor.{Cursor}
use Rattle.record.specs.declared.seek.Between.{Between}
use Rattle.record.specs.declared.text.Text.{Text}

-- the elements of a list: the number of their command, what may stand between, an element from its command on, and the element as the model has it,
-- by the stream, the pool and the commands after it
pub record Elements (E M : Type 0) : Type 0 where
  pub number : ℕ
  pub between : Between
  pub read : Str → E
  pub of : Str → Str → E → List ℕ → M

-- the list from a place on
abbrev pub list_at : {E M : Type 0} → Elements E M → Str → Str → ℕ → List M
list_at m s p at = listed s (over_of m.between) m.number (λ (a : ℕ) (rest : List ℕ). m.of s p (m.read (drop a s)) rest) (commands_at s at)

-- the list is over
pub record Over {E M : Type 0} (m : Elements E M) (s : Str) (at : ℕ) : Type 0 where
  pub list : (p : Str) → list_at m s p at ≡ []
  pub left : 0 ≤ length s - at

-- the list has an element, and goes on at a cursor that is nearer the end
pub record Next {E M : Type 0} (m : Elements E M) (s : Str) (at : ℕ) (e : E) (k : Cursor) : Type 0 where
  pub list : (p : Str) → list_at m s p at ≡ m.of s p e (commands_at s k.at) ∷ list_at m s p k.at
  pub left : length s - k.at < length s - at

-- the element's command stands right before the cursor, among those from the place on
pub record Place {E M : Type 0} (m : Elements E M) (s : Str) (at : ℕ) (e : E) (k : Cursor) : Type 0 where
  pub past : width_of m.number ≤ k.at
  pub in-stream : Memᴰ (k.at - width_of m.number) (commands_at s at)
  pub number : get_or s (k.at - width_of m.number) 0 ≡ m.number
  pub operands : e ≡ m.read (drop (k.at - width_of m.number) s)

-- what a step along a list answers follows from what a step along any list knows
pub record Answering {E M : Type 0} (m : Elements E M) (From : Str → ℕ → Step E → Type 0) : Type 0 where
  pub over : (s : Str) (at : ℕ) → Over m s at → From s at None
  pub next : (s : Str) (at : ℕ) (e : E) (k : Cursor) → Next m s at e k → Place m s at e k → From s at (Some (e, k))

-- a list: its elements, and what a step along it from a place answers
pub record Listing (E : Type 0) : Type 1 where
  pub Model : Type 0
  pub elements : Elements E Model
  pub From : Str → ℕ → Step E → Type 0
  pub answers : Answering elements From

-- the first element of a name from a place on
abbrev pub named_at : {E M : Type 0} → Elements E M → (M → Str) → Str → Str → ℕ → Str → Option M
named_at m name s p at n = find (λ (x : _). eqs (name x) n) (list_at m s p at)

-- it is the one with this cursor after it
abbrev pub FirstIs : {E M : Type 0} → Elements E M → (M → Str) → Str → Str → ℕ → Str → E → Cursor → Type 0
FirstIs m name s p at n e k = named_at m name s p at n ≡ Some (m.of s p e (commands_at s k.at))

-- what a search by name answers follows from the first element of that name, and what a step answers says where the list goes on
module _ {E M : Type 0} (m : Elements E M) (From : Str → ℕ → Step E → Type 0) (name : E → Text) (of : M → Str) where
  pub record Searching (Found : Str → Str → ℕ → Str → Step E → Type 0) : Type 0 where
    pub named : (s p : Str) (e : E) (rest : List ℕ) → of (m.of s p e rest) ≡ text_of p (name e)
    pub over : (s : Str) (at : ℕ) → From s at None → Over m s at
    pub next : (s : Str) (at : ℕ) (e : E) (k : Cursor) → From s at (Some (e, k)) → Next m s at e k
    pub none : (s p : Str) (at : ℕ) (n : Str) → named_at m of s p at n ≡ None → Found s p at n None
    pub some : (s p : Str) (at : ℕ) (n : Str) (e : E) (k : Cursor) → FirstIs m of s p at n e k → Found s p at n (Some (e, k))

-- a list that is searched by name: the name of an element and of what the model has for it, and what a search from a place answers
pub record Naming (E : Type 0) : Type 1 where
  pub list : Listing E
  pub name : E → Text
  pub name_of : list.Model → Str
  pub Found : Str → Str → ℕ → Str → Step E → Type 0
  pub answers : Searching list.elements list.From name name_of Found
