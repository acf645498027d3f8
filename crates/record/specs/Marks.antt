-- Marks on the fields and types of a stream, one for each byte at which a command may begin, and what a walk does to them: the code's way to 01,
-- Ownership, which is defined in Owner. Assumes nothing.
use Rattle.std.specs.Prelude.{◌≡◌, List, [], ◌∷◌, Bool, true, false, cond, ◌⊎◌, ℕ, suc, ◌+◌, ◌-◌, ◌≤◌, ◌<◌, length, get_or, drop, eqb, Option, Some, None}
use Rattle.record.specs.Base.{Str, first}
use Rattle.record.specs.Schema.{Field}
use Rattle.record.specs.Commands.{field_at, commands_at}
use Rattle.record.specs.Lists.{listed, field_of, keys}
use Rattle.record.specs.Steps.{field_key_at}
use Rattle.record.specs.Seek.{over_of}
use Rattle.record.specs.declared.seek.Between.{Between}
use Rattle.record.specs.declared.seek.Between.TheVariants.{Keys, Variants}
use Rattle.record.specs.Index.{first_place, sought_at, Indexed}
use Rattle.record.specs.Owner.{Types, referenced, has_slot, type_fields, Edge, Leads}
use Rattle.record.specs.References.{types_at}
use Rattle.record.specs.declared.marks.Body.{Body}
use Rattle.record.specs.Commands.{Step}

-- places -----------------------------------------------------------------------------------------------------------------

-- what may stand between the fields of a type: plugin keys, and in a family its variants
abbrev pub between : Bool → Between
between true = Variants
between false = Keys

-- the fields of a type that begin at a place
unfoldable pub body_at : Bool → Str → Str → ℕ → List Field
body_at family s p at = listed s (over_of (between family)) 11 (λ at rest. field_of p (field_at (drop at s)) (first (keys s p rest))) (commands_at s at)

abbrev pub body_of : Bool → Str → Str → Step ℕ → List Field
body_of family s p None = []
body_of family s p (Some (q, k)) = field_of p (field_at (drop q s)) (field_key_at s p k.at) ∷ body_at family s p k.at

abbrev pub body_left : Str → Step ℕ → ℕ
body_left s None = 0
body_left s (Some (q, k)) = suc (length s - k.at)

abbrev pub place_past : Step ℕ → ℕ
place_past None = 0
place_past (Some (q, k)) = suc q

abbrev pub place_number : Str → Step ℕ → ℕ
place_number s None = 11
place_number s (Some (q, k)) = get_or s q 0

-- a step along a type's fields: the list at the step, one more than the bytes after the field, its place inside the stream, and the number there
pub record PlacesFrom (family : Bool) (s : Str) (at : ℕ) (r : Step ℕ) : Type 0 where
  pub list : (p : Str) → body_at family s p at ≡ body_of family s p r
  pub left : body_left s r ≤ length s - at
  pub within : place_past r ≤ length s
  pub number : place_number s r ≡ 11

-- the name that the field at a place refers to
unfoldable pub reference_at : Str → Str → ℕ → Option Str
reference_at s p q = referenced (field_of p (field_at (drop q s)) None)

-- a name, unless it is that of a structure with slot text
unfoldable pub entered : Types → Option Str → Option Str
entered t None = None
entered t (Some n) = cond (has_slot t n) None (Some n)

-- the name that the field at a place leads to
unfoldable pub target_at : Str → Str → ℕ → Option Str
target_at s p q = entered (types_at s p) (reference_at s p q)

-- the first of two places that there is, else where the stream ends
unfoldable pub either_place : Str → Option (ℕ × ℕ) → Option (ℕ × ℕ) → ℕ
either_place s (Some (a, k)) f = a
either_place s None (Some (a, k)) = a
either_place s None None = length s

-- the place of a type's command: of the first structure of the name, else of the first family, else where the stream ends
unfoldable pub type_place : Str → Str → Str → ℕ
type_place s p n = either_place s (sought_at s (first_place s p 8 n)) (sought_at s (first_place s p 9 n))

-- the command of the type of a name stands here, and its fields begin here
pub record IsBody (s p : Str) (n : Str) (b : Body) : Type 0 where
  pub stands : b.place ≡ type_place s p n
  pub fields : type_fields (types_at s p) n ≡ body_at b.family s p b.from.at

-- what a reference to a name leads to: nothing where it is a structure with slot text, else the fields of its type
abbrev pub Entering : Str → Str → Str → Option Body → Type 0
Entering s p n None = has_slot (types_at s p) n ≡ true
Entering s p n (Some b) = (has_slot (types_at s p) n ≡ false) × IsBody s p n b

-- the field at a place leads to a name whose fields begin here
pub record Into (s p : Str) (q : ℕ) (b : Body) : Type 0 where
  pub name : Str
  pub target : target_at s p q ≡ Some name
  pub body : IsBody s p name b

-- what the field at a place leads to
abbrev pub LeadsToTarget : Str → Str → ℕ → Option Body → Type 0
LeadsToTarget s p q None = target_at s p q ≡ None
LeadsToTarget s p q (Some b) = Into s p q b

-- walks ------------------------------------------------------------------------------------------------------------------

-- no mark is set
pub record Clear (m : List ℕ) : Type 0 where
  pub none : (q : ℕ) → get_or m q 0 ≡ 0

-- how many marks are not set
unfoldable pub unseen : List ℕ → ℕ
unseen [] = 0
unseen (x ∷ xs) = cond (eqb x 0) 1 0 + unseen xs

-- what a walk asks: a mark for each byte of the stream, and a number that marks
pub record Ready (s : Str) (m : List ℕ) (mark : ℕ) : Type 0 where
  pub room : length s ≤ length m
  pub real : 0 < mark

-- the answer: whether the type whose command stands here was visited; where the stream ends there is none
pub record IsVisited (s : Str) (m : List ℕ) (q : ℕ) (r : Bool) : Type 0 where
  pub yes : r ≡ true → q < length s → get_or m q 0 ≡ 0 → ⊥
  pub inside : r ≡ false → q < length s
  pub free : r ≡ false → get_or m q 0 ≡ 0

-- the type of a name was visited, where somebody declares it
pub record Visited (s p : Str) (m : List ℕ) (n : Str) : Type 0 where
  pub marked : type_place s p n < length s → get_or m (type_place s p n) 0 ≡ 0 → ⊥

-- a marked field leads to the name
pub record Named (s p : Str) (m : List ℕ) (n : Str) : Type 0 where
  pub place : ℕ
  pub field : get_or s place 0 ≡ 11
  pub marked : get_or m place 0 ≡ 0 → ⊥
  pub leads : target_at s p place ≡ Some n

-- whatever a type's fields lead to, a marked field leads to
pub record Full (s p : Str) (m : List ℕ) (n : Str) : Type 0 where
  pub all : (x : Str) → Edge (types_at s p) n x → Named s p m x

-- a field that was marked on the way: it leads only to names of R
pub record Fresh (s p : Str) (mark : ℕ) (R : Str → Type 0) (before after : List ℕ) (q : ℕ) : Type 0 where
  pub was : get_or before q 0 ≡ 0
  pub is : get_or after q 0 ≡ mark
  pub into : (n : Str) → target_at s p q ≡ Some n → R n

-- a type that was marked on the way
pub record Entered (s : Str) (before after : List ℕ) (q : ℕ) : Type 0 where
  pub was : get_or before q 0 ≡ 0
  pub is : get_or after q 0 ≡ 4
  pub other : get_or s q 0 ≡ 11 → ⊥

-- what a walk did to the mark at a place: nothing, or it marked a field or a type
pub data Change (s p : Str) (mark : ℕ) (R : Str → Type 0) (before after : List ℕ) (q : ℕ) : Type 0 where
  as_it_was : get_or after q 0 ≡ get_or before q 0 → Change s p mark R before after q
  a-field : Fresh s p mark R before after q → Change s p mark R before after q
  a-type : Entered s before after q → Change s p mark R before after q

-- a walk by an index: there are no more marks that are not set, and this is so where the index is the record's
pub record Led (s p : Str) (x before after : List ℕ) (So : Type 0) : Type 0 where
  pub same_length : length after ≡ length before
  pub fewer : unseen after ≤ unseen before
  pub so : Indexed s p x → So

-- a walk: older marks stay, fresh ones are its own, the type that a freshly marked field leads to was visited, and a freshly visited type is full
pub record Walked (s p : Str) (mark : ℕ) (R : Str → Type 0) (before after : List ℕ) : Type 0 where
  pub each : (q : ℕ) → Change s p mark R before after q
  pub closed : (q : ℕ) → get_or s q 0 ≡ 11 → (get_or after q 0 ≡ 0 → ⊥)
      → (get_or before q 0 ≡ 0 → ⊥) ⊎ ((n : Str) → target_at s p q ≡ Some n → Visited s p after n)
  pub filled : (n : Str) → Visited s p after n → Visited s p before n ⊎ Full s p after n

-- a type's walk
pub record TypeWalked (s p : Str) (mark : ℕ) (n : Str) (before after : List ℕ) : Type 0 where
  pub walked : Walked s p mark (Leads (types_at s p) n) before after
  pub visited : Visited s p after n

-- a walk of the type whose command stands here, which is that of every name whose type it is
pub record BodyWalked (s p : Str) (mark : ℕ) (b : Body) (before after : List ℕ) : Type 0 where
  pub of : (n : Str) → IsBody s p n b → TypeWalked s p mark n before after

-- what a field leads to leads to the name
pub record Beyond (s p : Str) (q : ℕ) (n : Str) : Type 0 where
  pub through : Str
  pub target : target_at s p q ≡ Some through
  pub leads : Leads (types_at s p) through n

-- a field's walk
pub record FieldWalked (s p : Str) (mark q : ℕ) (before after : List ℕ) : Type 0 where
  pub walked : Walked s p mark (Beyond s p q) before after
  pub marked : get_or after q 0 ≡ 0 → ⊥
