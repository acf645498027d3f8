-- The index of the names that a record declares: for each number that a name's length, first and last bytes give, the places of its commands from the
-- last to the first, each place one more than it is. Assumes nothing.
use Rattle.std.specs.Prelude.{◌≡◌, List, [], ◌∷◌, ◌⊎◌, Bool, true, ◌&&◌, cond, ℕ, zero, suc, ◌+◌, ◌-◌, ◌*◌, ◌/◌, ◌%◌, ◌≤◌, ◌<◌, length, get_or, set, drop, eqb, ltb, Option, Some, None}
use Rattle.record.specs.Le.{u32_at}
use Rattle.record.specs.Base.{Str, eqs, find_last, any}
use Rattle.record.specs.Stretch.{text_of}
use Rattle.record.specs.Operands.{text_at, flag_at}
use Rattle.record.specs.Commands.{constant_at, alias_at, enum_at, bitfield_at, struct_at, family_at, commands_at}
use Rattle.record.specs.Commands as Commands
use Rattle.record.specs.Schema.{Const, Key, Alias, Enum, BitField, Struct, Family}
use Rattle.record.specs.Lists.{constant_of, key_of, alias_of, enum_of, bitfield_of, struct_of, family_of}
use Rattle.record.specs.Steps.{values_at, members_at, fields_at, variants_at}
use Rattle.record.specs.Steps.{constants_at, aliases_at, enums_at, bitfields_at, structs_at, families_at, unstored_at}
use Rattle.record.specs.Steps.{constant_in, alias_in, enum_in, bitfield_in, struct_in, family_in}
use Rattle.record.specs.Seek.{after_at}

-- names ------------------------------------------------------------------------------------------------------------------

-- four bytes as one number that each of them changes much
unfoldable pub mixed : Str → ℕ → ℕ
mixed x at = u32_at x at * 2246822519 / 268435456

-- the number by which a name is kept
unfoldable pub hash_of : Str → ℕ
hash_of x =
    cond (ltb (length x) 4) ((195 * (length x % 256) + 142 * get_or x 0 0 + 20 * get_or x 1 0 + 205 * get_or x 2 0) % 256)
    ((195 * (length x % 256) + 142 * get_or x 0 0 + mixed x (length x - 4)) % 256)

-- the name that the command at a place begins with
unfoldable pub declared_name : Str → Str → ℕ → Str
declared_name s p at = text_of p (text_at (drop at s) 1)

-- whether a command declares a name that look-ups ask for: a constant, an alias, an enum, a bit field, a structure, a family or an unstored key
unfoldable pub declares : ℕ → Bool
declares b =
    cond (eqb b 8) true
    (cond (eqb b 9) true
    (cond (eqb b 3) true (cond (eqb b 4) true (cond (eqb b 2) true (cond (eqb b 13) true (eqb b 6))))))

-- whether the command at a place has this number and name
unfoldable pub is_named : Str → Str → ℕ → Str → ℕ → Bool
is_named s p b n at = eqb (get_or s at 0) b && eqs (declared_name s p at) n

-- whether the flag at a place f of the command at a place is set; any is where f is 0
unfoldable pub is_flagged : Str → ℕ → ℕ → Bool
is_flagged s f at = cond (eqb f 0) true (flag_at (drop at s) f)

-- whether the command at a place has the flag, and this number and name
unfoldable pub counts : Str → Str → ℕ → ℕ → Str → ℕ → Bool
counts s p b f n at = is_flagged s f at && is_named s p b n at

-- places -----------------------------------------------------------------------------------------------------------------

-- those of some places that pass a test, each put before the ones that were there
unfoldable pub onto : (ℕ → Bool) → List ℕ → List ℕ → List ℕ
onto t [] l = l
onto t (q ∷ qs) l = onto t qs (cond (t q) (q ∷ l) l)

-- whether the command at a place declares a name
unfoldable pub declaring : Str → ℕ → Bool
declaring s at = declares (get_or s at 0)

-- the places of the declaring commands, from the last to the first
unfoldable pub declared_places : Str → List ℕ
declared_places s = onto (declaring s) (commands_at s 0) []

-- the number of the command at a place
unfoldable pub hash_at : Str → Str → ℕ → ℕ
hash_at s p at = hash_of (declared_name s p at)

-- the first of these places that has a number, one more than it is; 0 where none has it
unfoldable pub latest : (ℕ → ℕ) → ℕ → List ℕ → ℕ
latest key h [] = 0
latest key h (q ∷ l) = cond (eqb (key q) h) (suc q) (latest key h l)

-- each of these places stands seven bytes at least before the one before it, and its entry leads to the next of its number
unfoldable pub Linked : List ℕ → (ℕ → ℕ) → ℕ → List ℕ → Type 0
Linked x key top [] = Unit
Linked x key top (q ∷ l) = (q + 7 ≤ top) × (get_or x (256 + q / 7) 0 ≡ latest key (key q) l) × Linked x key q l

-- an index into which the command at a place was put, where it declares a name
unfoldable pub put_at : Str → Str → List ℕ → ℕ → List ℕ
put_at s p x at = cond (declaring s at) (set (set x (256 + at / 7) (get_or x (hash_at s p at) 0)) (hash_at s p at) (at + 1)) x

-- how long an index has to be, by the length of the stream: a place for each number, and an entry for each seven bytes
abbrev pub IndexRoom : Str → List ℕ → Type 0
IndexRoom s x = 256 + length s / 7 < length x

-- an index of these places: each number leads to the first of them that has it
pub record Chained (x : List ℕ) (key : ℕ → ℕ) (top : ℕ) (l : List ℕ) : Type 0 where
  pub heads : (h : ℕ) → h < 256 → get_or x h 0 ≡ latest key h l
  pub linked : Linked x key top l

-- the index of a record
pub record Indexed (s p : Str) (x : List ℕ) : Type 0 where
  pub chained : Chained x (hash_at s p) (length s) (declared_places s)

-- the last of some places that passes a test, one more than it is, and otherwise what was known
unfoldable pub hit_in : (ℕ → Bool) → List ℕ → ℕ → ℕ
hit_in t [] found = found
hit_in t (q ∷ l) found = hit_in t l (cond (t q) (suc q) found)

-- the first of some places that passes a test, one more than it is; 0 where none does
unfoldable pub first_in : (ℕ → Bool) → List ℕ → ℕ
first_in t [] = 0
first_in t (q ∷ l) = cond (t q) (suc q) (first_in t l)

-- the entry of the command at a place, where it leads to a place before
unfoldable pub link_before : List ℕ → ℕ → ℕ
link_before x at = cond (ltb at (get_or x (256 + at / 7) 0)) 0 (get_or x (256 + at / 7) 0)

-- an index that leads nowhere
pub record Headless (before x : List ℕ) : Type 0 where
  pub same_length : length x ≡ length before
  pub none : (h : ℕ) → h < 256 → get_or x h 0 ≡ 0

-- the first command of a number and a name, one more than its place; 0 where there is none
abbrev pub first_place : Str → Str → ℕ → Str → ℕ
first_place s p b n = hit_in (is_named s p b n) (declared_places s) 0

-- the answer, where the index is the record's
pub record FirstNamed (s p : Str) (x : List ℕ) (b : ℕ) (n : Str) (r : ℕ) : Type 0 where
  pub first : Indexed s p x → r ≡ first_place s p b n

-- the last command of a number and a name that has a flag, which stands first among the places, where the index is the record's
pub record LastNamed (s p : Str) (x : List ℕ) (b f : ℕ) (n : Str) (r : ℕ) : Type 0 where
  pub last : Indexed s p x → r ≡ first_in (counts s p b f n) (declared_places s)

-- a place that is one less than a number, and the place after its command
unfoldable pub sought_at : Str → ℕ → Option (ℕ × ℕ)
sought_at s zero = None
sought_at s (suc q) = Some (q, after_at s q)

-- what the command at a place declares, with the place after it
abbrev pub constant_placed : Str → Str → Option (ℕ × ℕ) → Option Const
constant_placed s p None = None
constant_placed s p (Some (a, k)) = Some (constant_of p (constant_at (drop a s)))

abbrev pub alias_placed : Str → Str → Option (ℕ × ℕ) → Option Alias
alias_placed s p None = None
alias_placed s p (Some (a, k)) = Some (alias_of p (alias_at (drop a s)))

abbrev pub enum_placed : Str → Str → Option (ℕ × ℕ) → Option Enum
enum_placed s p None = None
enum_placed s p (Some (a, k)) = Some (enum_of p (enum_at (drop a s)) (values_at s p k))

abbrev pub bitfield_placed : Str → Str → Option (ℕ × ℕ) → Option BitField
bitfield_placed s p None = None
bitfield_placed s p (Some (a, k)) = Some (bitfield_of p (bitfield_at (drop a s)) (members_at s p k))

abbrev pub struct_placed : Str → Str → Option (ℕ × ℕ) → Option Struct
struct_placed s p None = None
struct_placed s p (Some (a, k)) = Some (struct_of p (struct_at (drop a s)) (fields_at s p k))

abbrev pub family_placed : Str → Str → Option (ℕ × ℕ) → Option Family
family_placed s p None = None
family_placed s p (Some (a, k)) = Some (family_of p (family_at (drop a s)) (fields_at s p k) (variants_at s p k))

abbrev pub unstored_placed : Str → Str → Option (ℕ × ℕ) → Option Key
unstored_placed s p None = None
unstored_placed s p (Some (a, k)) = Some (key_of p (Commands.key_at (drop a s)))

-- the answer is the place of the first constant of a name, asked for by 2, and so on
pub record PlaceNamed (s p n : Str) (b : ℕ) (r : Option (ℕ × ℕ)) : Type 0 where
  pub constant : b ≡ 2 → constant_in n (constants_at s p 0) ≡ constant_placed s p r
  pub alias : b ≡ 3 → alias_in n (aliases_at s p 0) ≡ alias_placed s p r
  pub enum : b ≡ 4 → enum_in n (enums_at s p 0) ≡ enum_placed s p r
  pub bitfield : b ≡ 6 → bitfield_in n (bitfields_at s p 0) ≡ bitfield_placed s p r
  pub struct : b ≡ 8 → struct_in n (structs_at s p 0) ≡ struct_placed s p r
  pub family : b ≡ 9 → family_in n (families_at s p 0) ≡ family_placed s p r

-- the answer is such a place, that of the first command of the number and the name, where the index is the record's
pub record Declared (s p : Str) (x : List ℕ) (b : ℕ) (n : Str) (r : Option (ℕ × ℕ)) : Type 0 where
  pub named : Indexed s p x → PlaceNamed s p n b r
  pub first : Indexed s p x → r ≡ sought_at s (first_place s p b n)

-- an index by which names can be looked up: the record's, or an empty one, in whose place all commands are looked at
pub record Findable (s p : Str) (x : List ℕ) : Type 0 where
  pub by : Indexed s p x ⊎ (length x ≡ 0)

-- the answer by such an index
pub record Looked (s p : Str) (x : List ℕ) (b : ℕ) (n : Str) (r : Option (ℕ × ℕ)) : Type 0 where
  pub named : Findable s p x → PlaceNamed s p n b r

-- the answer is the place of the last constant of a name, asked for by 2 with no flag, of the last unstored key, of the last constant and the last
-- enum in the plugin API, and of the last standalone family
pub record PlaceLast (s p n : Str) (b f : ℕ) (r : Option (ℕ × ℕ)) : Type 0 where
  pub constant : b ≡ 2 → f ≡ 0 → find_last (λ (c : Const). eqs c.name n) (constants_at s p 0) ≡ constant_placed s p r
  pub unstored : b ≡ 13 → f ≡ 0 → find_last (λ (k : Key). eqs k.name n) (unstored_at s p 0) ≡ unstored_placed s p r
  pub api-constant : b ≡ 2 → f ≡ 16 → find_last (λ (c : Const). c.api && eqs c.name n) (constants_at s p 0) ≡ constant_placed s p r
  pub api-enum : b ≡ 4 → f ≡ 8 → find_last (λ (e : Enum). e.api && eqs e.name n) (enums_at s p 0) ≡ enum_placed s p r
  pub standalone : b ≡ 9 → f ≡ 16 → find_last (λ (m : Family). m.standalone && eqs m.name n) (families_at s p 0) ≡ family_placed s p r

-- the answer is such a place, where the index is the record's
pub record LastDeclared (s p : Str) (x : List ℕ) (b f : ℕ) (n : Str) (r : Option (ℕ × ℕ)) : Type 0 where
  pub named : Indexed s p x → PlaceLast s p n b f r

-- the answer, where the index is the record's: whether a family of a name is standalone
pub record Alone (s p : Str) (x : List ℕ) (n : Str) (r : Bool) : Type 0 where
  pub is : Indexed s p x → r ≡ any (λ (m : Family). m.standalone && eqs m.name n) (families_at s p 0)
