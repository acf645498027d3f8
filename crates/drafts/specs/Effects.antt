-- What an edit does to the schema (02, W-210: a type is "added at the end", "the first of a name" is "taken out again"). Assumes nothing.
use Rattle.std.specs.Prelude.{◌+◌, ◌≡◌, List, [], ◌∷◌, ◌++◌, Bool, true, cond, length}
use Rattle.record.specs.Base.{Str, eqs, any}
use Rattle.record.specs.Schema.{Schema, Struct, Family}

-- all that an edit of types leaves as it is
pub record SameRest (a b : Schema) : Type 0 where
  pub scalars : a.scalars ≡ b.scalars
  pub release : a.release ≡ b.release
  pub unreleased : a.unreleased ≡ b.unreleased
  pub constants : a.constants ≡ b.constants
  pub aliases : a.aliases ≡ b.aliases
  pub enums : a.enums ≡ b.enums
  pub bitfields : a.bitfields ≡ b.bitfields
  pub unstored : a.unstored ≡ b.unstored
  pub versions : a.versions ≡ b.versions

-- the last has the types of the first, and then the one type of the second
pub record Appended (a more b : Schema) : Type 0 where
  pub rest : SameRest a b
  pub structs : b.structs ≡ a.structs ++ more.structs
  pub families : b.families ≡ a.families ++ more.families
  pub one : length more.structs + length more.families ≡ 1

-- a list without the first that passes a test
unfoldable pub less_first : {A : Type 0} → (A → Bool) → List A → List A
less_first q [] = []
less_first q (x ∷ l) = cond (q x) l (x ∷ less_first q l)

abbrev pub struct_named : Str → Struct → Bool
struct_named n t = eqs t.name n

abbrev pub family_named : Str → Family → Bool
family_named n t = eqs t.name n

-- the second is the first without its first structure, or its first family, of a name
pub data TakenOut (n : Str) (a b : Schema) : Type 0 where
  struct : SameRest b a → any (struct_named n) a.structs ≡ true
      → b.structs ≡ less_first (struct_named n) a.structs → b.families ≡ a.families → TakenOut n a b
  family : SameRest b a → any (family_named n) a.families ≡ true
      → b.families ≡ less_first (family_named n) a.families → b.structs ≡ a.structs → TakenOut n a b
