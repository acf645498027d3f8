-- The generation of a structure: generation_constant of schema.rs. Assumes nothing.
use Rattle.std.specs.Prelude.{◌≡◌, List, cond, ℕ, ◌^◌, ltb, Option, Some, None}
use Rattle.record.specs.Base.{Str}
use Rattle.record.specs.Schema.{Value, integer, words, Const, Struct}
use Rattle.record.specs.Stretch.{text_of}
use Rattle.record.specs.Lists.{opt_of}
use Rattle.record.specs.Steps.{struct_in, constant_in, structs_at, constants_at}
use Rattle.record.specs.Index.{Indexed}
use Rattle.record.specs.declared.text.Text.{Text}

-- a generation: the name of its constant, and the number that this holds
pub record Held : Type 0 where
  pub constant : Str
  pub number : ℕ

-- a number below 2 ^ 32; a negative one, as its 64 bits, is above
unfoldable pub as_generation : Str → Value → Option Held
as_generation k (integer n) = cond (ltb n (2 ^ 32)) (Some (record { constant = k; number = n })) None
as_generation k (words t) = None

unfoldable pub of_constant : Str → Option Const → Option Held
of_constant k None = None
of_constant k (Some c) = as_generation k c.value

unfoldable pub of_version : List Const → Option Str → Option Held
of_version cs None = None
of_version cs (Some k) = of_constant k (constant_in k cs)

unfoldable pub of_struct : List Const → Option Struct → Option Held
of_struct cs None = None
of_struct cs (Some t) = of_version cs t.version

-- the first structure of the name, and the first constant of the name that it gives
unfoldable pub generation_of : List Struct → List Const → Str → Option Held
generation_of ss cs n = of_struct cs (struct_in n ss)

abbrev pub held_as : Str → Option (Text × ℕ) → Option Held
held_as p None = None
held_as p (Some (k, n)) = Some (record { constant = text_of p k; number = n })

-- the generation that a version constant holds, and that of the first structure of a name, where the index is the record's
module _ (s p : Str) (x : List ℕ) where
  pub record HeldBy (v : Option Text) (r : Option (Text × ℕ)) : Type 0 where
    pub this : Indexed s p x → held_as p r ≡ of_version (constants_at s p 0) (opt_of p v)

  pub record HoldsGeneration (n : Str) (r : Option (Text × ℕ)) : Type 0 where
    pub this : Indexed s p x → held_as p r ≡ generation_of (structs_at s p 0) (constants_at s p 0) n
