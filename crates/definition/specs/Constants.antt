-- Constants: check_constants of layout.rs, verdicts 20 and 21. Assumes nothing.
use Rattle.std.specs.Prelude.{List, Bool, false, ◌||◌, Option, Some, None}
use Rattle.record.specs.Base.{Str, eqs, signed, find_last, any}
use Rattle.record.specs.Schema.{Value, integer, words, Const, Struct}
use Rattle.layout.specs.Sorted.{sorted}
use Rattle.definition.specs.Verdicts.{Verdict, constant_gone, constant_changed}
use Rattle.definition.specs.Pass.{ensure, each, on_found}
use Rattle.record.specs.Versioned.{versioned}
use Rattle.record.specs.Generation.{Held, generation_of}

-- 01: constants compare as text, integers in decimal
unfoldable pub constant_text : Value → Str
constant_text (integer n) = signed n
constant_text (words t) = t

-- 01: of two constants of one name the later stays
unfoldable pub last_constant : Str → List Const → Option Const
last_constant n l = find_last (λ (c : Const). eqs c.name n) l

unfoldable pub holds_in : Str → Option Held → Bool
holds_in n None = false
holds_in n (Some g) = eqs g.constant n

-- one of the structures of these names keeps its generation in the constant of that name
unfoldable pub held_by_any : List Struct → List Const → List Str → Str → Bool
held_by_any ss cs roots n = any (λ (root : Str). holds_in n (generation_of ss cs root)) roots

-- the constants that hold the generations: the one set meant to change
unfoldable pub is_generation : List Struct → List Const → Str → Bool
is_generation ss cs n = held_by_any ss cs (versioned ss) n

-- the current structures and constants, and one that was
unfoldable pub check_constant : List Struct → List Const → Const → Verdict
check_constant ss is was =
    on_found (last_constant was.name is) (constant_gone was.name) (λ (new : Const).
    ensure (is_generation ss is was.name || eqs (constant_text new.value) (constant_text was.value))
    (constant_changed was.name (constant_text was.value) (constant_text new.value)))

unfoldable pub check_constants_in : List Struct → List Const → List Const → Verdict
check_constants_in ss is was = each (check_constant ss is) was

-- the released constants in byte order of their names
unfoldable pub check_constants : List Struct → List Const → List Const → Verdict
check_constants ss is was = check_constants_in ss is (sorted (λ (c : Const). c.name) was)
