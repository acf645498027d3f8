-- A pair of records with a wanted outcome: a plan has what both records share, and the outcome decides what the current one has otherwise.
-- 02, W-213: "the two records are always readable, and the wanted outcome (accepted, or one named verdict among 20, 34, 35, 36 and 43) is an
-- operand and is met". Assumes nothing.
use Rattle.std.specs.Prelude.{List, [], ◌∷◌, ◌++◌, false, ℕ, ◌+◌, Some, None}
use Rattle.record.specs.Base.{Str}
use Rattle.record.specs.Scalars.{built_in}
use Rattle.record.specs.Schema.{Schema, integer, Const, Alias, Enum, BitField, Key, Field, Struct, Family, Version}
use Rattle.load.specs.declared.outcomes.Outcome.{Outcome}
use Rattle.load.specs.declared.outcomes.Outcome.TheVariants as O

unfoldable pub outcome_number : Outcome → ℕ
outcome_number O.Accepted = 0
outcome_number O.ConstantGone = 20
outcome_number O.FieldGone = 34
outcome_number O.FieldMoved = 35
outcome_number O.FieldResized = 36
outcome_number O.Unraised = 43

-- The root is the one structure with a slot. Of its fields one is the target: the outcome decides what becomes of it
pub record Plan : Type 0 where
  -- the releases of the current and of the released record
  pub now : Str
  pub was : Str
  -- the generation's constant, and its number in the released record
  pub constant : Str
  pub generation : ℕ
  -- the constant that 20 leaves out, and the others
  pub spare : Const
  pub constants : List Const
  pub aliases : List Alias
  pub enums : List Enum
  pub bitfields : List BitField
  pub families : List Family
  pub unstored : List Key
  -- the structures before and after the root
  pub before : List Struct
  pub after : List Struct
  -- the root's name and slot
  pub name : Str
  pub slot : Str
  -- the root's fields before and after the target; the target, and with another size
  pub front : List Field
  pub back : List Field
  pub target : Field
  pub retyped : Field
  -- the field that 35 puts in front of the target, and the one that 0 and 43 add at the end
  pub inserted : Field
  pub added : Field

-- the root's fields in the released record, and in the current one
unfoldable pub whole : Plan → List Field
whole p = p.front ++ (p.target ∷ p.back)

unfoldable pub edited : Outcome → Plan → List Field
edited O.Accepted p = whole p ++ (p.added ∷ [])
edited O.ConstantGone p = whole p
edited O.FieldGone p = p.front ++ p.back
edited O.FieldMoved p = p.front ++ (p.inserted ∷ p.target ∷ p.back)
edited O.FieldResized p = p.front ++ (p.retyped ∷ p.back)
edited O.Unraised p = whole p ++ (p.added ∷ [])

unfoldable pub root : Plan → List Field → Struct
root p fs = record { name = p.name; slot = Some p.slot; version = Some p.constant; fields = fs }

unfoldable pub structs_with : Plan → List Field → List Struct
structs_with p fs = p.before ++ (root p fs ∷ p.after)

-- the generation's constant and its version entry, with a number
unfoldable pub generation_at : Plan → ℕ → Const
generation_at p n = record { name = p.constant; value = integer n; api = false; since = None }

unfoldable pub entry_at : Plan → ℕ → Version
entry_at p n = record { struct = p.name; version = n }

-- the current generation, from the released one
unfoldable pub generation_now : Outcome → ℕ → ℕ
generation_now O.Accepted n = n + 1
generation_now O.ConstantGone n = n
generation_now O.FieldGone n = n
generation_now O.FieldMoved n = n
generation_now O.FieldResized n = n
generation_now O.Unraised n = n

unfoldable pub constants_with : Plan → ℕ → List Const
constants_with p n = generation_at p n ∷ p.spare ∷ p.constants

unfoldable pub constants_without : Plan → ℕ → List Const
constants_without p n = generation_at p n ∷ p.constants

unfoldable pub constants_now : Outcome → Plan → List Const
constants_now O.Accepted p = constants_with p (p.generation + 1)
constants_now O.ConstantGone p = constants_without p p.generation
constants_now O.FieldGone p = constants_with p p.generation
constants_now O.FieldMoved p = constants_with p p.generation
constants_now O.FieldResized p = constants_with p p.generation
constants_now O.Unraised p = constants_with p p.generation

-- a record of a release: constants, the root's fields, version entries
unfoldable pub schema_with : Plan → Str → List Const → List Field → List Version → Schema
schema_with p release cs fs vs = record {
  scalars = built_in;
  release = Some release;
  unreleased = false;
  constants = cs;
  aliases = p.aliases;
  enums = p.enums;
  bitfields = p.bitfields;
  structs = structs_with p fs;
  families = p.families;
  unstored = p.unstored;
  versions = vs;
}

unfoldable pub released : Plan → Schema
released p = schema_with p p.was (constants_with p p.generation) (whole p) (entry_at p p.generation ∷ [])

unfoldable pub current : Outcome → Plan → Schema
current o p = schema_with p p.now (constants_now o p) (edited o p) (entry_at p (generation_now o p.generation) ∷ [])
