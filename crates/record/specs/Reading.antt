-- The reading of a record: a stream of commands and a pool of texts to a schema, or a refusal with its place, in the order of 01, What a check
-- returns. Assumes nothing.
use Rattle.std.specs.Prelude.{List, [], ◌∷◌, ◌++◌, Bool, true, false, ◌&&◌, ◌||◌, cond, ℕ, zero, suc, ◌+◌, eqb, ltb, leb, length, get_or, drop, Option, Some, None, Ok, Err}
use Rattle.record.specs.Base.{Str, first, find, any}
use Rattle.record.specs.Scalars.{Scalar}
use Rattle.record.specs.Schema.{Schema, Heading, Field}
use Rattle.record.specs.Letters.{odd_letter}
use Rattle.record.specs.Commands.{family_at, commands_at, start}
use Rattle.record.specs.Lists.{heads, constants, aliases, enums, bitfields, structs, families, unstored, versions, fields, family_of}
use Rattle.record.specs.Judge.{judged_at}
use Rattle.record.specs.Shapes.{FieldLayout, places, fam_prefix, limit}
use Rattle.record.specs.declared.command.Cursor.{Cursor}
use Rattle.record.specs.declared.refusal.Side.{Side}
use Rattle.record.specs.declared.refusal.Refusal.{Refusal}
use Rattle.record.specs.declared.refusal.Refusal.TheVariants as R
use Rattle.record.specs.Judge.{Judged}

-- a record, with the table of scalar words under which it is read
pub record Rec : Type 0 where
  pub stream : Str
  pub pool : Str
  pub scalars : List Scalar

abbrev pub rec : Str → Str → List Scalar → Rec
rec s p w = record { stream = s; pool = p; scalars = w }

-- the schema --------------------------------------------------------------------------------------------------------------

unfoldable pub release_of : Option Heading → Option Str
release_of None = None
release_of (Some h) = h.release

unfoldable pub unreleased_of : Option Heading → Bool
unreleased_of None = false
unreleased_of (Some h) = h.unreleased

-- what the commands at these places give
unfoldable pub schema_from : Rec → List ℕ → Schema
schema_from r ps = record {
  scalars = r.scalars;
  release = release_of (first (heads r.stream r.pool ps));
  unreleased = unreleased_of (first (heads r.stream r.pool ps));
  constants = constants r.stream r.pool ps;
  aliases = aliases r.stream r.pool ps;
  enums = enums r.stream r.pool ps;
  bitfields = bitfields r.stream r.pool ps;
  structs = structs r.stream r.pool ps;
  families = families r.stream r.pool ps;
  unstored = unstored r.stream r.pool ps;
  versions = versions r.stream r.pool ps;
}

-- the schema of a record, whether it is refused or not: where a reading accepts the record, this is what it reads (proofs/Accepted)
unfoldable pub schema_of : Rec → Schema
schema_of r = schema_from r (commands_at r.stream 0)

-- number 9 ----------------------------------------------------------------------------------------------------------------

-- a type as the stream opens it: the place of its command, and its fields
pub record Opened : Type 0 where
  pub place : ℕ
  pub fields : List Field

-- a family's fields begin with its front
unfoldable pub opened_at : Str → Str → ℕ → List ℕ → List Opened → List Opened
opened_at s p at ps l =
    cond (eqb (get_or s at 0) 9) (record { place = at; fields = fam_prefix (family_of p (family_at (drop at s)) [] []) ++ fields s p ps } ∷ l)
    (cond (eqb (get_or s at 0) 8 || eqb (get_or s at 0) 10) (record { place = at; fields = fields s p ps } ∷ l) l)

-- every type in the order of the stream, whether another of its name comes later or not
unfoldable pub opened : Str → Str → List ℕ → List Opened
opened s p [] = []
opened s p (at ∷ ps) = opened_at s p at ps (opened s p ps)

-- 01: a field's size or end above the limit; its size is above it only if its end is
unfoldable pub large : FieldLayout → Bool
large f = ltb limit (f.offset + f.size)

unfoldable pub vast : Schema → Opened → Bool
vast s t = any large (places s 0 t.fields)

-- the whole reading -------------------------------------------------------------------------------------------------------

pub data Reading : Type 0 where
  read : Schema → Reading
  refuse : Refusal → ℕ → Reading

-- the commands judged from the front: their places, or the first refusal
pub data Parsed : Type 0 where
  ok : List ℕ → Parsed
  bad : Refusal → ℕ → Parsed

unfoldable pub onto : ℕ → Parsed → Parsed
onto at (ok ps) = ok (at ∷ ps)
onto at (bad n p) = bad n p

-- the rest is judged only where a command is followed by more
unfoldable pub continued : ℕ → (Cursor → Parsed) → Judged → Parsed
continued at go (Ok (Some (c, k))) = onto at (go k)
continued at go (Ok None) = ok []
continued at go (Err (n, p)) = bad n p

unfoldable pub parse : ℕ → Side → Str → Str → Cursor → Parsed
parse zero side s p c = bad R.Cut c.at
parse (suc k) side s p c = continued c.at (parse k side s p) (judged_at side s p c)

unfoldable pub parsed : Side → Rec → Parsed
parsed side r = parse (length r.stream + 1) side r.stream r.pool start

-- 01: the longest stream and the longest pool
unfoldable pub stream_limit : ℕ
stream_limit = 32768

unfoldable pub pool_limit : ℕ
pool_limit = 16384

unfoldable pub vast_or : Schema → Option Opened → Reading
vast_or s None = read s
vast_or s (Some t) = refuse R.Vast t.place

unfoldable pub sizes_of : Rec → List ℕ → Reading
sizes_of r ps = vast_or (schema_from r ps) (find (vast (schema_from r ps)) (opened r.stream r.pool ps))

-- 01: 8 (place 0), 7 (pool offset), the commands from the front, then 9 (place of the command opening the first such type)
unfoldable pub concluded : Rec → Bool → Option ℕ → Parsed → Reading
concluded r false l c = refuse R.Long 0
concluded r true (Some i) c = refuse R.Letter i
concluded r true None (bad n p) = refuse n p
concluded r true None (ok ps) = sizes_of r ps

unfoldable pub reading : Side → Rec → Reading
reading side r =
    concluded r (leb (length r.stream) stream_limit && leb (length r.pool) pool_limit) (odd_letter r.pool) (parsed side r)
