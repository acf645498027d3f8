-- Demand 3 on bytes: records offered to the check one after the other, by 01, Premises of the chain. Assumes nothing.
use Rattle.std.specs.Prelude.{◌≡◌, cond, ℕ, eqb}
use mathlib.Core.List.{List, [], ◌∷◌, Memᴰ}
use Rattle.record.specs.Base.{Str}
use Rattle.record.specs.Schema.{Schema}
use Rattle.record.specs.Shapes.{FieldLayout}
use Rattle.record.specs.Reading.{Rec, read, refuse, reading}
use Rattle.record.specs.declared.refusal.Side.TheVariants.{Current, Released}
use Rattle.record.specs.declared.refusal.Refusal.{Refusal}
use Rattle.layout.specs.Layout.{types}
use Rattle.layout.specs.Answer.{refusal_of}
use Rattle.definition.specs.Answer.{check}
use Rattle.definition.specs.Chain.{Kinds, Names, Governed, Kept, Holds, Laid}

-- a record, and the room in the buffer lent for its check
pub record Offer : Type 0 where
  pub offered : Rec
  pub room : ℕ

-- the accepted ones, in order, each checked as current against the last one accepted. 01: number 0 accepts, whatever the buffer; any other drops
-- the record
unfoldable pub chain : Rec → List Offer → List Rec
chain last [] = []
chain last (o ∷ os) = cond (eqb (check o.room o.offered last).number 0) (o.offered ∷ chain o.offered os) (chain last os)

unfoldable pub last_of : {A : Type 0} → A → List A → A
last_of a [] = a
last_of a (x ∷ xs) = last_of x xs

-- at the start the first is the last one accepted
unfoldable pub last_accepted : Rec → List Offer → Rec
last_accepted first os = last_of first (chain first os)

-- a premise of a record, by its released reading; a record that can be read as current is read the same as released (one-reading)
abbrev pub SchemaHas : (Schema → Type 0) → Rec → Type 0
SchemaHas P r = (s : Schema) → reading Released r ≡ read s → P s

-- 01: the first record and the accepted ones are the chain; only they need the premises
abbrev pub All : (Rec → Type 0) → List Rec → Type 0
All P rs = (r : Rec) → Memᴰ r rs → P r

-- the last one accepted is read, and keeps what the first, read as s, holds
pub record KeptIn (last : Rec) (s : Schema) : Type 0 where
  pub schema : Schema
  pub is_read : reading Released last ≡ read schema
  pub kept : Kept s schema

-- the last one accepted is read, and if it holds the same number it lays the type out with the same fields
pub record SameIn (last : Rec) (constant type : Str) (number : ℕ) (fields : List FieldLayout) : Type 0 where
  pub schema : Schema
  pub is_read : reading Released last ≡ read schema
  pub laid : Holds schema.constants constant number → Laid (types schema) type fields

-- where the first record can't be read as released: an offer that can be read gets the first's refusal, any other its own; nothing is accepted
pub record NoneAccepted (first : Rec) (n : Refusal) (place : ℕ) (os : List Offer) : Type 0 where
  pub on_read : (o : Offer) (c : Schema) → reading Current o.offered ≡ read c
      → check o.room o.offered first ≡ refusal_of Released n place
  pub on-refused : (o : Offer) (m : Refusal) (q : ℕ) → reading Current o.offered ≡ refuse m q
      → check o.room o.offered first ≡ refusal_of Current m q
  pub none-accepted : chain first os ≡ []
  pub last-is-first : last_accepted first os ≡ first

-- demand 3, whole, of a first record and the records offered after it
pub record Demand3 (first : Rec) (os : List Offer) : Type 0 where
  -- "each non-padding field, enum value and bit member of the first is found, under its own and its parent's name, in the last one accepted"
  pub nothing-lost : SchemaHas Kinds first → All (SchemaHas Kinds) (chain first os)
      → (s : Schema) → reading Released first ≡ read s
      → KeptIn (last_accepted first os) s
  -- "where a structure's generation number is the same in these two records, every type under that number has in both the same fields in the same
  -- order". 01: every record "holds it as an integer", so the first, and the type "is itself described in the first"
  pub nothing-moved : All (SchemaHas Names) (chain first os)
      → (root constant type : Str) → All (SchemaHas (Governed root constant type)) (chain first os)
      → (s : Schema) → reading Released first ≡ read s
      → (number : ℕ) → Holds s.constants constant number
      → (fields : List FieldLayout) → Laid (types s) type fields
      → SameIn (last_accepted first os) constant type number fields
  -- where the first can't be read as released, nothing is accepted
  pub nothing-accepted : (n : Refusal) (place : ℕ) → reading Released first ≡ refuse n place → NoneAccepted first n place os
