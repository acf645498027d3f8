-- What the schema of a record has: its head, and its lists from the front of the stream. Assumes nothing.
use mathlib.Core.Path.{◌≡◌, refl}
use Rattle.record.specs.Base.{first}
use Rattle.record.specs.Steps.{heads_at, constants_at, aliases_at, enums_at, bitfields_at, structs_at, families_at, unstored_at, versions_at}
use Rattle.record.specs.Reading.{Rec, release_of, unreleased_of, schema_from, schema_of}

module _ (r : Rec) where
  pub schema-release : (schema_of r).release ≡ release_of (first (heads_at r.stream r.pool 0))
  unfolding schema_of schema_from heads_at
  schema-release = refl

  pub schema-unreleased : (schema_of r).unreleased ≡ unreleased_of (first (heads_at r.stream r.pool 0))
  unfolding schema_of schema_from heads_at
  schema-unreleased = refl

  pub schema-constants : (schema_of r).constants ≡ constants_at r.stream r.pool 0
  unfolding schema_of schema_from constants_at
  schema-constants = refl

  pub schema-aliases : (schema_of r).aliases ≡ aliases_at r.stream r.pool 0
  unfolding schema_of schema_from aliases_at
  schema-aliases = refl

  pub schema-enums : (schema_of r).enums ≡ enums_at r.stream r.pool 0
  unfolding schema_of schema_from enums_at
  schema-enums = refl

  pub schema-bitfields : (schema_of r).bitfields ≡ bitfields_at r.stream r.pool 0
  unfolding schema_of schema_from bitfields_at
  schema-bitfields = refl

  pub schema-structs : (schema_of r).structs ≡ structs_at r.stream r.pool 0
  unfolding schema_of schema_from structs_at
  schema-structs = refl

  pub schema-families : (schema_of r).families ≡ families_at r.stream r.pool 0
  unfolding schema_of schema_from families_at
  schema-families = refl

  pub schema-unstored : (schema_of r).unstored ≡ unstored_at r.stream r.pool 0
  unfolding schema_of schema_from unstored_at
  schema-unstored = refl

  pub schema-versions : (schema_of r).versions ≡ versions_at r.stream r.pool 0
  unfolding schema_of schema_from versions_at
  schema-versions = refl
