-- The round trip, for any commands that fit beside the pool: the stream is read, as either side, as the commands' schema. Assumes nothing.
use mathlib.Core.Path.{◌≡◌, refl, ◌∙◌, ap}
use mathlib.Core.List.{List, [], ◌∷◌}
use mathlib.Core.Bool.{true}
use Prim.Native.Nat.{ℕ, ◌+◌, ◌<◌, ◌≤◌}
use native.Mathlib.Omega.{arith}
use lib.ListN.{length, length-append}
use borrow.Author.Tests.{le-leb}
use Rattle.record.specs.Base.{Str, find}
use Rattle.record.specs.Scalars.{built_in}
use Rattle.record.specs.Schema.{Schema}
use Rattle.record.specs.Reading.{rec, opened, vast, read, ok, parsed, stream_limit, pool_limit, vast_or, sizes_of, concluded, reading}
use Rattle.record.specs.declared.command.Parent.{Parent}
use Rattle.record.specs.declared.command.Parent.TheVariants.{NoParent}
use Rattle.record.specs.declared.refusal.Side.{Side}
use Rattle.record.proofs.PlainPools.{plain-letters}
use Rattle.load.specs.Pool as W
use Rattle.load.specs.Generator.{stream_of}
use Rattle.load.specs.Written.{places_from, AllFit, schema_in, opened_in, opcode}
use Rattle.load.proofs.CommandLaws.{pool-long, pool-plain}
use Rattle.load.proofs.Parsing.{parse-written}
use Rattle.load.proofs.Listing.{schema-written, slim, slim-written}

-- no command is empty
more_bytes : (side : Side) (pool : Str) (last : ℕ) (parent : Parent) (cs : List Str) → AllFit side pool last parent cs → length cs < length (stream_of cs)
unfolding stream_of
more_bytes side pool last parent [] f = omega arith
more_bytes side pool last parent (c ∷ cs) f =
    let w = f.0.whole in
    let e = length-append c (stream_of cs) in
    let r = more_bytes side pool (opcode c) _ cs f.1 in
    omega arith

module _ (side : Side) (cs : List Str) (t : Schema) (fits : AllFit side W.pool 0 NoParent cs) (short : length (stream_of cs) ≤ 32768)
    (means : schema_in W.pool cs ≡ t) (narrow : slim t (opened_in W.pool cs) ≡ true) where
  parsed-so : parsed side (rec (stream_of cs) W.pool built_in) ≡ ok (places_from 0 cs)
  unfolding parsed
  parsed-so =
      let m = more_bytes side W.pool 0 NoParent cs fits in
      parse-written side W.pool (length (stream_of cs) + 1) [] cs 0 NoParent fits (omega arith)

  pub reads : reading side (rec (stream_of cs) W.pool built_in) ≡ read t
  unfolding reading concluded sizes_of vast_or stream_limit pool_limit
  reads =
      rw (le-leb (length (stream_of cs)) 32768 short, pool-long, plain-letters W.pool pool-plain, parsed-so)
      (ap (λ (u : Schema). vast_or u (find (vast u) (opened (stream_of cs) W.pool (places_from 0 cs)))) (schema-written (stream_of cs) W.pool cs refl ∙ means)
      ∙ ap (vast_or t) (slim-written (stream_of cs) W.pool t cs refl narrow))
