-- 01's example of a list. Assumes nothing.
use Rattle.std.specs.Prelude.{Option, Some, None}
use mathlib.Core.Path.{◌≡◌, refl}
use mathlib.Core.List.{[], ◌∷◌}
use mathlib.Core.Bool.{false}
use Prim.Native.Nat.{ℕ}
use Prim.Native.String.{String}
use Rattle.record.specs.Base.{Str, bytes, eqs, decimal, or_else, or_option, find}
use Rattle.record.specs.Scalars.{scalar_in, prim_size, built_in}
use Rattle.record.specs.Schema.{Schema, Field}
use Rattle.record.specs.Kind.{words, kind_among, kind_of}
use Rattle.record.specs.Shapes.{scalar_size, size_as, shape_size, spaced, named, rest_as, shape_type, place_of, places}
use Rattle.record.specs.Fill.{joined}
use Rattle.layout.specs.Sorted.{insert, insert_all, sorted}
use Rattle.layout.specs.Layout.{lay_struct, lay_families, flattened, types}
use Rattle.layout.specs.Listing.{line_of, lines_of, lines_of_all, list_of}

field : String → String → Option Str → Option ℕ → Field
field n k t z = record {
  name = bytes n;
  kind = bytes k;
  typ = t;
  element = None;
  count = None;
  rows = None;
  cols = None;
  size = z;
  key = None;
}

-- struct tile holding n (scalar u16), skip (scalar u8) and gap (padding, size 1)
pub tile : Schema
tile = record {
  scalars = built_in;
  release = None;
  unreleased = false;
  constants = [];
  aliases = [];
  enums = [];
  bitfields = [];
  structs = record {
    name = bytes "tile";
    slot = None;
    version = None;
    fields =
        field "n" "scalar" (Some (bytes "u16")) None
        ∷ field "skip" "scalar" (Some (bytes "u8")) None
        ∷ field "gap" "padding" None (Some 1)
        ∷ [];
  } ∷ [];
  families = [];
  unstored = [];
  versions = [];
}

pub tile-listed : list_of tile ≡ bytes "tile.n 0 2 scalar u16\ntile.skip 2 1 scalar u8\ntile.gap 3 1 padding\n"
unfolding tile field bytes eqs decimal or_else or_option find scalar_in prim_size built_in words kind_among kind_of scalar_size size_as shape_size spaced named rest_as shape_type place_of places joined
    insert insert_all sorted lay_struct lay_families flattened types line_of lines_of lines_of_all list_of
tile-listed = refl
