-- The whole comparison: compare of layout.rs, in the order of passes in 01, What a check returns. Assumes nothing.
use Rattle.std.specs.Prelude.{List, [], ◌∷◌, cond, ℕ, ◌-◌, get_or, take, drop}
use Rattle.record.specs.Schema.{Schema}
use Rattle.record.specs.Keys.{plugin_keys}
use Rattle.record.specs.Owner.{types_in}
use Rattle.layout.specs.Layout.{types}
use Rattle.definition.specs.Verdicts.{Verdict, pass}
use Rattle.definition.specs.Pass.{◌then◌, required}
use Rattle.definition.specs.Unreleased.{check_nothing_released}
use Rattle.definition.specs.ReleaseOrder.{check_release_order}
use Rattle.definition.specs.FirstReleases.{check_first_releases}
use Rattle.definition.specs.Constants.{check_constants}
use Rattle.definition.specs.Enums.{check_enums}
use Rattle.definition.specs.Bitfields.{check_bitfields}
use Rattle.definition.specs.BitfieldReleases.{check_bitfield_releases}
use Rattle.definition.specs.Fields.{check_fields, changed}
use Rattle.definition.specs.Standalone.{check_standalone}
use Rattle.definition.specs.Generations.{check_generations}

-- 01's passes after that on the unreleased copy, in their order
unfoldable pub pass_list : Schema → Schema → List Verdict
pass_list cur rel =
    check_release_order (required cur.release) rel.release
    ∷ check_first_releases (required cur.release) rel.release cur.constants rel.constants cur.enums rel.enums
    (plugin_keys cur.structs cur.unstored) (plugin_keys rel.structs rel.unstored)
    ∷ check_constants cur.structs cur.constants rel.constants
    ∷ check_enums cur.enums rel.enums
    ∷ check_bitfields cur.bitfields rel.bitfields
    ∷ check_bitfield_releases (required cur.release) cur.bitfields rel.bitfields
    ∷ check_fields (types cur) (types rel)
    ∷ check_standalone cur.families rel.families (types cur) (types rel)
    ∷ check_generations (required cur.release) rel.release cur.versions (types_in cur) cur.constants rel.constants
    (changed (types cur) (types rel))
    ∷ []

-- 01's ten passes in their order: that on the unreleased copy finds nothing in a copy of a release
unfoldable pub all_passes : Schema → Schema → List Verdict
all_passes cur rel =
    cond rel.unreleased
    (check_nothing_released rel.structs rel.constants rel.enums rel.bitfields rel.aliases rel.families)
    pass
    ∷ pass_list cur rel

-- the pass of a number: 0 is that on the unreleased copy, 1 the release order, 9 are the generations
unfoldable pub pass_at : ℕ → Schema → Schema → Verdict
pass_at k cur rel = get_or (all_passes cur rel) k pass

-- 01: the first violation is the verdict
unfoldable pub first_of : List Verdict → Verdict
first_of [] = pass
first_of (v ∷ vs) = v then first_of vs

-- the first violation among the passes from one number on, up to another
unfoldable pub passes : ℕ → ℕ → Schema → Schema → Verdict
passes a b cur rel = first_of (take (b - a) (drop a (all_passes cur rel)))

-- how many of the ten judge a pair (proofs/Compare: compare is the first violation among these)
unfoldable pub pass_count : Schema → ℕ
pass_count rel = cond rel.unreleased 1 10

-- an unreleased copy is judged by its own pass alone
unfoldable pub compare : Schema → Schema → Verdict
compare cur rel =
    cond rel.unreleased
    (check_nothing_released rel.structs rel.constants rel.enums rel.bitfields rel.aliases rel.families)
    (first_of (pass_list cur rel))
