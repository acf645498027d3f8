-- Standalone families: check_standalone of layout.rs, verdicts 38 and 39. Assumes nothing.
use Rattle.std.specs.Prelude.{List, ◌∷◌, map, Bool, not, Option}
use Rattle.std.specs.Bool.{beq}
use Rattle.record.specs.Base.{Str, is_some, map_option, find}
use Rattle.record.specs.Schema.{Family, Variant}
use Rattle.record.specs.Steps.{family_in}
use Rattle.record.specs.Shapes.{FieldLayout}
use Rattle.layout.specs.Layout.{TypeLayout, type_in, variant_name}
use Rattle.definition.specs.Verdicts.{Verdict, pass, standing_changed, shipped_family_changed}
use Rattle.definition.specs.Pass.{◌then◌, ensure, each, on_found}
use Rattle.definition.specs.Fields.{place_in, eq_places}

-- the layouts of a family's variants
unfoldable pub variant_names : Str → List Variant → List Str
variant_names n vs = map (λ (v : Variant). variant_name n v.disc) vs

-- the layouts of a family: its own, then its variants'
unfoldable pub layouts_of : Family → List Str
layouts_of m = m.name ∷ variant_names m.name m.variants

-- the name of the first field whose name is new
unfoldable pub gained : List FieldLayout → List FieldLayout → Option Str
gained is was = map_option (λ (f : FieldLayout). f.name) (find (λ (f : FieldLayout). not (is_some (place_in f.name was))) is)

-- the fields of a layout now and before are the same
unfoldable pub check_same : Str → List FieldLayout → List FieldLayout → Verdict
check_same n is was = ensure (eq_places is was) (shipped_family_changed n (gained is was))

-- a layout that is new, or gone, is passed over
unfoldable pub check_shipped : List TypeLayout → List TypeLayout → Str → Verdict
check_shipped is was n =
    on_found (type_in n was) pass (λ (old : TypeLayout).
    on_found (type_in n is) pass (λ (new : TypeLayout). check_same n new.fields old.fields))

unfoldable pub check_shipped_all : List TypeLayout → List TypeLayout → List Str → Verdict
check_shipped_all is was ns = each (check_shipped is was) ns

-- the first released family of the name, if there is one, stood alone or did not, as this one
unfoldable pub check_standing : List Family → Str → Bool → Verdict
check_standing was n alone =
    on_found (family_in n was) pass (λ (old : Family). ensure (beq old.standalone alone) (standing_changed n old.standalone alone))

unfoldable pub check_family : List Family → List TypeLayout → List TypeLayout → Family → Verdict
check_family ms₀ is was m = check_standing ms₀ m.name m.standalone then ensure (not m.standalone) (check_shipped_all is was (layouts_of m))

-- the families and the layouts, each current and released
unfoldable pub check_standalone : List Family → List Family → List TypeLayout → List TypeLayout → Verdict
check_standalone ms ms₀ is was = each (check_family ms₀ is was) ms
