-- Fields: check_fields of layout.rs, verdicts 33 to 37, and the types whose layout changed. Assumes nothing.
use Rattle.std.specs.Prelude.{List, [], ◌∷◌, Bool, true, false, ◌&&◌, not, eqb, Option, Some, None}
use Rattle.std.specs.Bool.{beq}
use Rattle.record.specs.Base.{Str, eqs, find, filter_b}
use Rattle.record.specs.Shapes.{FieldLayout}
use Rattle.layout.specs.Layout.{TypeLayout, type_in}
use Rattle.definition.specs.Verdicts.{Verdict, type_gone, field_gone, moved, resized, redescribed}
use Rattle.definition.specs.Pass.{◌then◌, ensure, each, on_found}

-- the first field of that name, padding or not
unfoldable pub place_in : Str → List FieldLayout → Option FieldLayout
place_in n l = find (λ (f : FieldLayout). eqs f.name n) l

-- the type's name, a field that was, and the one of its name that is now
unfoldable pub check_kept : Str → FieldLayout → FieldLayout → Verdict
check_kept owner old new =
    ensure (eqb new.offset old.offset) (moved owner old.name old.offset new.offset)
    then ensure (eqb new.size old.size) (resized owner old.name old.size new.size)
    then ensure (eqs new.described old.described) (redescribed owner old.name old.described new.described)

-- the type's name, the fields that are now, and one that was: padding is held to nothing
unfoldable pub check_place : Str → List FieldLayout → FieldLayout → Verdict
check_place owner is old = ensure old.padding (on_found (place_in old.name is) (field_gone owner old.name) (check_kept owner old))

unfoldable pub check_places : Str → List FieldLayout → List FieldLayout → Verdict
check_places owner is was = each (check_place owner is) was

unfoldable pub check_type : List TypeLayout → TypeLayout → Verdict
check_type is was =
    on_found (type_in was.name is) (type_gone was.name) (λ (new : TypeLayout). check_places was.name new.fields was.fields)

-- every released layout, in byte order of the whole name
unfoldable pub check_fields : List TypeLayout → List TypeLayout → Verdict
check_fields is was = each (check_type is) was

-- changed types ------------------------------------------------------------------------------------------------------------------

unfoldable pub eq_place : FieldLayout → FieldLayout → Bool
eq_place a b =
    eqs a.name b.name && eqb a.offset b.offset && eqb a.size b.size
    && eqs a.described b.described && beq a.padding b.padding

-- the same fields in the same order, padding included
unfoldable pub eq_places : List FieldLayout → List FieldLayout → Bool
eq_places [] [] = true
eq_places [] (b ∷ bs) = false
eq_places (a ∷ as₀) [] = false
eq_places (a ∷ as₀) (b ∷ bs) = eq_place a b && eq_places as₀ bs

unfoldable pub same_as : Option TypeLayout → TypeLayout → Bool
same_as None is = false
same_as (Some was) is = eq_places was.fields is.fields

-- the current types whose layout differs at all, new ones included, in byte order
unfoldable pub changed : List TypeLayout → List TypeLayout → List TypeLayout
changed is was = filter_b (λ (t : TypeLayout). not (same_as (type_in t.name was) t)) is
