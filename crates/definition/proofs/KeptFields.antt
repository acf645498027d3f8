-- One step: fields stay. Assumes nothing.
use mathlib.Core.Path.{◌≡◌, ◌∙◌}
use Prim.Native.Nat.{ℕ}
use borrow.Author.Tests.{eqb-true}
use Rattle.record.specs.Base.{Str, eqs}
use Rattle.record.specs.Schema.{Schema}
use Rattle.record.specs.Shapes.{FieldLayout}
use Rattle.record.proofs.Basics.{eqs→eq, find-some}
use Rattle.layout.specs.Layout.{TypeLayout, types, type_in}
use Rattle.definition.specs.Verdicts.{pass, type_gone, field_gone, moved, resized, redescribed}
use Rattle.definition.specs.Fields.{place_in, check_kept, check_place, check_places, check_type, check_fields}
use Rattle.definition.specs.Chain.{HasField, Kinds}
use Rattle.definition.proofs.Passes.{then-pass, ensured, ensure-false, each-pass, found-stop}
use Rattle.definition.proofs.Described.{told, same-padding}

pub keep-field : (cur rel : Schema) → Kinds cur → Kinds rel → check_fields (types cur) (types rel) ≡ pass
    → {t f : Str} {o z : ℕ} {d : Str} → HasField (types rel) t f o z d → HasField (types cur) t f o z d
unfolding check_fields check_type check_places check_place check_kept type_in place_in type_gone field_gone moved resized redescribed
keep-field cur rel gc gr h w =
    let at-type = each-pass (check_type (types cur)) (types rel) h w.is-parent in
    let is = found-stop (type_in w.parent.name (types cur)) _ _ _ at-type in
    let is-in = find-some (λ (x : TypeLayout). eqs x.name w.parent.name) (types cur) is.1 in
    let at_place = each-pass (check_place w.parent.name is.0.fields) w.parent.fields is.2 w.is-child in
    let at-real = ensure-false w.child.padding _ w.child-real at_place in
    let new = found-stop (place_in w.child.name is.0.fields) _ _ _ at-real in
    let new_in = find-some (λ (x : FieldLayout). eqs x.name w.child.name) is.0.fields new.1 in
    let tests = then-pass _ _ new.2 in
    let first = then-pass _ _ tests.0 in
    let same : new.0.described ≡ w.child.described = eqs→eq _ _ (ensured _ _ _ tests.1) in
    record {
      parent = is.0;
      is-parent = is-in.0;
      parent-name = eqs→eq _ _ is-in.1 ∙ w.parent-name;
      child = new.0;
      is-child = new_in.0;
      child-name = eqs→eq _ _ new_in.1 ∙ w.child-name;
      child-offset = eqb-true _ _ (ensured _ _ _ first.0) ∙ w.child-offset;
      child-size = eqb-true _ _ (ensured _ _ _ first.1) ∙ w.child-size;
      child-described = same ∙ w.child-described;
      child-real =
          same-padding new.0 w.child (told cur gc is-in.0 new_in.0) (told rel gr w.is-parent w.is-child) same ∙ w.child-real;
    }
