-- One step: enum values and bit members stay. Assumes nothing.
use mathlib.Core.Path.{◌≡◌, ◌∙◌}
use mathlib.Core.List.{List}
use Prim.Native.Nat.{ℕ}
use lib.Dec.{eqb}
use borrow.Author.Tests.{eqb-true}
use Rattle.record.specs.Base.{Str, eqs}
use Rattle.record.specs.Schema.{Enum, EnumValue, BitField, Member}
use Rattle.record.specs.Steps.{enum_in, value_in, bitfield_in, member_in}
use Rattle.record.proofs.Basics.{eqs→eq, find-some}
use Rattle.definition.specs.Verdicts.{pass, enum_gone, renumbered, renamed, value_gone, bit_field_gone, member_renamed, member_gone, bit_moved, width_changed}
use Rattle.definition.specs.Pass.{ensure, empty}
use Rattle.definition.specs.Enums.{check_value, check_values, check_enum, check_enums}
use Rattle.definition.specs.Bitfields.{check_member, check_members, check_bitfield, check_bitfields}
use Rattle.definition.specs.Chain.{HasValue, HasMember}
use Rattle.definition.proofs.Passes.{then-pass, ensured, ensure-false, each-pass, found-pass, found-stop, never, not-empty}

pub keep-value : (is was : List Enum) → check_enums is was ≡ pass → {e v : Str} {n : ℕ} → HasValue was e v n → HasValue is e v n
unfolding check_enums check_enum check_values check_value enum_in value_in enum_gone renumbered renamed value_gone
keep-value is was h w =
    let at_enum = each-pass (check_enum is) was h w.is-parent in
    let at-found = ensure-false (empty w.parent.values) _ (not-empty w.parent.values w.is-child) at_enum in
    let enum = found-stop (enum_in w.parent.name is) _ _ _ at-found in
    let enum-in = find-some (λ (t : Enum). eqs t.name w.parent.name) is enum.1 in
    let at_value = each-pass (check_value w.parent.name enum.0.values) w.parent.values enum.2 w.is-child in
    let new = found-pass (value_in w.child.name enum.0.values) _ _ (never _ _ _ _ _) at_value in
    let new_in = find-some (λ (t : EnumValue). eqs t.name w.child.name) enum.0.values new.1 in
    let same = ensured (eqb new.0.number w.child.number) _ _ new.2 in
    record {
      parent = enum.0;
      is-parent = enum-in.0;
      parent-name = eqs→eq _ _ enum-in.1 ∙ w.parent-name;
      child = new.0;
      is-child = new_in.0;
      child-name = eqs→eq _ _ new_in.1 ∙ w.child-name;
      child-number = eqb-true _ _ same ∙ w.child-number;
    }

pub keep-member : (is was : List BitField) → check_bitfields is was ≡ pass → {b m : Str} {n w : ℕ} → HasMember was b m n w → HasMember is b m n w
unfolding check_bitfields check_bitfield check_members check_member bitfield_in member_in bit_field_gone member_renamed member_gone bit_moved width_changed
keep-member is was h w =
    let at_field = each-pass (check_bitfield is) was h w.is-parent in
    let field = found-stop (bitfield_in w.parent.name is) _ _ _ at_field in
    let field_in = find-some (λ (t : BitField). eqs t.name w.parent.name) is field.1 in
    let at-member = each-pass (check_member w.parent.name field.0.members) w.parent.members field.2 w.is-child in
    let new = found-pass (member_in w.child.name field.0.members) _ _ (never _ _ _ _ _) at-member in
    let new_in = find-some (λ (t : Member). eqs t.name w.child.name) field.0.members new.1 in
    let tests = then-pass (ensure (eqb new.0.bit w.child.bit) _) _ new.2 in
    record {
      parent = field.0;
      is-parent = field_in.0;
      parent-name = eqs→eq _ _ field_in.1 ∙ w.parent-name;
      child = new.0;
      is-child = new_in.0;
      child-name = eqs→eq _ _ new_in.1 ∙ w.child-name;
      child-bit = eqb-true _ _ (ensured _ _ _ tests.0) ∙ w.child-bit;
      child-width = eqb-true _ _ (ensured _ _ _ tests.1) ∙ w.child-width;
    }
