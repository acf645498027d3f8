-- Bit fields: check_bitfields of layout.rs, verdicts 26 to 30. Assumes nothing.
use Rattle.std.specs.Prelude.{List, ◌&&◌, ℕ, eqb, Option}
use Rattle.record.specs.Base.{Str, or_else, find}
use Rattle.record.specs.Schema.{BitField, Member}
use Rattle.record.specs.Steps.{bitfield_in, member_in}
use Rattle.definition.specs.Verdicts.{Verdict, bit_field_gone, member_renamed, member_gone, bit_moved, width_changed}
use Rattle.definition.specs.Pass.{◌then◌, ensure, each, on_found}

-- a member without a width is one bit wide
unfoldable pub member_width : Member → ℕ
member_width m = or_else m.width 1

-- the first member with this bit and width
unfoldable pub span_in : ℕ → ℕ → List Member → Option Member
span_in bit width l = find (λ (m : Member). eqb m.bit bit && eqb (member_width m) width) l

-- the bit field's name, the members that are now, and one that was
unfoldable pub check_member : Str → List Member → Member → Verdict
check_member owner is old =
    on_found (member_in old.name is)
    (on_found (span_in old.bit (member_width old) is) (member_gone owner old.name) (λ (new : Member). member_renamed owner old.name new.name))
    (λ (new : Member).
    ensure (eqb new.bit old.bit) (bit_moved owner old.name old.bit new.bit)
    then ensure (eqb (member_width new) (member_width old)) (width_changed owner old.name (member_width old) (member_width new)))

unfoldable pub check_members : Str → List Member → List Member → Verdict
check_members owner is was = each (check_member owner is) was

unfoldable pub check_bitfield : List BitField → BitField → Verdict
check_bitfield is was =
    on_found (bitfield_in was.name is) (bit_field_gone was.name) (λ (new : BitField). check_members was.name new.members was.members)

-- every released bit field against the first current one of its name
unfoldable pub check_bitfields : List BitField → List BitField → Verdict
check_bitfields is was = each (check_bitfield is) was
