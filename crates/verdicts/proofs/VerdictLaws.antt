-- The code's verdicts: a violation is what comes of it and of anything after it, and its number is the definition's. Written by
-- tools/verdicts.py. Assumes nothing.
use mathlib.Core.Path.{◌≡◌, refl}
use Rattle.std.specs.Prelude.{Result, Ok, Err, ⊤}
use Rattle.record.specs.Base.{Str}
use Rattle.definition.specs.Verdicts as D
use Rattle.definition.specs.Verdicts.{word_number, verdict_number, described, now_unreadable, before_naming, was_unreadable, not_later, value_undated, late, redated, backdated, constant_gone, constant_changed, enum_gone, renumbered, renamed, value_gone, bit_field_gone, member_renamed, member_gone, bit_moved, width_changed, bits_late, bits_redated, type_gone, field_gone, moved, resized, redescribed, standing_changed, shipped_family_changed, uncovered, no_constant, no_generation, unraised, unlisted, leapt, fell}
use Rattle.definition.specs.Pass.{◌then◌}
use Rattle.verdicts.specs.Meaning.{violation, meaning, number_for, number_found}
use Rattle.verdicts.specs.declared.verdict.Verdict.{Verdict}
use Rattle.verdicts.specs.declared.verdict.Verdict.TheVariants.{Described, NowUnreadable, BeforeNaming, WasUnreadable, NotLater, ValueUndated, Late, Redated, Backdated, ConstantGone, ConstantChanged, EnumGone, Renumbered, Renamed, ValueGone, BitFieldGone, MemberRenamed, MemberGone, BitMoved, WidthChanged, BitsLate, BitsRedated, TypeGone, FieldGone, Moved, Resized, Redescribed, StandingChanged, ShippedFamilyChanged, Uncovered, NoConstant, NoGeneration, Unraised, Unlisted, Leapt, Fell}

pub stops : (pool old : Str) (v : Verdict) (w : D.Verdict) → (meaning pool old (Err v) then w) ≡ meaning pool old (Err v)
unfolding meaning violation ◌then◌ described now_unreadable before_naming was_unreadable not_later value_undated late redated backdated constant_gone constant_changed enum_gone renumbered renamed value_gone bit_field_gone member_renamed member_gone bit_moved width_changed bits_late bits_redated type_gone field_gone moved resized redescribed standing_changed shipped_family_changed uncovered no_constant no_generation unraised unlisted leapt fell
stops pool old Described w = refl
stops pool old (NowUnreadable current) w = refl
stops pool old (BeforeNaming current) w = refl
stops pool old (WasUnreadable was) w = refl
stops pool old (NotLater was current) w = refl
stops pool old (ValueUndated owner name current release) w = refl
stops pool old (Late what current names) w = refl
stops pool old (Redated what was names) w = refl
stops pool old (Backdated what copy current) w = refl
stops pool old (ConstantGone name) w = refl
stops pool old (ConstantChanged name was is) w = refl
stops pool old (EnumGone name) w = refl
stops pool old (Renumbered owner name was is) w = refl
stops pool old (Renamed owner name is) w = refl
stops pool old (ValueGone owner name) w = refl
stops pool old (BitFieldGone name) w = refl
stops pool old (MemberRenamed owner name is) w = refl
stops pool old (MemberGone owner name) w = refl
stops pool old (BitMoved owner name was is) w = refl
stops pool old (WidthChanged owner name was is) w = refl
stops pool old (BitsLate what current release) w = refl
stops pool old (BitsRedated what was release) w = refl
stops pool old (TypeGone name) w = refl
stops pool old (FieldGone owner name) w = refl
stops pool old (Moved owner name was is) w = refl
stops pool old (Resized owner name was is) w = refl
stops pool old (Redescribed owner name was is) w = refl
stops pool old (StandingChanged name was is) w = refl
stops pool old (ShippedFamilyChanged name change) w = refl
stops pool old (Uncovered name) w = refl
stops pool old (NoConstant name) w = refl
stops pool old (NoGeneration constant was) w = refl
stops pool old (Unraised name was what constant next) w = refl
stops pool old (Unlisted constant is name) w = refl
stops pool old (Leapt constant was is copy current) w = refl
stops pool old (Fell constant was is) w = refl

number_of_violation : (pool old : Str) (v : Verdict) → number_for v ≡ verdict_number (violation pool old v)
unfolding violation verdict_number word_number described now_unreadable before_naming was_unreadable not_later value_undated late redated backdated constant_gone constant_changed enum_gone renumbered renamed value_gone bit_field_gone member_renamed member_gone bit_moved width_changed bits_late bits_redated type_gone field_gone moved resized redescribed standing_changed shipped_family_changed uncovered no_constant no_generation unraised unlisted leapt fell
number_of_violation pool old Described = refl
number_of_violation pool old (NowUnreadable current) = refl
number_of_violation pool old (BeforeNaming current) = refl
number_of_violation pool old (WasUnreadable was) = refl
number_of_violation pool old (NotLater was current) = refl
number_of_violation pool old (ValueUndated owner name current release) = refl
number_of_violation pool old (Late what current names) = refl
number_of_violation pool old (Redated what was names) = refl
number_of_violation pool old (Backdated what copy current) = refl
number_of_violation pool old (ConstantGone name) = refl
number_of_violation pool old (ConstantChanged name was is) = refl
number_of_violation pool old (EnumGone name) = refl
number_of_violation pool old (Renumbered owner name was is) = refl
number_of_violation pool old (Renamed owner name is) = refl
number_of_violation pool old (ValueGone owner name) = refl
number_of_violation pool old (BitFieldGone name) = refl
number_of_violation pool old (MemberRenamed owner name is) = refl
number_of_violation pool old (MemberGone owner name) = refl
number_of_violation pool old (BitMoved owner name was is) = refl
number_of_violation pool old (WidthChanged owner name was is) = refl
number_of_violation pool old (BitsLate what current release) = refl
number_of_violation pool old (BitsRedated what was release) = refl
number_of_violation pool old (TypeGone name) = refl
number_of_violation pool old (FieldGone owner name) = refl
number_of_violation pool old (Moved owner name was is) = refl
number_of_violation pool old (Resized owner name was is) = refl
number_of_violation pool old (Redescribed owner name was is) = refl
number_of_violation pool old (StandingChanged name was is) = refl
number_of_violation pool old (ShippedFamilyChanged name change) = refl
number_of_violation pool old (Uncovered name) = refl
number_of_violation pool old (NoConstant name) = refl
number_of_violation pool old (NoGeneration constant was) = refl
number_of_violation pool old (Unraised name was what constant next) = refl
number_of_violation pool old (Unlisted constant is name) = refl
number_of_violation pool old (Leapt constant was is copy current) = refl
number_of_violation pool old (Fell constant was is) = refl

pub number_is : (pool old : Str) (found : Result ⊤ Verdict) → number_found found ≡ verdict_number (meaning pool old found)
unfolding meaning verdict_number
number_is pool old (Ok u) = refl
number_is pool old (Err v) = number_of_violation pool old v
