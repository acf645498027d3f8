-- What the code's verdicts mean, over the two pools, in the words of Verdicts of definition, and their numbers. Written by tools/verdicts.py.
-- Assumes nothing.
use Rattle.std.specs.Prelude.{ℕ, Result, Ok, Err, ⊤}
use Rattle.record.specs.Base.{Str}
use Rattle.record.specs.Stretch.{text_of}
use Rattle.record.specs.Lists.{opt_of}
use Rattle.record.specs.Describe.{described_as}
use Rattle.layout.specs.Names.{name_of}
use Rattle.definition.specs.Constants.{constant_text}
use Rattle.verdicts.specs.Arguments.{item_of, value_meant}
use Rattle.definition.specs.Verdicts as D
use Rattle.definition.specs.Verdicts.{described, now_unreadable, before_naming, was_unreadable, not_later, value_undated, late, redated, backdated, constant_gone, constant_changed, enum_gone, renumbered, renamed, value_gone, bit_field_gone, member_renamed, member_gone, bit_moved, width_changed, bits_late, bits_redated, type_gone, field_gone, moved, resized, redescribed, standing_changed, shipped_family_changed, uncovered, no_constant, no_generation, unraised, unlisted, leapt, fell}
use Rattle.verdicts.specs.declared.verdict.Verdict.{Verdict}
use Rattle.verdicts.specs.declared.verdict.Verdict.TheVariants.{Described, NowUnreadable, BeforeNaming, WasUnreadable, NotLater, ValueUndated, Late, Redated, Backdated, ConstantGone, ConstantChanged, EnumGone, Renumbered, Renamed, ValueGone, BitFieldGone, MemberRenamed, MemberGone, BitMoved, WidthChanged, BitsLate, BitsRedated, TypeGone, FieldGone, Moved, Resized, Redescribed, StandingChanged, ShippedFamilyChanged, Uncovered, NoConstant, NoGeneration, Unraised, Unlisted, Leapt, Fell}

-- a violation
unfoldable pub violation : Str → Str → Verdict → D.Verdict
violation pool old Described = described
violation pool old (NowUnreadable current) = now_unreadable (text_of pool current)
violation pool old (BeforeNaming current) = before_naming (text_of pool current)
violation pool old (WasUnreadable was) = was_unreadable (text_of old was)
violation pool old (NotLater was current) = not_later (text_of old was) (text_of pool current)
violation pool old (ValueUndated owner name current release) =
    value_undated (text_of pool owner) (text_of pool name) (text_of pool current) (text_of pool release)
violation pool old (Late what current names) = late (item_of pool what) (text_of pool current) (text_of pool names)
violation pool old (Redated what was names) = redated (item_of pool what) (text_of old was) (text_of pool names)
violation pool old (Backdated what copy current) = backdated (item_of pool what) (opt_of old copy) (text_of pool current)
violation pool old (ConstantGone name) = constant_gone (text_of old name)
violation pool old (ConstantChanged name was is) =
    constant_changed (text_of old name) (constant_text (value_meant old was)) (constant_text (value_meant pool is))
violation pool old (EnumGone name) = enum_gone (text_of old name)
violation pool old (Renumbered owner name was is) = renumbered (text_of old owner) (text_of old name) was is
violation pool old (Renamed owner name is) = renamed (text_of old owner) (text_of old name) (text_of pool is)
violation pool old (ValueGone owner name) = value_gone (text_of old owner) (text_of old name)
violation pool old (BitFieldGone name) = bit_field_gone (text_of old name)
violation pool old (MemberRenamed owner name is) = member_renamed (text_of old owner) (text_of old name) (text_of pool is)
violation pool old (MemberGone owner name) = member_gone (text_of old owner) (text_of old name)
violation pool old (BitMoved owner name was is) = bit_moved (text_of old owner) (text_of old name) was is
violation pool old (WidthChanged owner name was is) = width_changed (text_of old owner) (text_of old name) was is
violation pool old (BitsLate what current release) = bits_late (item_of pool what) (text_of pool current) (text_of pool release)
violation pool old (BitsRedated what was release) = bits_redated (item_of pool what) (text_of old was) (text_of pool release)
violation pool old (TypeGone name) = type_gone (name_of old name)
violation pool old (FieldGone owner name) = field_gone (name_of old owner) (text_of old name)
violation pool old (Moved owner name was is) = moved (name_of old owner) (text_of old name) was is
violation pool old (Resized owner name was is) = resized (name_of old owner) (text_of old name) was is
violation pool old (Redescribed owner name was is) = redescribed (name_of old owner) (text_of old name) (described_as old was) (described_as pool is)
violation pool old (StandingChanged name was is) = standing_changed (text_of pool name) was is
violation pool old (ShippedFamilyChanged name change) = shipped_family_changed (name_of pool name) (opt_of pool change)
violation pool old (Uncovered name) = uncovered (name_of pool name)
violation pool old (NoConstant name) = no_constant (text_of pool name)
violation pool old (NoGeneration constant was) = no_generation (text_of pool constant) was
violation pool old (Unraised name was what constant next) = unraised (text_of pool name) was (name_of pool what) (text_of pool constant) next
violation pool old (Unlisted constant is name) = unlisted (text_of pool constant) is (text_of pool name)
violation pool old (Leapt constant was is copy current) = leapt (text_of pool constant) was is (opt_of old copy) (text_of pool current)
violation pool old (Fell constant was is) = fell (text_of pool constant) was is

-- what a pass answers
unfoldable pub meaning : Str → Str → Result ⊤ Verdict → D.Verdict
meaning pool old (Ok u) = D.pass
meaning pool old (Err v) = violation pool old v

abbrev pub number_for : Verdict → ℕ
number_for Described = 11
number_for (NowUnreadable current) = 12
number_for (BeforeNaming current) = 13
number_for (WasUnreadable was) = 14
number_for (NotLater was current) = 15
number_for (ValueUndated owner name current release) = 16
number_for (Late what current names) = 17
number_for (Redated what was names) = 18
number_for (Backdated what copy current) = 19
number_for (ConstantGone name) = 20
number_for (ConstantChanged name was is) = 21
number_for (EnumGone name) = 22
number_for (Renumbered owner name was is) = 23
number_for (Renamed owner name is) = 24
number_for (ValueGone owner name) = 25
number_for (BitFieldGone name) = 26
number_for (MemberRenamed owner name is) = 27
number_for (MemberGone owner name) = 28
number_for (BitMoved owner name was is) = 29
number_for (WidthChanged owner name was is) = 30
number_for (BitsLate what current release) = 31
number_for (BitsRedated what was release) = 32
number_for (TypeGone name) = 33
number_for (FieldGone owner name) = 34
number_for (Moved owner name was is) = 35
number_for (Resized owner name was is) = 36
number_for (Redescribed owner name was is) = 37
number_for (StandingChanged name was is) = 38
number_for (ShippedFamilyChanged name change) = 39
number_for (Uncovered name) = 40
number_for (NoConstant name) = 41
number_for (NoGeneration constant was) = 42
number_for (Unraised name was what constant next) = 43
number_for (Unlisted constant is name) = 44
number_for (Leapt constant was is copy current) = 45
number_for (Fell constant was is) = 46

abbrev pub number_found : Result ⊤ Verdict → ℕ
number_found (Ok u) = 0
number_found (Err v) = number_for v
