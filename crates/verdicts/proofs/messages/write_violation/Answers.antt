use Rattle.verdicts.specs.Meaning.{violation}
use Rattle.verdicts.proofs.messages.write_violation.Goals as goal

pub write_described-requires : goal.write_described-requires
write_described-requires c = tt

pub write_now_unreadable-requires : goal.write_now_unreadable-requires
write_now_unreadable-requires c = tt

pub write_before_naming-requires : goal.write_before_naming-requires
write_before_naming-requires c = tt

pub write_was_unreadable-requires : goal.write_was_unreadable-requires
write_was_unreadable-requires c = tt

pub write_not_later-requires : goal.write_not_later-requires
write_not_later-requires c = tt

pub write_value_undated-requires : goal.write_value_undated-requires
write_value_undated-requires c = tt

pub write_late-requires : goal.write_late-requires
write_late-requires c = tt

pub write_redated-requires : goal.write_redated-requires
write_redated-requires c = tt

pub write_backdated-requires : goal.write_backdated-requires
write_backdated-requires c = tt

pub write_constant_gone-requires : goal.write_constant_gone-requires
write_constant_gone-requires c = tt

pub write_constant_changed-requires : goal.write_constant_changed-requires
write_constant_changed-requires c = tt

pub write_enum_gone-requires : goal.write_enum_gone-requires
write_enum_gone-requires c = tt

pub write_renumbered-requires : goal.write_renumbered-requires
write_renumbered-requires c = tt

pub write_renamed-requires : goal.write_renamed-requires
write_renamed-requires c = tt

pub write_value_gone-requires : goal.write_value_gone-requires
write_value_gone-requires c = tt

pub write_bit_field_gone-requires : goal.write_bit_field_gone-requires
write_bit_field_gone-requires c = tt

pub write_member_renamed-requires : goal.write_member_renamed-requires
write_member_renamed-requires c = tt

pub write_member_gone-requires : goal.write_member_gone-requires
write_member_gone-requires c = tt

pub write_bit_moved-requires : goal.write_bit_moved-requires
write_bit_moved-requires c = tt

pub write_width_changed-requires : goal.write_width_changed-requires
write_width_changed-requires c = tt

pub write_bits_late-requires : goal.write_bits_late-requires
write_bits_late-requires c = tt

pub write_bits_redated-requires : goal.write_bits_redated-requires
write_bits_redated-requires c = tt

pub write_type_gone-requires : goal.write_type_gone-requires
write_type_gone-requires c = tt

pub write_field_gone-requires : goal.write_field_gone-requires
write_field_gone-requires c = tt

pub write_moved-requires : goal.write_moved-requires
write_moved-requires c = tt

pub write_resized-requires : goal.write_resized-requires
write_resized-requires c = tt

pub write_redescribed-requires : goal.write_redescribed-requires
write_redescribed-requires c = tt

pub write_standing_changed-requires : goal.write_standing_changed-requires
write_standing_changed-requires c = tt

pub write_shipped_family_changed-requires : goal.write_shipped_family_changed-requires
write_shipped_family_changed-requires c = tt

pub write_uncovered-requires : goal.write_uncovered-requires
write_uncovered-requires c = tt

pub write_no_constant-requires : goal.write_no_constant-requires
write_no_constant-requires c = tt

pub write_no_generation-requires : goal.write_no_generation-requires
write_no_generation-requires c = tt

pub write_unraised-requires : goal.write_unraised-requires
write_unraised-requires c = tt

pub write_unlisted-requires : goal.write_unlisted-requires
write_unlisted-requires c = tt

pub write_leapt-requires : goal.write_leapt-requires
write_leapt-requires c = tt

pub write_fell-requires : goal.write_fell-requires
write_fell-requires c = tt

pub returns-in-Described : goal.returns-in-Described
unfolding violation
returns-in-Described c = rw c.in-Described.is c.write_described.ensures

pub returns-in-NowUnreadable : goal.returns-in-NowUnreadable
unfolding violation
returns-in-NowUnreadable c = rw c.in-NowUnreadable.is c.write_now_unreadable.ensures

pub returns-in-BeforeNaming : goal.returns-in-BeforeNaming
unfolding violation
returns-in-BeforeNaming c = rw c.in-BeforeNaming.is c.write_before_naming.ensures

pub returns-in-WasUnreadable : goal.returns-in-WasUnreadable
unfolding violation
returns-in-WasUnreadable c = rw c.in-WasUnreadable.is c.write_was_unreadable.ensures

pub returns-in-NotLater : goal.returns-in-NotLater
unfolding violation
returns-in-NotLater c = rw c.in-NotLater.is c.write_not_later.ensures

pub returns-in-ValueUndated : goal.returns-in-ValueUndated
unfolding violation
returns-in-ValueUndated c = rw c.in-ValueUndated.is c.write_value_undated.ensures

pub returns-in-Late : goal.returns-in-Late
unfolding violation
returns-in-Late c = rw c.in-Late.is c.write_late.ensures

pub returns-in-Redated : goal.returns-in-Redated
unfolding violation
returns-in-Redated c = rw c.in-Redated.is c.write_redated.ensures

pub returns-in-Backdated : goal.returns-in-Backdated
unfolding violation
returns-in-Backdated c = rw c.in-Backdated.is c.write_backdated.ensures

pub returns-in-ConstantGone : goal.returns-in-ConstantGone
unfolding violation
returns-in-ConstantGone c = rw c.in-ConstantGone.is c.write_constant_gone.ensures

pub returns-in-ConstantChanged : goal.returns-in-ConstantChanged
unfolding violation
returns-in-ConstantChanged c = rw c.in-ConstantChanged.is c.write_constant_changed.ensures

pub returns-in-EnumGone : goal.returns-in-EnumGone
unfolding violation
returns-in-EnumGone c = rw c.in-EnumGone.is c.write_enum_gone.ensures

pub returns-in-Renumbered : goal.returns-in-Renumbered
unfolding violation
returns-in-Renumbered c = rw c.in-Renumbered.is c.write_renumbered.ensures

pub returns-in-Renamed : goal.returns-in-Renamed
unfolding violation
returns-in-Renamed c = rw c.in-Renamed.is c.write_renamed.ensures

pub returns-in-ValueGone : goal.returns-in-ValueGone
unfolding violation
returns-in-ValueGone c = rw c.in-ValueGone.is c.write_value_gone.ensures

pub returns-in-BitFieldGone : goal.returns-in-BitFieldGone
unfolding violation
returns-in-BitFieldGone c = rw c.in-BitFieldGone.is c.write_bit_field_gone.ensures

pub returns-in-MemberRenamed : goal.returns-in-MemberRenamed
unfolding violation
returns-in-MemberRenamed c = rw c.in-MemberRenamed.is c.write_member_renamed.ensures

pub returns-in-MemberGone : goal.returns-in-MemberGone
unfolding violation
returns-in-MemberGone c = rw c.in-MemberGone.is c.write_member_gone.ensures

pub returns-in-BitMoved : goal.returns-in-BitMoved
unfolding violation
returns-in-BitMoved c = rw c.in-BitMoved.is c.write_bit_moved.ensures

pub returns-in-WidthChanged : goal.returns-in-WidthChanged
unfolding violation
returns-in-WidthChanged c = rw c.in-WidthChanged.is c.write_width_changed.ensures

pub returns-in-BitsLate : goal.returns-in-BitsLate
unfolding violation
returns-in-BitsLate c = rw c.in-BitsLate.is c.write_bits_late.ensures

pub returns-in-BitsRedated : goal.returns-in-BitsRedated
unfolding violation
returns-in-BitsRedated c = rw c.in-BitsRedated.is c.write_bits_redated.ensures

pub returns-in-TypeGone : goal.returns-in-TypeGone
unfolding violation
returns-in-TypeGone c = rw c.in-TypeGone.is c.write_type_gone.ensures

pub returns-in-FieldGone : goal.returns-in-FieldGone
unfolding violation
returns-in-FieldGone c = rw c.in-FieldGone.is c.write_field_gone.ensures

pub returns-in-Moved : goal.returns-in-Moved
unfolding violation
returns-in-Moved c = rw c.in-Moved.is c.write_moved.ensures

pub returns-in-Resized : goal.returns-in-Resized
unfolding violation
returns-in-Resized c = rw c.in-Resized.is c.write_resized.ensures

pub returns-in-Redescribed : goal.returns-in-Redescribed
unfolding violation
returns-in-Redescribed c = rw c.in-Redescribed.is c.write_redescribed.ensures

pub returns-in-StandingChanged : goal.returns-in-StandingChanged
unfolding violation
returns-in-StandingChanged c = rw c.in-StandingChanged.is c.write_standing_changed.ensures

pub returns-in-ShippedFamilyChanged : goal.returns-in-ShippedFamilyChanged
unfolding violation
returns-in-ShippedFamilyChanged c = rw c.in-ShippedFamilyChanged.is c.write_shipped_family_changed.ensures

pub returns-in-Uncovered : goal.returns-in-Uncovered
unfolding violation
returns-in-Uncovered c = rw c.in-Uncovered.is c.write_uncovered.ensures

pub returns-in-NoConstant : goal.returns-in-NoConstant
unfolding violation
returns-in-NoConstant c = rw c.in-NoConstant.is c.write_no_constant.ensures

pub returns-in-NoGeneration : goal.returns-in-NoGeneration
unfolding violation
returns-in-NoGeneration c = rw c.in-NoGeneration.is c.write_no_generation.ensures

pub returns-in-Unraised : goal.returns-in-Unraised
unfolding violation
returns-in-Unraised c = rw c.in-Unraised.is c.write_unraised.ensures

pub returns-in-Unlisted : goal.returns-in-Unlisted
unfolding violation
returns-in-Unlisted c = rw c.in-Unlisted.is c.write_unlisted.ensures

pub returns-in-Leapt : goal.returns-in-Leapt
unfolding violation
returns-in-Leapt c = rw c.in-Leapt.is c.write_leapt.ensures

pub returns-in-Fell : goal.returns-in-Fell
unfolding violation
returns-in-Fell c = rw c.in-Fell.is c.write_fell.ensures
