use Rattle.verdicts.proofs.verdict.Verdict.number.Goals as goal

pub returns-in-Described : goal.returns-in-Described
returns-in-Described c = rw c.in-Described.is

pub returns-in-NowUnreadable : goal.returns-in-NowUnreadable
returns-in-NowUnreadable c = rw c.in-NowUnreadable.is

pub returns-in-BeforeNaming : goal.returns-in-BeforeNaming
returns-in-BeforeNaming c = rw c.in-BeforeNaming.is

pub returns-in-WasUnreadable : goal.returns-in-WasUnreadable
returns-in-WasUnreadable c = rw c.in-WasUnreadable.is

pub returns-in-NotLater : goal.returns-in-NotLater
returns-in-NotLater c = rw c.in-NotLater.is

pub returns-in-ValueUndated : goal.returns-in-ValueUndated
returns-in-ValueUndated c = rw c.in-ValueUndated.is

pub returns-in-Late : goal.returns-in-Late
returns-in-Late c = rw c.in-Late.is

pub returns-in-Redated : goal.returns-in-Redated
returns-in-Redated c = rw c.in-Redated.is

pub returns-in-Backdated : goal.returns-in-Backdated
returns-in-Backdated c = rw c.in-Backdated.is

pub returns-in-ConstantGone : goal.returns-in-ConstantGone
returns-in-ConstantGone c = rw c.in-ConstantGone.is

pub returns-in-ConstantChanged : goal.returns-in-ConstantChanged
returns-in-ConstantChanged c = rw c.in-ConstantChanged.is

pub returns-in-EnumGone : goal.returns-in-EnumGone
returns-in-EnumGone c = rw c.in-EnumGone.is

pub returns-in-Renumbered : goal.returns-in-Renumbered
returns-in-Renumbered c = rw c.in-Renumbered.is

pub returns-in-Renamed : goal.returns-in-Renamed
returns-in-Renamed c = rw c.in-Renamed.is

pub returns-in-ValueGone : goal.returns-in-ValueGone
returns-in-ValueGone c = rw c.in-ValueGone.is

pub returns-in-BitFieldGone : goal.returns-in-BitFieldGone
returns-in-BitFieldGone c = rw c.in-BitFieldGone.is

pub returns-in-MemberRenamed : goal.returns-in-MemberRenamed
returns-in-MemberRenamed c = rw c.in-MemberRenamed.is

pub returns-in-MemberGone : goal.returns-in-MemberGone
returns-in-MemberGone c = rw c.in-MemberGone.is

pub returns-in-BitMoved : goal.returns-in-BitMoved
returns-in-BitMoved c = rw c.in-BitMoved.is

pub returns-in-WidthChanged : goal.returns-in-WidthChanged
returns-in-WidthChanged c = rw c.in-WidthChanged.is

pub returns-in-BitsLate : goal.returns-in-BitsLate
returns-in-BitsLate c = rw c.in-BitsLate.is

pub returns-in-BitsRedated : goal.returns-in-BitsRedated
returns-in-BitsRedated c = rw c.in-BitsRedated.is

pub returns-in-TypeGone : goal.returns-in-TypeGone
returns-in-TypeGone c = rw c.in-TypeGone.is

pub returns-in-FieldGone : goal.returns-in-FieldGone
returns-in-FieldGone c = rw c.in-FieldGone.is

pub returns-in-Moved : goal.returns-in-Moved
returns-in-Moved c = rw c.in-Moved.is

pub returns-in-Resized : goal.returns-in-Resized
returns-in-Resized c = rw c.in-Resized.is

pub returns-in-Redescribed : goal.returns-in-Redescribed
returns-in-Redescribed c = rw c.in-Redescribed.is

pub returns-in-StandingChanged : goal.returns-in-StandingChanged
returns-in-StandingChanged c = rw c.in-StandingChanged.is

pub returns-in-ShippedFamilyChanged : goal.returns-in-ShippedFamilyChanged
returns-in-ShippedFamilyChanged c = rw c.in-ShippedFamilyChanged.is

pub returns-in-Uncovered : goal.returns-in-Uncovered
returns-in-Uncovered c = rw c.in-Uncovered.is

pub returns-in-NoConstant : goal.returns-in-NoConstant
returns-in-NoConstant c = rw c.in-NoConstant.is

pub returns-in-NoGeneration : goal.returns-in-NoGeneration
returns-in-NoGeneration c = rw c.in-NoGeneration.is

pub returns-in-Unraised : goal.returns-in-Unraised
returns-in-Unraised c = rw c.in-Unraised.is

pub returns-in-Unlisted : goal.returns-in-Unlisted
returns-in-Unlisted c = rw c.in-Unlisted.is

pub returns-in-Leapt : goal.returns-in-Leapt
returns-in-Leapt c = rw c.in-Leapt.is

pub returns-in-Fell : goal.returns-in-Fell
returns-in-Fell c = rw c.in-Fell.is
