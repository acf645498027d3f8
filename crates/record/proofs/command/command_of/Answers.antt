use Rattle.record.proofs.CommandLaws.{else-command}
use Rattle.record.specs.Commands.{command_of}
use Rattle.record.proofs.command.command_of.Goals as goal

pub returns-in-1 : goal.returns-in-1
unfolding command_of
returns-in-1 c = rw (c.in-1.is, c.head_at.ensures)

pub returns-in-2 : goal.returns-in-2
unfolding command_of
returns-in-2 c = rw (c.in-2.is, c.constant_at.ensures)

pub returns-in-3 : goal.returns-in-3
unfolding command_of
returns-in-3 c = rw (c.in-3.is, c.alias_at.ensures)

pub returns-in-4 : goal.returns-in-4
unfolding command_of
returns-in-4 c = rw (c.in-4.is, c.enum_at.ensures)

pub returns-in-5 : goal.returns-in-5
unfolding command_of
returns-in-5 c = rw (c.in-5.is, c.value_at.ensures)

pub returns-in-6 : goal.returns-in-6
unfolding command_of
returns-in-6 c = rw (c.in-6.is, c.bitfield_at.ensures)

pub returns-in-7 : goal.returns-in-7
unfolding command_of
returns-in-7 c = rw (c.in-7.is, c.member_at.ensures)

pub returns-in-8 : goal.returns-in-8
unfolding command_of
returns-in-8 c = rw (c.in-8.is, c.struct_at.ensures)

pub returns-in-9 : goal.returns-in-9
unfolding command_of
returns-in-9 c = rw (c.in-9.is, c.family_at.ensures)

pub returns-in-10 : goal.returns-in-10
unfolding command_of
returns-in-10 c = rw (c.in-10.is, c.variant_at.ensures)

pub returns-in-11 : goal.returns-in-11
unfolding command_of
returns-in-11 c = rw (c.in-11.is, c.field_at.ensures)

pub returns-in-12 : goal.returns-in-12
unfolding command_of
returns-in-12 c = rw (c.in-12.is, c.key_at.ensures)

pub returns-in-13 : goal.returns-in-13
unfolding command_of
returns-in-13 c = rw (c.in-13.is, c.key_at-in-13.ensures)

pub returns-in_default : goal.returns-in_default
returns-in_default c = search else-command
