use mathlib.Core.Path.{refl}
use Rattle.record.specs.Base.{bytes}
use Rattle.record.specs.Commands.{operands, wide, widths, width_with, width_of}
use Rattle.record.specs.Judge.{may_stand}
use Rattle.record.proofs.JudgeLaws.{row-known, row_other}
use Rattle.record.proofs.command.Cursor.row.Goals as goal

pub returns-in-1 : goal.returns-in-1
unfolding width_of width_with operands widths wide bytes may_stand
returns-in-1 c = row-known _ _ 1 5 _ _ _ refl refl c.in-1.is c.first.ensures c.takes.ensures

pub returns-in-2 : goal.returns-in-2
unfolding width_of width_with operands widths wide bytes may_stand
returns-in-2 c = row-known _ _ 2 20 _ _ _ refl refl c.in-2.is c.begun.ensures c.takes-in-2.ensures

pub returns-in-3 : goal.returns-in-3
unfolding width_of width_with operands widths wide bytes may_stand
returns-in-3 c = row-known _ _ 3 7 _ _ _ refl refl c.in-3.is c.begun-in-3.ensures c.takes-in-3.ensures

pub returns-in-4 : goal.returns-in-4
unfolding width_of width_with operands widths wide bytes may_stand
returns-in-4 c = row-known _ _ 4 12 _ _ _ refl refl c.in-4.is c.begun-in-4.ensures c.takes-in-4.ensures

pub returns-in-5 : goal.returns-in-5
unfolding width_of width_with operands widths wide bytes may_stand
returns-in-5 c = row-known _ _ 5 15 _ _ _ refl refl c.in-5.is c.after.ensures c.takes-in-5.ensures

pub returns-in-6 : goal.returns-in-6
unfolding width_of width_with operands widths wide bytes may_stand
returns-in-6 c = row-known _ _ 6 11 _ _ _ refl refl c.in-6.is c.begun-in-6.ensures c.takes-in-6.ensures

pub returns-in-7 : goal.returns-in-7
unfolding width_of width_with operands widths wide bytes may_stand
returns-in-7 c = row-known _ _ 7 16 _ _ _ refl refl c.in-7.is c.after-in-7.ensures c.takes-in-7.ensures

pub returns-in-8 : goal.returns-in-8
unfolding width_of width_with operands widths wide bytes may_stand
returns-in-8 c = row-known _ _ 8 10 _ _ _ refl refl c.in-8.is c.begun-in-8.ensures c.takes-in-8.ensures

pub returns-in-9 : goal.returns-in-9
unfolding width_of width_with operands widths wide bytes may_stand
returns-in-9 c = row-known _ _ 9 17 _ _ _ refl refl c.in-9.is c.begun-in-9.ensures c.takes-in-9.ensures

pub returns-in-10 : goal.returns-in-10
unfolding width_of width_with operands widths wide bytes may_stand
returns-in-10 c = row-known _ _ 10 4 _ _ _ refl refl c.in-10.is c.in_family.ensures c.takes-in-10.ensures

pub returns-in-11 : goal.returns-in-11
unfolding width_of width_with operands widths wide bytes may_stand
returns-in-11 c = row-known _ _ 11 33 _ _ _ refl refl c.in-11.is c.in_type.ensures c.takes-in-11.ensures

pub returns-in-12 : goal.returns-in-12
unfolding width_of width_with operands widths wide bytes may_stand
returns-in-12 c = row-known _ _ 12 7 _ _ _ refl refl c.in-12.is c.after-in-12.ensures c.takes-in-12.ensures

pub returns-in-13 : goal.returns-in-13
unfolding width_of width_with operands widths wide bytes may_stand
returns-in-13 c = row-known _ _ 13 7 _ _ _ refl refl c.in-13.is c.begun-in-13.ensures c.takes-in-13.ensures

pub returns-in-14 : goal.returns-in-14
unfolding width_of width_with operands widths wide bytes may_stand
returns-in-14 c = row-known _ _ 14 8 _ _ _ refl refl c.in-14.is c.begun-in-14.ensures c.takes-in-14.ensures

pub returns-in-15 : goal.returns-in-15
unfolding width_of width_with operands widths wide bytes may_stand
returns-in-15 c = row-known _ _ 15 1 _ _ _ refl refl c.in-15.is c.begun-in-15.ensures c.takes-in-15.ensures

pub returns-in-0 : goal.returns-in-0
unfolding width_of width_with operands widths wide bytes may_stand
returns-in-0 c = row-known _ _ 0 0 _ _ _ refl refl c.in-0.is c.begun-in-0.ensures c.takes-in-0.ensures

pub returns-in-16-to-255 : goal.returns-in-16-to-255
returns-in-16-to-255 c = search row_other
