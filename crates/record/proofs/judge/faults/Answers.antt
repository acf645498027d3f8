use mathlib.Core.Path.{refl}
use native.Mathlib.Omega.{arith}
use Rattle.record.specs.Base.{bytes}
use Rattle.record.specs.Commands.{operands, wide, widths, width_with, width_of}
use Rattle.record.specs.Judge.{faults_from, faults_of}
use Rattle.record.proofs.JudgeLaws.{command-there, operand-alone, operand-word, faults-unknown}
use Rattle.record.proofs.judge.faults.Goals as goal

pub head_faults-requires : goal.head_faults-requires
unfolding operands bytes wide widths width_with width_of
head_faults-requires c = command-there 1 5 _ _ refl c.in-1.is c.requires

pub constant_faults-requires : goal.constant_faults-requires
unfolding operands bytes wide widths width_with width_of
constant_faults-requires c = command-there 2 20 _ _ refl c.in-2.is c.requires

pub alias_faults-requires : goal.alias_faults-requires
unfolding operands bytes wide widths width_with width_of
alias_faults-requires c = command-there 3 7 _ _ refl c.in-3.is c.requires

pub enum_faults-requires : goal.enum_faults-requires
unfolding operands bytes wide widths width_with width_of
enum_faults-requires c = command-there 4 12 _ _ refl c.in-4.is c.requires

pub value_faults-requires : goal.value_faults-requires
unfolding operands bytes wide widths width_with width_of
value_faults-requires c = command-there 5 15 _ _ refl c.in-5.is c.requires

pub bitfield_faults-requires : goal.bitfield_faults-requires
unfolding operands bytes wide widths width_with width_of
bitfield_faults-requires c = command-there 6 11 _ _ refl c.in-6.is c.requires

pub member_faults-requires : goal.member_faults-requires
unfolding operands bytes wide widths width_with width_of
member_faults-requires c = command-there 7 16 _ _ refl c.in-7.is c.requires

pub struct_faults-requires : goal.struct_faults-requires
unfolding operands bytes wide widths width_with width_of
struct_faults-requires c = command-there 8 10 _ _ refl c.in-8.is c.requires

pub family_faults-requires : goal.family_faults-requires
unfolding operands bytes wide widths width_with width_of
family_faults-requires c = command-there 9 17 _ _ refl c.in-9.is c.requires

pub operand_fault-requires : goal.operand_fault-requires
unfolding operands bytes wide widths width_with width_of
operand_fault-requires c = command-there 10 4 _ _ refl c.in-10.is c.requires

pub field_faults-requires : goal.field_faults-requires
unfolding operands bytes wide widths width_with width_of
field_faults-requires c = command-there 11 33 _ _ refl c.in-11.is c.requires

pub key_faults-requires : goal.key_faults-requires
unfolding operands bytes wide widths width_with width_of
key_faults-requires c = command-there 12 7 _ _ refl c.in-12.is c.requires

pub key_faults-requires-in-13 : goal.key_faults-requires-in-13
unfolding operands bytes wide widths width_with width_of
key_faults-requires-in-13 c = command-there 13 7 _ _ refl c.in-13.is c.requires

pub operand_fault-requires-in-14 : goal.operand_fault-requires-in-14
unfolding operands bytes wide widths width_with width_of
operand_fault-requires-in-14 c = let l = command-there 14 8 _ _ refl c.in-14.is c.requires in omega arith

pub returns-in-1 : goal.returns-in-1
unfolding faults_of operands
returns-in-1 c = rw c.in-1.is c.head_faults.ensures

pub returns-in-2 : goal.returns-in-2
unfolding faults_of operands
returns-in-2 c = rw c.in-2.is c.constant_faults.ensures

pub returns-in-3 : goal.returns-in-3
unfolding faults_of operands
returns-in-3 c = rw c.in-3.is c.alias_faults.ensures

pub returns-in-4 : goal.returns-in-4
unfolding faults_of operands
returns-in-4 c = rw c.in-4.is c.enum_faults.ensures

pub returns-in-5 : goal.returns-in-5
unfolding faults_of operands
returns-in-5 c = rw c.in-5.is c.value_faults.ensures

pub returns-in-6 : goal.returns-in-6
unfolding faults_of operands
returns-in-6 c = rw c.in-6.is c.bitfield_faults.ensures

pub returns-in-7 : goal.returns-in-7
unfolding faults_of operands
returns-in-7 c = rw c.in-7.is c.member_faults.ensures

pub returns-in-8 : goal.returns-in-8
unfolding faults_of operands
returns-in-8 c = rw c.in-8.is c.struct_faults.ensures

pub returns-in-9 : goal.returns-in-9
unfolding faults_of operands
returns-in-9 c = rw c.in-9.is c.family_faults.ensures

pub returns-in-10 : goal.returns-in-10
unfolding faults_of operands bytes
returns-in-10 c = rw c.in-10.is (operand-alone _ _ _ _ _ _ c.operand_fault.ensures)

pub returns-in-11 : goal.returns-in-11
unfolding faults_of operands
returns-in-11 c = rw c.in-11.is c.field_faults.ensures

pub returns-in-12 : goal.returns-in-12
unfolding faults_of operands
returns-in-12 c = rw c.in-12.is c.key_faults.ensures

pub returns-in-13 : goal.returns-in-13
unfolding faults_of operands
returns-in-13 c = rw c.in-13.is c.key_faults-in-13.ensures

pub returns-in-14 : goal.returns-in-14
unfolding faults_of operands bytes
returns-in-14 c = rw c.in-14.is (operand-word _ _ _ _ _ c.operand_fault-in-14.ensures)

pub returns-in-15 : goal.returns-in-15
unfolding faults_of faults_from operands bytes
returns-in-15 c = rw c.in-15.is

pub returns-in-0 : goal.returns-in-0
unfolding faults_of operands
returns-in-0 c = rw c.in-0.in-0-own.keys16

pub returns-in-0-2 : goal.returns-in-0-2
returns-in-0-2 c = search faults-unknown
