use Rattle.load.proofs.DrawnLaws.{mod_below, arm-0, arm-1, arm-2, arm-3, arm-4, arm-5, arm-6, arm-7, arm-8, arm-9, arm-10, arm-11, arm-12, arm-13, arm-14, arm-15}
use borrow.Author.Rules.{rules}
use Rattle.load.proofs.drawn.field_as.Goals as goal

pub struct_text-requires : goal.struct_text-requires
struct_text-requires c = search (rules, mod_below)

pub struct_text-requires-in-8 : goal.struct_text-requires-in-8
struct_text-requires-in-8 c = search (rules, mod_below)

pub struct_text-requires-in-9 : goal.struct_text-requires-in-9
struct_text-requires-in-9 c = search (rules, mod_below)

pub returns-in-0 : goal.returns-in-0
returns-in-0 c = search arm-0

pub returns-in-1 : goal.returns-in-1
returns-in-1 c = search arm-1

pub returns-in-2 : goal.returns-in-2
returns-in-2 c = search arm-2

pub returns-in-3 : goal.returns-in-3
returns-in-3 c = search arm-3

pub returns-in-4 : goal.returns-in-4
returns-in-4 c = search arm-4

pub returns-in-5 : goal.returns-in-5
returns-in-5 c = search arm-5

pub returns-in-6 : goal.returns-in-6
returns-in-6 c = search arm-6

pub returns-in-7 : goal.returns-in-7
returns-in-7 c = search arm-7

pub returns-in-8 : goal.returns-in-8
returns-in-8 c = search arm-8

pub returns-in-9 : goal.returns-in-9
returns-in-9 c = search arm-9

pub returns-in-10 : goal.returns-in-10
returns-in-10 c = search arm-10

pub returns-in-11 : goal.returns-in-11
returns-in-11 c = search arm-11

pub returns-in-12 : goal.returns-in-12
returns-in-12 c = search arm-12

pub returns-in-13 : goal.returns-in-13
returns-in-13 c = search arm-13

pub returns-in-14 : goal.returns-in-14
returns-in-14 c = search arm-14

pub returns-in_default : goal.returns-in_default
returns-in_default c = let m = c.in_default.in_default-own.rest in arm-15 _ _ _ _ _ _ _ m.0.0.0.0.0.0.0.0.0.0.0.0.0.0.1 m.0.0.0.0.0.0.0.0.0.0.0.0.0.1 m.0.0.0.0.0.0.0.0.0.0.0.0.1 m.0.0.0.0.0.0.0.0.0.0.0.1 m.0.0.0.0.0.0.0.0.0.0.1 m.0.0.0.0.0.0.0.0.0.1 m.0.0.0.0.0.0.0.0.1 m.0.0.0.0.0.0.0.1 m.0.0.0.0.0.0.1 m.0.0.0.0.0.1 m.0.0.0.0.1 m.0.0.0.1 m.0.0.1 m.0.1 m.1 c.untyped-in_default.ensures
