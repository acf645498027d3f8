-- What the put-together arguments of messages mean, over a pool; their texts are those of layout.rs, in Verdicts of definition. Assumes nothing.
use Rattle.std.specs.Prelude.{[]}
use Rattle.record.specs.Base.{Str, or_else}
use Rattle.record.specs.Schema.{Value, integer, words}
use Rattle.record.specs.Stretch.{text_of}
use Rattle.record.specs.Lists.{opt_of}
use Rattle.definition.specs.Verdicts as D
use Rattle.definition.specs.Verdicts.{a_constant, an_enum, a_key, a_bitfield, within}
use Rattle.verdicts.specs.declared.arguments.Item.{Item}
use Rattle.verdicts.specs.declared.arguments.Item.TheVariants.{Constant, Enum, Key, Bitfield, Within}
use Rattle.verdicts.specs.declared.arguments.ConstantValue.{ConstantValue}
use Rattle.verdicts.specs.declared.arguments.ConstantValue.TheVariants.{Integer, Words}

abbrev pub item_of : Str → Item → D.Item
item_of p (Constant n) = a_constant (text_of p n)
item_of p (Enum n) = an_enum (text_of p n)
item_of p (Key n) = a_key (text_of p n)
item_of p (Bitfield n) = a_bitfield (text_of p n)
item_of p (Within o n) = within (text_of p o) (text_of p n)

abbrev pub value_meant : Str → ConstantValue → Value
value_meant p (Integer n) = integer n
value_meant p (Words t) = words (or_else (opt_of p t) [])
