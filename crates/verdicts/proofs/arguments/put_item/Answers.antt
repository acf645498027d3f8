use Rattle.record.specs.Base.{bytes}
use Rattle.verdicts.proofs.ArgumentLaws.{put-constant, put-enum, put-key, put-bitfield, put-within}
use borrow.Author.Rules.{rules}
use Rattle.verdicts.proofs.arguments.put_item.Goals as goal

pub returns-in-Constant : goal.returns-in-Constant
unfolding bytes
returns-in-Constant c = (search put-constant, search rules)

pub returns-in-Enum : goal.returns-in-Enum
unfolding bytes
returns-in-Enum c = (search put-enum, search rules)

pub returns-in-Key : goal.returns-in-Key
unfolding bytes
returns-in-Key c = (search put-key, search rules)

pub returns-in-Bitfield : goal.returns-in-Bitfield
unfolding bytes
returns-in-Bitfield c = (search put-bitfield, search rules)

pub returns-in-Within : goal.returns-in-Within
unfolding bytes
returns-in-Within c = (search put-within, search rules)
