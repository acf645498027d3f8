-- The result of adding a type, as the code builds it. Assumes nothing.
use Rattle.std.specs.Prelude.{◌++◌, length, drop}
use Rattle.record.specs.Base.{Str}
use Rattle.record.specs.Stretch.{text_of}
use Rattle.record.specs.Operands.{text_at}
use Rattle.record.specs.Commands.{commands_at}
use Rattle.record.specs.Seek.{after_at}
use Rattle.drafts.specs.Packing.{packed_commands, packed_pool, stream_of}
use Rattle.drafts.specs.Parts.{part, after_part}
use Rattle.drafts.specs.Edits.{tail}

-- the draft's commands and those of an addition after its head
unfoldable pub sum_stream : Str → Str → Str → Str
sum_stream b s p =
    let ps = commands_at (part b) 0 in
    let qs = tail (commands_at s 0) in
    stream_of (packed_commands 0 (part b) (part (after_part b)) ps ++ packed_commands (length (packed_pool (part b) (part (after_part b)) ps)) s p qs)

unfoldable pub sum_pool : Str → Str → Str → Str
sum_pool b s p = packed_pool (part b) (part (after_part b)) (commands_at (part b) 0) ++ packed_pool s p (tail (commands_at s 0))

-- the text that the command after the first begins with
unfoldable pub second_name : Str → Str → Str
second_name s p = text_of p (text_at (drop (after_at s 0) s) 1)
