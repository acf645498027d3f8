-- A template with its arguments put in, and what writing it leaves in the buffer and answers: the code's way to the messages in Verdicts of
-- definition. Assumes nothing.
use Rattle.std.specs.Prelude.{ℕ, ◌≡◌, Bool, true, false, cond, List, [], ◌∷◌, ◌++◌, length, get_or, leb, ltb, Result, Ok, Err}
use Rattle.record.specs.Base.{Str, decimal, signed}
use Rattle.record.specs.Stretch.{text_of}
use Rattle.record.specs.Lists.{opt_of}
use Rattle.record.specs.Describe.{described_as}
use Rattle.record.specs.Fill.{fronted}
use Rattle.layout.specs.Names.{name_of}
use Rattle.definition.specs.Verdicts.{item_text, copy_of, standing_of, change_text}
use Rattle.definition.specs.Constants.{constant_text}
use Rattle.verdicts.specs.Arguments.{item_of, value_meant}
use Rattle.verdicts.specs.declared.template.Arg.{Arg}
use Rattle.verdicts.specs.declared.template.Arg.TheVariants.{Nothing, Byte, Now, Was, Number, Signed, NowItem, WasCopy, NowValue, WasValue}
use Rattle.verdicts.specs.declared.template.Arg.TheVariants.{NowType, WasType, NowShape, WasShape, Standing, NowChange}

-- an argument's bytes, over the two pools
abbrev pub arg_of : Str → Str → Arg → Str
arg_of new old Nothing = []
arg_of new old (Byte b) = b ∷ []
arg_of new old (Now t) = text_of new t
arg_of new old (Was t) = text_of old t
arg_of new old (Number n) = decimal n
arg_of new old (Signed z) = signed z
arg_of new old (NowItem what) = item_text (item_of new what)
arg_of new old (WasCopy release) = copy_of (opt_of old release)
arg_of new old (NowValue value) = constant_text (value_meant new value)
arg_of new old (WasValue value) = constant_text (value_meant old value)
arg_of new old (NowType name) = name_of new name
arg_of new old (WasType name) = name_of old name
arg_of new old (NowShape d) = described_as new d
arg_of new old (WasShape d) = described_as old d
arg_of new old (Standing standalone) = standing_of standalone
arg_of new old (NowChange gained) = change_text (opt_of new gained)

-- what a template's byte stands for: below 32 the argument of that number, else itself
unfoldable pub pick_of : List Arg → ℕ → Arg
pick_of args b = cond (ltb b 32) (get_or args b Nothing) (Byte b)

-- a template with its arguments put in
unfoldable pub filled : Str → Str → List Arg → Str → Str
filled new old args [] = []
filled new old args (b ∷ t) = arg_of new old (pick_of args b) ++ filled new old args t

abbrev pub answer_if : Bool → ℕ → Result ℕ ℕ
answer_if true n = Ok n
answer_if false n = Err n

-- the buffer before, the message, the buffer afterwards and the answer: a message that fits stands at the front, with the rest as it was; else
-- nothing is written
pub record Writes (out xs after : Str) (r : Result ℕ ℕ) : Type 0 where
  pub answer : r ≡ answer_if (leb (length xs) (length out)) (length xs)
  pub bytes : after ≡ cond (leb (length xs) (length out)) (fronted out xs) out
