-- Commands put together anew with the pool bytes that their texts cover (02, W-210: "only the starts of their texts may differ",
-- "pool bytes that no remaining command's text covers count as free"). Assumes nothing.
use Rattle.std.specs.Prelude.{ℕ, ◌+◌, ◌/◌, ◌%◌, List, [], ◌∷◌, ◌++◌, map, Bool, ◌&&◌, cond, length, get_or, take, drop, ltb, leb, Option, Some, None}
use Rattle.record.specs.Base.{Str, any}
use Rattle.record.specs.Fill.{joined}
use Rattle.record.specs.Operands.{opt_text_at}
use Rattle.record.specs.Commands.{operands, wide}
use Rattle.record.specs.declared.text.Text.{Text}
use Rattle.record.specs.CommandTexts.{no_text, texts_at}
use Rattle.drafts.specs.Content.{bytes_at}

-- the texts of commands ---------------------------------------------------------------------------------------------------

unfoldable pub texts_of : Str → List ℕ → List Text
texts_of s [] = []
texts_of s (at ∷ ps) = texts_at s at ++ texts_of s ps

-- the pool ----------------------------------------------------------------------------------------------------------------

unfoldable pub covers : ℕ → Text → Bool
covers i t = leb t.start i && ltb i (t.start + t.len)

unfoldable pub covered : List Text → ℕ → Bool
covered ts i = any (covers i) ts

-- the bytes whose places pass a test, in order; the first has the place i
unfoldable pub kept : (ℕ → Bool) → ℕ → Str → Str
kept c i [] = []
kept c i (b ∷ bs) = let rest = kept c (i + 1) bs in cond (c i) (b ∷ rest) rest

-- how many of them stand before a place
unfoldable pub kept_before : (ℕ → Bool) → Str → ℕ → ℕ
kept_before c p a = length (kept c 0 (take a p))

-- the commands ------------------------------------------------------------------------------------------------------------

-- 01: an absent text has the start FFFF hex
abbrev pub moved_start : (ℕ → ℕ) → Option Text → ℕ
moved_start f None = 65535
moved_start f (Some t) = f t.start

-- two bytes, little-endian
unfoldable pub le2 : ℕ → Str
le2 n = n % 256 ∷ n / 256 ∷ []

-- an operand with the start of its text moved
unfoldable pub operand_bytes : (ℕ → ℕ) → Str → ℕ → ℕ → Str
operand_bytes f x i o = cond (no_text o) (bytes_at x i (wide o)) (le2 (moved_start f (opt_text_at x i)) ++ get_or x (i + 2) 0 ∷ [])

unfoldable pub row_bytes : (ℕ → ℕ) → Str → ℕ → Str → Str
row_bytes f x i [] = []
row_bytes f x i (o ∷ os) = operand_bytes f x i o ++ row_bytes f x (i + wide o) os

unfoldable pub row_with : (ℕ → ℕ) → Str → Option Str → Str
row_with f x None = []
row_with f x (Some os) = row_bytes f x 1 os

unfoldable pub written_at : (ℕ → ℕ) → Str → ℕ → Str
written_at f s at = get_or s at 0 ∷ row_with f (drop at s) (operands (get_or s at 0))

unfoldable pub written : (ℕ → ℕ) → Str → List ℕ → List Str
written f s ps = map (written_at f s) ps

-- where a start moves to, with the covered bytes standing behind base bytes of another pool
unfoldable pub moved_to : ℕ → List Text → Str → ℕ → ℕ
moved_to base ts p a = base + kept_before (covered ts) p a

-- the commands at these places, and the pool bytes that their texts cover
unfoldable pub packed_pool : Str → Str → List ℕ → Str
packed_pool s p ps = let ts = texts_of s ps in kept (covered ts) 0 p

unfoldable pub packed_commands : ℕ → Str → Str → List ℕ → List Str
packed_commands base s p ps = let ts = texts_of s ps in written (moved_to base ts p) s ps

-- commands, and 0F
unfoldable pub stream_of : List Str → Str
stream_of cs = joined cs ++ 15 ∷ []
