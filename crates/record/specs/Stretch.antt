-- Texts: the bytes of a stretch of a pool, a T of 01, Record commands. Assumes nothing.
use Rattle.std.specs.Prelude.{ℕ, List, take, drop}
use Rattle.record.specs.declared.text.Text.{Text}

-- a text's bytes. What reaches past the pool's end is cut off
unfoldable pub text_of : List ℕ → Text → List ℕ
text_of pool t = take t.len (drop t.start pool)
