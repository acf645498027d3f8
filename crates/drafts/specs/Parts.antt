-- A record in a lent buffer (02, W-210: "in parts like the check program's"): the length (W) and the bytes of the stream, then of the
-- pool. Assumes nothing.
use Rattle.std.specs.Prelude.{ℕ, ◌/◌, ◌%◌, List, [], ◌∷◌, ◌++◌, ◌&&◌, cond, length, take, drop, ltb, leb}
use Rattle.record.specs.Base.{Str}
use Rattle.record.specs.Scalars.{Scalar}
use Rattle.record.specs.Le.{u32_at}
use Rattle.record.specs.Reading.{Rec, rec, Reading, refuse, reading, stream_limit, pool_limit}
use Rattle.record.specs.declared.refusal.Side.TheVariants.{Current}
use Rattle.record.specs.declared.refusal.Refusal.TheVariants as R

-- 01: a cut length counts as 0
unfoldable pub stated : Str → ℕ
stated b = cond (ltb (length b) 4) 0 (u32_at b 0)

-- 01: a part that ends early counts as the bytes that came
unfoldable pub part : Str → Str
part b = take (stated b) (drop 4 b)

-- what follows a part
unfoldable pub after_part : Str → Str
after_part b = drop (stated b) (drop 4 b)

-- the record in a buffer
unfoldable pub held_rec : List Scalar → Str → Rec
held_rec w b = rec (part b) (part (after_part b)) w

-- 01: a stated length above the part's limit is 8 even then
unfoldable pub read_held : List Scalar → Str → Reading
read_held w b =
    cond (leb (stated b) stream_limit && leb (stated (after_part b)) pool_limit) (reading Current (held_rec w b)) (refuse R.Long 0)

-- four bytes, little-endian
unfoldable pub le4 : ℕ → Str
le4 n = n % 256 ∷ n / 256 % 256 ∷ n / 65536 % 256 ∷ n / 16777216 ∷ []

-- a record as its two parts
unfoldable pub parts_of : Rec → Str
parts_of r = le4 (length r.stream) ++ (r.stream ++ (le4 (length r.pool) ++ r.pool))
