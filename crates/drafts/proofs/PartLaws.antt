-- A record written as its two parts at the front of a buffer is read back from there. Assumes nothing.
use mathlib.Core.Path.{◌≡◌, refl, ap, ap₂, ◌∙◌}
use mathlib.Core.List.{◌++◌, append_assoc}
use Prim.Native.Nat.{ℕ, suc, ◌≤◌}
use native.Mathlib.Omega.{arith}
use lib.ListN.{length, drop}
use lib.Seq.{take_at, drop_at}
use borrow.Author.Tests.{le-ltb, le-leb}
use Rattle.record.specs.Base.{Str}
use Rattle.record.specs.Fill.{fronted}
use Rattle.record.specs.Le.{u16_at, u32_at}
use Rattle.record.specs.Reading.{Rec, rec, reading, stream_limit, pool_limit}
use Rattle.record.specs.declared.refusal.Side.TheVariants.{Current}
use Rattle.drafts.specs.Parts.{stated, part, after_part, held_rec, read_held, le4, parts_of}

-- a length in four bytes
stated-is : (n : ℕ) (y : Str) → stated (le4 n ++ y) ≡ n
unfolding stated le4 u32_at u16_at
stated-is n y = rw (le-ltb (suc (suc (suc (suc (length y))))) 4 (omega arith)) (omega arith)

module _ (x y : Str) where
  part-is : part (le4 (length x) ++ (x ++ y)) ≡ x
  unfolding part le4
  part-is = rw (stated-is (length x) (x ++ y)) (take_at x y (length x) refl)

  after_is : after_part (le4 (length x) ++ (x ++ y)) ≡ y
  unfolding after_part le4
  after_is = rw (stated-is (length x) (x ++ y)) (drop_at x y (length x) refl)

module _ (r : Rec) (b : Str) where
  abbrev B : Str
  B = fronted b (parts_of r)

  front-is : B ≡ le4 (length r.stream) ++ (r.stream ++ (le4 (length r.pool) ++ (r.pool ++ drop (length (parts_of r)) b)))
  unfolding fronted parts_of
  front-is = simp append_assoc

  abbrev Y : Str
  Y = le4 (length r.pool) ++ (r.pool ++ drop (length (parts_of r)) b)

  stream-is : part B ≡ r.stream
  stream-is = ap part front-is ∙ part-is r.stream Y

  pool-at : after_part B ≡ Y
  pool-at = ap after_part front-is ∙ after_is r.stream Y

  pool-is : part (after_part B) ≡ r.pool
  pool-is = ap part pool-at ∙ part-is r.pool (drop (length (parts_of r)) b)

  pub held-is : held_rec r.scalars B ≡ r
  unfolding held_rec
  held-is = ap₂ (λ (s p : Str). rec s p r.scalars) stream-is pool-is

  pub held-read : length r.stream ≤ 32768 → length r.pool ≤ 16384 → read_held r.scalars B ≡ reading Current r
  unfolding read_held stream_limit pool_limit
  held-read s p =
      let a : stated B ≡ length r.stream = ap stated front-is ∙ stated-is (length r.stream) (r.stream ++ Y) in
      let c : stated (after_part B) ≡ length r.pool = ap stated pool-at ∙ stated-is (length r.pool) (r.pool ++ drop (length (parts_of r)) b) in
      rw (a, c, le-leb (length r.stream) 32768 s, le-leb (length r.pool) 16384 p) (ap (reading Current) held-is)
