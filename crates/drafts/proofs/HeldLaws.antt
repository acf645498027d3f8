-- The cases of reading a record in a buffer. Assumes nothing.
use Rattle.std.specs.Prelude.{Result, Ok, Err, ⊤}
use mathlib.Core.Path.{◌≡◌, refl, sym, ap, ap₂, subst, ◌∙◌}
use mathlib.Core.List.{List}
use mathlib.Core.Bool.{Bool, true, false, ◌&&◌, cond}
use Prim.Native.Nat.{ℕ, ◌≤◌, ◌<◌}
use native.Mathlib.Omega.{arith}
use lib.ListN.{length, take, drop, length-take}
use lib.Dec.{leb}
use borrow.Author.Tests.{lt-ltb, le-ltb, le-leb, lt-leb}
use Rattle.record.specs.Base.{Str}
use Rattle.record.specs.Scalars.{Scalar}
use Rattle.record.specs.Le.{u32_at}
use Rattle.record.specs.Reading.{Rec, rec, refuse, reading, stream_limit, pool_limit}
use Rattle.record.specs.Read.{reading_of, Exact, Read}
use Rattle.record.specs.declared.refusal.Side.TheVariants.{Current}
use Rattle.record.specs.declared.refusal.Refusal.TheVariants as R
use Rattle.drafts.specs.Parts.{stated, part, after_part, held_rec, read_held}
use Rattle.drafts.specs.Code.{HeldRead}
use Rattle.record.specs.declared.refusal.Refusal.{Refusal}

module _ (b : Str) where
  pub stated-cut : length b < 4 → 0 ≡ stated b
  unfolding stated
  stated-cut h = rw (lt-ltb (length b) 4 h)

  pub stated-whole : (r : ℕ) → 4 ≤ length b → r ≡ u32_at b 0 → r ≡ stated b
  unfolding stated
  stated-whole r h e = rw (le-ltb (length b) 4 h) e

  module _ (a : Str) (n : ℕ) (d : a ≡ drop 4 b) (e : n ≡ stated b) (r : Str) where
    pub part-read : r ≡ take n a → r ≡ part b
    unfolding part
    part-read h = h ∙ ap₂ (λ (k : ℕ) (l : Str). take k l) e d

    pub after_read : r ≡ drop n a → r ≡ after_part b
    unfolding after_part
    after_read h = h ∙ ap₂ (λ (k : ℕ) (l : Str). drop k l) e d

refusal : (w : List Scalar) (b : Str) → refuse R.Long 0 ≡ read_held w b → HeldRead w b (Err (R.Long, 0))
refusal w b e = record { answer = e; exact = λ z. absurd (other z); short = λ z. absurd (other z); small = λ z. absurd (other z) }
  where
    other : ◌≡◌ {A = Result ⊤ (Refusal × ℕ)} (Err (R.Long, 0)) (Ok tt) → ⊥
    other z = let y : ◌≡◌ {A = ℕ} 0 1 = cc in omega arith

module _ (w : List Scalar) (b : Str) (n : ℕ) (e : n ≡ stated b) where
  pub held-long : 32768 < n → HeldRead w b (Err (R.Long, 0))
  unfolding read_held stream_limit
  held-long h = refusal w b (rw (← e, lt-leb n 32768 h))

  module _ (x : Str) (f : x ≡ after_part b) (m : ℕ) (g : m ≡ stated x) where
    pub held-wide : 16384 < m → HeldRead w b (Err (R.Long, 0))
    unfolding read_held pool_limit
    held-wide h = refusal w b (rw (← f, ← g, lt-leb m 16384 h) (either (leb (stated b) stream_limit)))
      where
        either : (t : Bool) → refuse R.Long 0 ≡ cond (t && false) (reading Current (held_rec w b)) (refuse R.Long 0)
        either true = refl
        either false = refl

    pub held-record : n ≤ 32768 → m ≤ 16384 → (s p : Str) → s ≡ part b → p ≡ part x → (r : Result ⊤ (Refusal × ℕ)) → Read Current (rec s p w) r → HeldRead w b r
    unfolding read_held stream_limit pool_limit held_rec part
    held-record h k s p i j r a =
        let q : rec s p w ≡ held_rec w b = ap₂ (λ (y z : Str). rec y z w) i (j ∙ ap part f) in
        let fits : read_held w b ≡ reading Current (held_rec w b) = rw (← f, ← g, ← e, le-leb n 32768 h, le-leb m 16384 k) in
        record {
          answer = ap (λ (y : Rec). reading_of y r) (sym q) ∙ a.answer ∙ ap (reading Current) q ∙ sym fits;
          exact = λ z. subst Exact q (a.exact z);
          short = λ z. rw (← e) (simp length-take (omega arith));
          small = λ z. rw (← f, ← g) (simp length-take (omega arith));
        }

pub ruleset stated-laws = (stated-cut, stated-whole)

pub ruleset held-laws = (held-long, held-wide, held-record)
