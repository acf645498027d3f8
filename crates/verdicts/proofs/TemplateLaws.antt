-- A template's bytes, one after the other, and what writing a message answers. Assumes nothing.
use Rattle.std.specs.Prelude.{Ok, Err}
use mathlib.Core.Path.{◌≡◌, refl, sym, ap, ◌∙◌}
use mathlib.Core.List.{List, [], ◌∷◌, ◌++◌, append_assoc, append-nil}
use mathlib.Core.Bool.{true, false}
use Prim.Native.Nat.{ℕ, ◌+◌, ◌*◌, ◌≤◌, ◌<◌}
use native.Mathlib.Nat.{zero-add}
use native.Mathlib.Numerals.{add-one}
use native.Mathlib.Omega.{arith}
use lib.Dec.{leb}
use borrow.Author.Tests.{le-ltb, lt-ltb, le-leb, lt-leb}
use lib.ListN.{length, get_or, take, length-take, get_or-eq_default}
use lib.Seq.{take-suc, take_all}
use Rattle.record.specs.Base.{Str}
use Rattle.record.specs.Fill.{fronted}
use Rattle.record.specs.Write.{Puts}
use Rattle.record.proofs.WriterLaws.{puts_then, puts-as, puts-exact, puts-front}
use Rattle.verdicts.specs.Template.{arg_of, pick_of, filled, Writes}
use Rattle.verdicts.specs.declared.template.Arg.{Arg}
use Rattle.verdicts.specs.declared.template.Arg.TheVariants.{Nothing, Byte}

-- the three kinds of a template's byte
module _ (args : List Arg) (b : ℕ) where
  pub pick-itself : 32 ≤ b → Byte b ≡ pick_of args b
  unfolding pick_of
  pick-itself h = simp (le-ltb b 32 h)

  pub pick-arg : b < 32 → get_or args b Nothing ≡ pick_of args b
  unfolding pick_of
  pick-arg h = simp (lt-ltb b 32 h)

  pub pick-none : b < 32 → length args ≤ b → Nothing ≡ pick_of args b
  unfolding pick_of
  pick-none h l = simp (lt-ltb b 32 h, get_or-eq_default args Nothing {n = b} l)

module _ (new old : Str) where
  pub arg-put : {out after : Str} {at r : ℕ} (a b : Arg) → a ≡ b → Puts out at (arg_of new old b) after r → Puts out at (arg_of new old a) after r
  arg-put a b e p = rw e p

  module _ (args : List Arg) where
    pub piece-itself : {out after : Str} {at r : ℕ} (b : ℕ) → 32 ≤ b → Puts out at (b ∷ []) after r → Puts out at (arg_of new old (pick_of args b)) after r
    piece-itself b h p = arg-put (pick_of args b) (Byte b) (sym (pick-itself args b h)) p

    pub piece-picked : {out after : Str} {at r : ℕ} (b : ℕ) (a : Arg) → a ≡ pick_of args b → Puts out at (arg_of new old a) after r → Puts out at (arg_of new old (pick_of args b)) after r
    piece-picked b a e p = arg-put (pick_of args b) a (sym e) p

    filled-append : (s t : Str) → filled new old args (s ++ t) ≡ filled new old args s ++ filled new old args t
    unfolding filled
    filled-append [] t = refl
    filled-append (b ∷ s) t = simp (filled-append s t, append_assoc)

    -- one byte more of the template
    filled_more : (t : Str) (i : ℕ) (a : Arg) → i < length t → a ≡ pick_of args (get_or t i 0)
        → filled new old args (take i t) ++ arg_of new old a ≡ filled new old args (take (i + 1) t)
    unfolding filled
    filled_more t i a h e =
        let q : filled new old args (get_or t i 0 ∷ []) ≡ arg_of new old a = append-nil _ ∙ ap (arg_of new old) (sym e) in
        rw (add-one, take-suc t i 0 h, filled-append) (ap (λ r. filled new old args (take i t) ++ r) (sym q))

    pub fill_more : {out mid after : Str} {at q r : ℕ} (t : Str) (i : ℕ) (a : Arg) → i < length t → a ≡ pick_of args (get_or t i 0)
        → Puts out at (filled new old args (take i t)) mid q → Puts mid q (arg_of new old a) after r → Puts out at (filled new old args (take (i + 1) t)) after r
    fill_more t i a h e p s = puts-as (puts_then p s) (filled_more t i a h e)

    pub fill-all : {out after : Str} {at r : ℕ} (t : Str) (i : ℕ) → length t ≤ i
        → Puts out at (filled new old args (take i t)) after r → Puts out at (filled new old args t) after r
    fill-all t i h p = puts-as p (ap (filled new old args) (take_all i t h))

-- what writing answers
module _ (out xs after : Str) (n : ℕ) (e : n ≡ length xs) where
  pub writes-whole : n ≤ length out → after ≡ fronted out xs → Writes out xs after (Ok n)
  writes-whole h w =
      let t : leb (length xs) (length out) ≡ true = le-leb (length xs) (length out) (omega arith) in
      record { answer = rw (t, e); bytes = rw t w }

  pub writes-none : length out < n → after ≡ out → Writes out xs after (Err n)
  writes-none h w =
      let t : leb (length xs) (length out) ≡ false = lt-leb (length xs) (length out) (omega arith) in
      record { answer = rw (t, e); bytes = rw t w }

nothing : (l : Str) → length l ≡ 0 → l ≡ []
nothing [] e = refl
nothing (b ∷ l) e = absurd (omega arith)

-- a template is measured where there is no room, and then put
module _ (new old : Str) (args : List Arg) (t x empty : Str) (n : ℕ) (e : x ≡ take 1024 t) (p : Puts [] 0 (filled new old args x) empty n) (near : n ≤ 0 + 559 * length x) where
  measured : n ≡ length (filled new old args (take 1024 t))
  measured =
      let l : length x ≤ 1024 = rw e (simp length-take (omega arith)) in
      puts-exact p (omega arith) ∙ zero-add _ ∙ ap (λ (y : Str). length (filled new old args y)) e

  same : (out : Str) → empty ++ out ≡ out
  same out = ap (λ (l : Str). l ++ out) (nothing empty p.long)

  pub write-none : (out : Str) → length (empty ++ out) < n → Writes out (filled new old args (take 1024 t)) (empty ++ out) (Err n)
  write-none out h = writes-none out _ (empty ++ out) n measured (rw (same out) at h) (same out)

  pub write-whole : (out after : Str) (m : ℕ) → n ≤ length (empty ++ out) → Puts (empty ++ out) 0 (filled new old args x) after m
      → Writes out (filled new old args (take 1024 t)) after (Ok n)
  write-whole out after m h q =
      let f : Puts out 0 (filled new old args (take 1024 t)) after m = rw (same out, e) at q in
      let l : n ≤ length out = rw (same out) at h in
      let k = measured in
      writes-whole out _ after n measured l (puts-front f (omega arith))
