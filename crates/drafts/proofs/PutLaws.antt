-- Puts one after the other in a loop, and a command written anew operand by operand. Assumes nothing.
use Rattle.std.specs.Prelude.{Option, Some, None}
use mathlib.Core.Path.{◌≡◌, refl, sym, ap, ap₂, ◌∙◌}
use mathlib.Core.List.{List, [], ◌∷◌, ◌++◌, append_assoc, append-nil}
use mathlib.Core.Bool.{Bool, true, false, cond}
use Prim.Native.Nat.{ℕ, zero, suc, ◌+◌, ◌-◌, ◌≤◌, ◌<◌, min}
use native.Mathlib.Numerals.{add-one}
use native.Mathlib.Omega.{arith}
use lib.ListN.{length, get_or, drop, drop_of_length-le}
use lib.Seq.{drop-cons, get_or-drop}
use lib.Dec.{ltb, leb}
use borrow.Author.Tests.{lt-ltb, le-ltb, ne_eqb, ltb-true, ltb-false, leb-true, leb-false}
use Rattle.record.specs.Base.{Str}
use Rattle.record.specs.Fill.{joined}
use Rattle.record.specs.Write.{largest, Puts}
use Rattle.record.specs.Operands.{text_at, opt_text_at}
use Rattle.record.specs.Commands.{operands, wide, commands_at, step_at}
use Rattle.record.specs.Seek.{after_at}
use Rattle.record.specs.declared.text.Text.{Text}
use Rattle.record.proofs.Stream.{commands-next, commands-stop}
use Rattle.record.proofs.SeekLaws.{stepped, ended-there}
use Rattle.record.proofs.WriterLaws.{puts_none, puts_then, puts-as}
use Rattle.record.specs.CommandTexts.{no_text}
use Rattle.drafts.specs.Content.{bytes_at}
use Rattle.drafts.specs.Packing.{le2, moved_start, operand_bytes, row_bytes, row_with, written_at, written}
use Rattle.drafts.specs.Code.{or_none, up_to, rank_at, start_of, text_bytes}
use Rattle.record.specs.Commands.{Step}
use Rattle.record.specs.declared.command as D

-- a loop of puts: some bytes are put, and the rest is left -----------------------------------------------------------------------

pub record Putting (out : Str) (at : ℕ) (whole after : Str) (end : ℕ) (rest : Str) : Type 0 where
  pub front : Str
  pub puts : Puts out at front after end
  pub sum : front ++ rest ≡ whole

pub putting-start : {out whole rest : Str} {at : ℕ} → at ≤ largest → length out ≤ largest → rest ≡ whole → Putting out at whole out at rest
putting-start {out} {whole} {rest} {at} a l e = record { front = []; puts = puts_none out at a l; sum = e }

pub putting-on : {out whole mid after xs rest left : Str} {at q r : ℕ} → Putting out at whole mid q rest → Puts mid q xs after r → rest ≡ xs ++ left → Putting out at whole after r left
putting-on {out} {whole} {mid} {after} {xs} {rest} {left} p a e = record {
  front = p.front ++ xs;
  puts = puts_then p.puts a;
  sum = append_assoc p.front xs left ∙ ap (λ (l : Str). p.front ++ l) (sym e) ∙ p.sum;
}

pub putting-end : {out whole after rest : Str} {at r : ℕ} → Putting out at whole after r rest → rest ≡ [] → Puts out at whole after r
putting-end {out} {whole} {after} {rest} p e = puts-as p.puts (sym (append-nil p.front) ∙ ap (λ (l : Str). p.front ++ l) (sym e) ∙ p.sum)

-- bytes as they are ----------------------------------------------------------------------------------------------------------------

module _ (x : Str) (i n : ℕ) where
  pub plain-on : (b : ℕ) → i < n → b ≡ get_or x i 0 → bytes_at x i (n - i) ≡ (b ∷ []) ++ bytes_at x (i + 1) (n - (i + 1))
  unfolding bytes_at
  plain-on b h e = let z : n - i ≡ suc (n - (i + 1)) = omega arith in rw (z, e)

  pub plain_end : n ≤ i → bytes_at x i (n - i) ≡ []
  unfolding bytes_at
  plain_end h = let z : n - i ≡ 0 = omega arith in rw z

-- starts -----------------------------------------------------------------------------------------------------------------------------

module _ (t : List ℕ) (a : ℕ) where
  pub rank-least : (length t ≡ 0 → ⊥) → (i : ℕ) → i ≡ min a (length t - 1) → get_or t i 0 ≡ rank_at t a
  unfolding rank_at
  rank-least n i e = go (ltb a (length t)) refl
    where
      go : (b : Bool) → ltb a (length t) ≡ b → get_or t i 0 ≡ cond b (get_or t a 0) (get_or t (length t - 1) 0)
      go true h = let k = ltb-true a (length t) h in let q : i ≡ a = omega arith in rw q
      go false h = let k = ltb-false a (length t) h in let q : i ≡ length t - 1 = omega arith in rw q

  module _ (base rank : ℕ) (e : rank ≡ rank_at t a) where
    pub start-least : (r : ℕ) → r ≡ min (base + rank) 65535 → r ≡ start_of base t a
    unfolding start_of
    start-least r f = go (leb (base + rank) 65535) refl ∙ rw (← e)
      where
        go : (b : Bool) → leb (base + rank) 65535 ≡ b → r ≡ cond (leb (base + rank) 65535) (base + rank) 65535
        go true h = let k = leb-true (base + rank) 65535 h in rw h (omega arith)
        go false h = let k = leb-false (base + rank) 65535 h in rw h (omega arith)

pub rank-none : (t : List ℕ) (a : ℕ) → length t ≡ 0 → 0 ≡ rank_at t a
unfolding rank_at
rank-none [] a e = rw (le-ltb a 0 (omega arith))
rank-none (x ∷ t) a e = absurd (omega arith)

pub start-given : (f : ℕ → ℕ) (t : Option Text) (v : Text) (r : ℕ) → t ≡ Some v → r ≡ f v.start → r ≡ moved_start f t
start-given f t v r e h = rw e h

-- operands ---------------------------------------------------------------------------------------------------------------------------

bytes-from : (x : Str) (i k n : ℕ) → bytes_at (drop i x) k n ≡ bytes_at x (i + k) n
unfolding bytes_at
bytes-from x i k zero = refl
bytes-from x i k (suc n) =
    let z : i + (k + 1) ≡ i + k + 1 = omega arith in
    ap₂ (λ (b : ℕ) (l : Str). b ∷ l) (get_or-drop i x k 0) (bytes-from x i (k + 1) n ∙ ap (λ (j : ℕ). bytes_at x j n) z)

module _ (f : ℕ → ℕ) (x y : Str) (i o : ℕ) where
  abbrev Operand : Str
  Operand = operand_bytes f x i o

  module _ (out after : Str) (at r : ℕ) where
    plainly : (n : ℕ) → no_text o ≡ true → wide o ≡ n → y ≡ drop i x → Puts out at (bytes_at y 0 n) after r → Puts out at Operand after r
    unfolding operand_bytes
    plainly n p w e a =
        let z : i + 0 ≡ i = omega arith in
        let q : bytes_at y 0 n ≡ bytes_at x i n = ap (λ (l : Str). bytes_at l 0 n) e ∙ bytes-from x i 0 n ∙ ap (λ (j : ℕ). bytes_at x j n) z in
        puts-as a (rw (p, w) q)

    pub flag-put : o ≡ 70 → y ≡ drop i x → Puts out at (bytes_at y 0 1) after r → Puts out at Operand after r
    unfolding no_text wide
    flag-put h = plainly 1 (rw h) (rw h)

    pub number_put : o ≡ 78 → y ≡ drop i x → Puts out at (bytes_at y 0 5) after r → Puts out at Operand after r
    unfolding no_text wide
    number_put h = plainly 5 (rw h) (rw h)

    pub word-put : o ≡ 87 → y ≡ drop i x → Puts out at (bytes_at y 0 4) after r → Puts out at Operand after r
    unfolding no_text wide
    word-put h = plainly 4 (rw h) (rw h)

    pub value-put : o ≡ 86 → y ≡ drop i x → Puts out at (bytes_at y 0 8) after r → Puts out at Operand after r
    unfolding no_text wide
    value-put h = plainly 8 (rw h) (rw h)

module _ (f : ℕ → ℕ) (x : Str) (i o : ℕ) (h1 : o ≡ 70 → ⊥) (h2 : o ≡ 78 → ⊥) (h3 : o ≡ 87 → ⊥) (h4 : o ≡ 86 → ⊥) where
  pub text-put : (out after : Str) (at r m : ℕ) (t : Option Text) (v : Text) → t ≡ opt_text_at x i → m ≡ moved_start f t → v ≡ text_at x i → Puts out at (text_bytes m v.len) after r → Puts out at (operand_bytes f x i o) after r
  unfolding operand_bytes no_text text_bytes text_at
  text-put out after at r m t v a b d p =
      puts-as p (rw (ne_eqb o 70 h1, ne_eqb o 78 h2, ne_eqb o 87 h3, ne_eqb o 86 h4, ← a, ← b) (ap (λ (z : Text). le2 m ++ z.len ∷ []) d))

-- rows, commands -----------------------------------------------------------------------------------------------------------------------

module _ (f : ℕ → ℕ) (x l : Str) (i k : ℕ) where
  pub row_on : (o w : ℕ) → k < length l → o ≡ get_or l k 0 → w ≡ wide o → row_bytes f x i (drop k l) ≡ operand_bytes f x i o ++ row_bytes f x (i + w) (drop (k + 1) l)
  unfolding row_bytes
  row_on o w h e g = rw (add-one, drop-cons l k 0, ← e, g)

  pub row-end : length l ≤ k → row_bytes f x i (drop k l) ≡ []
  unfolding row_bytes
  row-end h = rw (drop_of_length-le l {i = k} h)

row-with : (f : ℕ → ℕ) (x : Str) (o : Option Str) → row_with f x o ≡ row_bytes f x 1 (or_none o)
unfolding row_with or_none row_bytes
row-with f x None = refl
row-with f x (Some os) = refl

pub command-put : (f : ℕ → ℕ) (s x l out mid after : Str) (place at q r b : ℕ) → b ≡ get_or s place 0 → Puts out at (b ∷ []) mid q → l ≡ or_none (operands b)
    → x ≡ drop place s → Puts mid q (row_bytes f x 1 l) after r → Puts out at (written_at f s place) after r
unfolding written_at
command-put f s x l out mid after place at q r b e p h j a =
    puts-as (puts_then p a) (ap (λ (y : Str). b ∷ y) (ap₂ (λ (y z : Str). row_bytes f y 1 z) j h ∙ sym (row-with f (drop place s) (operands b))) ∙ ap (λ (y : ℕ). y ∷ row_with f (drop place s) (operands y)) e)

-- the commands up to a place --------------------------------------------------------------------------------------------------------------

module _ (s : Str) (place to : ℕ) where
  pub range-end : to ≤ place → up_to to (commands_at s place) ≡ []
  unfolding up_to
  range-end h = go (step_at s place) refl
    where
      go : (t : Step D.Command.Command) → step_at s place ≡ t → up_to to (commands_at s place) ≡ []
      go (Some (c, k)) e = rw (commands-next s place c k e, le-ltb place to h)
      go None e = rw (commands-stop s place e)

  module _ (n : ℕ) (e : n ≡ after_at s place) where
    pub range-stop : n ≡ 0 → up_to to (commands_at s place) ≡ []
    unfolding up_to
    range-stop z = rw (commands-stop s place (ended-there s place n e z))

    pub range-on : place < to → (n ≡ 0 → ⊥) → up_to to (commands_at s place) ≡ place ∷ up_to to (commands_at s n)
    unfolding up_to
    range-on h z =
        let t = stepped s place n e z in
        let c : commands_at s place ≡ place ∷ commands_at s n = commands-next s place t.command t.cursor t.step ∙ ap (λ (j : ℕ). place ∷ commands_at s j) t.to in
        rw (c, lt-ltb place to h)

module _ (f : ℕ → ℕ) (s : Str) (place to : ℕ) where
  abbrev Left : ℕ → Str
  Left at = joined (written f s (up_to to (commands_at s at)))

  pub written-end : to ≤ place → Left place ≡ []
  unfolding written joined
  written-end h = rw (range-end s place to h)

  module _ (n : ℕ) (e : n ≡ after_at s place) where
    pub written-stop : n ≡ 0 → Left place ≡ []
    unfolding written joined
    written-stop z = rw (range-stop s place to n e z)

    pub written_on : place < to → (n ≡ 0 → ⊥) → Left place ≡ written_at f s place ++ Left n
    unfolding written joined
    written_on h z = rw (range-on s place to n e h z)

-- what is left may be said in another way
pub putting-same : {out whole after rest left : Str} {at r : ℕ} → Putting out at whole after r rest → rest ≡ left → Putting out at whole after r left
putting-same {out} {whole} {after} {rest} {left} {at} {r} p e = record { front = p.front; puts = p.puts; sum = ap (λ (l : Str). p.front ++ l) (sym e) ∙ p.sum }
