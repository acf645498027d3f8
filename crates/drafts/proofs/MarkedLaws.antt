-- Marks on the bytes of texts, one text after the other; ranks; and the marked bytes. Assumes nothing.
use Rattle.std.specs.Prelude.{Option, Some, None}
use mathlib.Core.Path.{◌≡◌, refl, sym, ap, ap₂, subst, ◌∙◌}
use mathlib.Core.List.{List, [], ◌∷◌, ◌++◌, append_assoc, append-nil}
use mathlib.Core.Logic.{◌⊎◌, inl, inr}
use mathlib.Core.Bool.{Bool, true, false, ◌&&◌, ◌||◌, not, cond}
use Prim.Native.Nat.{ℕ, suc, ◌+◌, ◌-◌, ◌≤◌, ◌<◌, min}
use native.Mathlib.Numerals.{add-one}
use native.Mathlib.Omega.{arith}
use lib.ListN.{length, get_or, take, drop, replicate, length-append, length-drop, length-replicate, get_or-append, get_or-replicate, drop_of_length-le, set, length-set}
use lib.Seq.{drop-cons, get_or-set_same, get_or-set_other, length-take-le, get_or-take, get_or-drop, get_or-append-add}
use lib.Dec.{eqb, ltb, leb}
use borrow.Author.Tests.{le-leb, lt-leb, lt-ltb, le-ltb, ne_eqb, eq-eqb, eqb-true, eqb-false, ltb-true, ltb-false}
use Rattle.record.specs.Base.{Str, any, with_some}
use Rattle.record.specs.Operands.{opt_text_at}
use Rattle.record.specs.Commands.{operands, wide, commands_at}
use Rattle.record.specs.Seek.{after_at}
use Rattle.record.specs.declared.text.Text.{Text}
use Rattle.record.specs.CommandTexts.{no_text, texts_from, texts_with, texts_at}
use Rattle.drafts.specs.Packing.{texts_of, covers, covered, kept}
use Rattle.drafts.specs.Code.{or_none, up_to, operand_texts, Marks, is_marked, marks_before, Ranked}
use Rattle.drafts.proofs.PutLaws.{range-end, range-stop, range-on}

-- texts one after the other ----------------------------------------------------------------------------------------------------------

pub marks-none : (m : List ℕ) → Marks [] m m
unfolding covered any
marks-none m = record { long = refl; each = λ i h. refl }

pub any_append : {A : Type 0} (q : A → Bool) (xs ys : List A) → any q (xs ++ ys) ≡ (any q xs || any q ys)
unfolding any
any_append q [] ys = refl
any_append q (x ∷ xs) ys = go (q x) (any_append q xs ys)
  where
    go : (b : Bool) → any q (xs ++ ys) ≡ (any q xs || any q ys) → (b || any q (xs ++ ys)) ≡ ((b || any q xs) || any q ys)
    go true e = refl
    go false e = e

pub marks_then : {xs ys : List Text} {a b c : List ℕ} → Marks xs a b → Marks ys b c → Marks (xs ++ ys) a c
unfolding covered
marks_then {xs} {ys} {a} {b} {c} p q = record {
  long = q.long ∙ p.long;
  each = λ i h. let l = p.long in q.each i (omega arith) ∙ (rw (p.each i h, any_append (covers i) xs ys) (both (any (covers i) xs) (any (covers i) ys) (get_or a i 0)));
}
  where
    both : (s t : Bool) (v : ℕ) → cond t 1 (cond s 1 v) ≡ cond (s || t) 1 v
    both true true v = refl
    both true false v = refl
    both false true v = refl
    both false false v = refl

pub record Marking (whole : List Text) (before after : List ℕ) (rest : List Text) : Type 0 where
  pub front : List Text
  pub marks : Marks front before after
  pub sum : front ++ rest ≡ whole

pub marking-start : (whole : List Text) (m : List ℕ) → Marking whole m m whole
marking-start whole m = record { front = []; marks = marks-none m; sum = refl }

pub marking-on : {whole rest xs left : List Text} {m a b : List ℕ} → Marking whole m a rest → Marks xs a b → rest ≡ xs ++ left → Marking whole m b left
marking-on {whole} {rest} {xs} {left} p q e = record {
  front = p.front ++ xs;
  marks = marks_then p.marks q;
  sum = append_assoc p.front xs left ∙ ap (λ (l : List Text). p.front ++ l) (sym e) ∙ p.sum;
}

pub marking-end : {whole rest : List Text} {m a : List ℕ} → Marking whole m a rest → rest ≡ [] → Marks whole m a
marking-end {whole} {rest} {m} {a} p e =
    subst (λ (l : List Text). Marks l m a) (sym (append-nil p.front) ∙ ap (λ (l : List Text). p.front ++ l) (sym e) ∙ p.sum) p.marks

-- one text -----------------------------------------------------------------------------------------------------------------------------

-- the bytes from a start on and below a place are marked
module _ (m : List ℕ) (s e : ℕ) (a : s ≤ e) (b : e ≤ length m) where
  abbrev ones : List ℕ
  ones = replicate (e - s) 1

  abbrev post : List ℕ
  post = drop (e - s) (drop s m)

  abbrev filled : List ℕ
  filled = take s m ++ (ones ++ post)

  front_long : length (take s m) ≡ s
  front_long = length-take-le s m (omega arith)

  filled-long : length filled ≡ length m
  filled-long =
      let n = front_long in
      let r : length ones ≡ e - s = length-replicate (e - s) 1 in
      let x = length-append (take s m) (ones ++ post) in
      let y = length-append ones post in
      let z = length-drop (e - s) (drop s m) in
      let w = length-drop s m in
      omega arith

  filled-low : (q : ℕ) → q < s → get_or filled q 0 ≡ get_or m q 0
  filled-low q h = let n = front_long in get_or-append (take s m) (ones ++ post) 0 q (omega arith) ∙ get_or-take s m q 0 h

  filled-past : (q : ℕ) → s ≤ q → get_or filled q 0 ≡ get_or (ones ++ post) (q - s) 0
  filled-past q h =
      let n = front_long in
      let z : length (take s m) + (q - s) ≡ q = omega arith in
      subst (λ (k : ℕ). get_or filled k 0 ≡ get_or (ones ++ post) (q - s) 0) z (get_or-append-add (take s m) (ones ++ post) (q - s) 0)

  filled-in : (q : ℕ) → s ≤ q → q < e → get_or filled q 0 ≡ 1
  filled-in q h k =
      let r : length ones ≡ e - s = length-replicate (e - s) 1 in
      filled-past q h ∙ get_or-append ones post 0 (q - s) (omega arith) ∙ get_or-replicate (e - s) (q - s) 1 0 (omega arith)

  filled-high : (q : ℕ) → e ≤ q → get_or filled q 0 ≡ get_or m q 0
  filled-high q h =
      let r : length ones ≡ e - s = length-replicate (e - s) 1 in
      let z : length ones + (q - e) ≡ q - s = omega arith in
      let y : s + (e - s + (q - e)) ≡ q = omega arith in
      filled-past q (omega arith)
      ∙ subst (λ (k : ℕ). get_or (ones ++ post) k 0 ≡ get_or post (q - e) 0) z (get_or-append-add ones post (q - e) 0)
      ∙ get_or-drop (e - s) (drop s m) (q - e) 0
      ∙ get_or-drop s m (e - s + (q - e)) 0
      ∙ ap (λ (k : ℕ). get_or m k 0) y

-- the bytes of a text, as far as the marks go
pub text-filled : (m ys : List ℕ) (t : Text) (s e : ℕ) → e ≡ min (length m) (t.start + t.len) → s ≡ min e t.start → ys ≡ replicate (length (take (e - s) (drop s m))) 1
    → Marks (t ∷ []) m (take s m ++ (ys ++ drop (e - s) (drop s m)))
unfolding covered any covers
text-filled m ys t s e p q r =
    let a : s ≤ e = omega arith in
    let b : e ≤ length m = omega arith in
    let l = length-drop s m in
    let n : length (take (e - s) (drop s m)) ≡ e - s = length-take-le (e - s) (drop s m) (omega arith) in
    rw (r, n) (record { long = filled-long m s e a b; each = λ i h. go a b i h (ltb i s) (ltb i e) refl refl })
  where
    unmarked : (x : Bool) (v : ℕ) → v ≡ cond (x && false || false) 1 v
    unmarked true v = refl
    unmarked false v = refl

    go : (a : s ≤ e) (b : e ≤ length m) (i : ℕ) → i < length m → (x y : Bool) → ltb i s ≡ x → ltb i e ≡ y
        → get_or (filled m s e a b) i 0 ≡ cond (leb t.start i && ltb i (t.start + t.len) || false) 1 (get_or m i 0)
    go a b i h true y u v = let k = ltb-true i s u in filled-low m s e a b i k ∙ rw (lt-leb t.start i (omega arith))
    go a b i h false true u v =
        let k = ltb-false i s u in
        let l = ltb-true i e v in
        filled-in m s e a b i k l ∙ rw (le-leb t.start i (omega arith), lt-ltb i (t.start + t.len) (omega arith))
    go a b i h false false u v =
        let k = ltb-false i e v in
        filled-high m s e a b i k ∙ rw (le-ltb i (t.start + t.len) (omega arith)) (unmarked (leb t.start i) (get_or m i 0))

module _ (t : Option Text) (m a : List ℕ) where
  pub given-none : t ≡ None → Marks (with_some t []) m m
  unfolding with_some
  given-none h = rw h (marks-none m)

  pub given-some : (v : Text) → t ≡ Some v → Marks (v ∷ []) m a → Marks (with_some t []) m a
  unfolding with_some
  given-some v e h = rw e h

-- operands, rows, commands ---------------------------------------------------------------------------------------------------------------

pub plain-letter : (o : ℕ) → (o ≡ 70) ⊎ (o ≡ 78) → true ≡ no_text o
unfolding no_text
plain-letter o (inl e) = rw e
plain-letter o (inr e) = rw e

pub wide-letter : (o : ℕ) → 86 ≤ o → o ≤ 87 → true ≡ no_text o
unfolding no_text
wide-letter o h k = go (eqb o 86) refl
  where
    go : (x : Bool) → eqb o 86 ≡ x → true ≡ no_text o
    go true e = rw (eqb-true o 86 e)
    go false e = let p = eqb-false o 86 e in let q : o ≡ 87 = omega arith in rw q

pub text-letter : (o : ℕ) → ((o ≡ 70) ⊎ (o ≡ 78) → ⊥) → (o ≡ 87 → ⊥) → (o ≡ 86 → ⊥) → false ≡ no_text o
unfolding no_text
text-letter o h k l = rw (ne_eqb o 70 (λ e. h (inl e)), ne_eqb o 78 (λ e. h (inr e)), ne_eqb o 87 k, ne_eqb o 86 l)

module _ (x : Str) (i o : ℕ) (b : Bool) (e : b ≡ no_text o) (m : List ℕ) where
  pub operand-plain : b ≡ true → Marks (operand_texts x i o) m m
  unfolding operand_texts
  operand-plain h = rw (← e, h) (marks-none m)

  pub operand-text : (a : List ℕ) (t : Option Text) → b ≡ false → t ≡ opt_text_at x i → Marks (with_some t []) m a → Marks (operand_texts x i o) m a
  unfolding operand_texts
  operand-text a t h k p = rw (← e, h, ← k) p

module _ (x l : Str) (i k : ℕ) where
  pub texts-on : (o w : ℕ) → k < length l → o ≡ get_or l k 0 → w ≡ wide o → texts_from x i (drop k l) ≡ operand_texts x i o ++ texts_from x (i + w) (drop (k + 1) l)
  unfolding texts_from operand_texts with_some
  texts-on o w h e g = rw (add-one, drop-cons l k 0, ← e, g) (go (no_text o) (opt_text_at x i))
    where
      go : (b : Bool) (t : Option Text) → cond b (texts_from x (i + wide o) (drop (suc k) l)) (with_some t (texts_from x (i + wide o) (drop (suc k) l))) ≡ cond b [] (with_some t []) ++ texts_from x (i + wide o) (drop (suc k) l)
      go true t = refl
      go false None = refl
      go false (Some v) = refl

  pub texts-end : length l ≤ k → texts_from x i (drop k l) ≡ []
  unfolding texts_from
  texts-end h = rw (drop_of_length-le l {i = k} h)

texts-with : (x : Str) (o : Option Str) → texts_with x o ≡ texts_from x 1 (or_none o)
unfolding texts_with or_none texts_from
texts-with x None = refl
texts-with x (Some os) = refl

pub command-marked : (s x l m a : Str) (place b : ℕ) → b ≡ get_or s place 0 → l ≡ or_none (operands b) → x ≡ drop place s → Marks (texts_from x 1 l) m a → Marks (texts_at s place) m a
unfolding texts_at
command-marked s x l m a place b e h j p =
    subst (λ (ts : List Text). Marks ts m a) (ap₂ (λ (y z : Str). texts_from y 1 z) j h ∙ sym (texts-with (drop place s) (operands b)) ∙ ap (λ (y : ℕ). texts_with (drop place s) (operands y)) e) p

module _ (s : Str) (place to : ℕ) where
  abbrev Texts : ℕ → List Text
  Texts at = texts_of s (up_to to (commands_at s at))

  pub marks-end : to ≤ place → Texts place ≡ []
  unfolding texts_of
  marks-end h = rw (range-end s place to h)

  module _ (n : ℕ) (e : n ≡ after_at s place) where
    pub marks-stop : n ≡ 0 → Texts place ≡ []
    unfolding texts_of
    marks-stop z = rw (range-stop s place to n e z)

    pub marks-on : place < to → (n ≡ 0 → ⊥) → Texts place ≡ texts_at s place ++ Texts n
    unfolding texts_of
    marks-on h z = rw (range-on s place to n e h z)

-- ranks ----------------------------------------------------------------------------------------------------------------------------------

pub record RankedTo (l before t : List ℕ) (sum i : ℕ) : Type 0 where
  pub long : length t ≡ length before
  pub is_sum : sum ≡ marks_before l i
  pub below : (a : ℕ) → a < i → get_or t a 0 ≡ marks_before l a
  pub small : sum ≤ i
  pub within : i ≤ length l

pub ranked-start : (l t : List ℕ) → RankedTo l t t 0 0
unfolding marks_before
ranked-start l t = record { long = refl; is_sum = refl; below = λ a h. absurd (omega arith); small = omega arith; within = omega arith }

module _ (l before t : List ℕ) (sum i : ℕ) (c : RankedTo l before t sum i) where
  stored : (a : ℕ) → a < i + 1 → i < length t → get_or (set t i sum) a 0 ≡ marks_before l a
  stored a h r = go (eqb a i) refl
    where
      go : (b : Bool) → eqb a i ≡ b → get_or (set t i sum) a 0 ≡ marks_before l a
      go true e = let z = eqb-true a i e in subst (λ (x : ℕ). get_or (set t i sum) x 0 ≡ marks_before l x) (sym z) (get_or-set_same t i sum 0 r ∙ c.is_sum)
      go false e = let ne = eqb-false a i e in get_or-set_other t i a sum 0 ne ∙ c.below a (let z : (a ≡ i → ⊥) = ne in omega arith)

  pub ranked-on : (v b : ℕ) → v ≡ get_or l i 0 → b ≡ cond (not (eqb v 0)) 1 0 → b ≤ 1 → i < length l → length before ≡ length l + 1 → RankedTo l before (set t i sum) (sum + b) (i + 1)
  unfolding marks_before is_marked
  ranked-on v b e d k h r =
      let n = c.long in
      let q = c.small in
      record {
        long = length-set t i sum ∙ n;
        is_sum = ap₂ (λ (x y : ℕ). x + y) c.is_sum (d ∙ ap (λ (x : ℕ). cond (not (eqb x 0)) 1 0) e) ∙ ap (marks_before l) (sym (add-one i));
        below = λ a g. stored a g (omega arith);
        small = omega arith;
        within = omega arith;
      }

  pub ranked-end : length l ≤ i → length before ≡ length l + 1 → Ranked l (set t i sum)
  ranked-end h r =
      let n = c.long in
      let w = c.within in
      record { long = length-set t i sum ∙ n ∙ r; each = λ a g. stored a (omega arith) (omega arith) }

-- the marked bytes -------------------------------------------------------------------------------------------------------------------------

module _ (l p : List ℕ) (i v : ℕ) (e : v ≡ get_or l i 0) where
  pub kept_on : (v ≡ 0 → ⊥) → i < length p → kept (is_marked l) i (drop i p) ≡ (get_or p i 0 ∷ []) ++ kept (is_marked l) (i + 1) (drop (i + 1) p)
  unfolding kept is_marked
  kept_on z h = rw (drop-cons p i 0, ← e, ne_eqb v 0 z, add-one)

  pub kept-over : v ≡ 0 → i < length p → kept (is_marked l) i (drop i p) ≡ kept (is_marked l) (i + 1) (drop (i + 1) p)
  unfolding kept is_marked
  kept-over z h = rw (drop-cons p i 0, ← e, eq-eqb v 0 z, add-one)

pub kept-end : (l p : List ℕ) (i : ℕ) → length p ≤ i → kept (is_marked l) i (drop i p) ≡ []
unfolding kept
kept-end l p i h = rw (drop_of_length-le p {i = i} h)

pub mark-one : (v : ℕ) → (v ≡ 0 → ⊥) → ◌≡◌ {A = ℕ} 1 (cond (not (eqb v 0)) 1 0)
mark-one v h = rw (ne_eqb v 0 h)

pub mark-none : (v : ℕ) → v ≡ 0 → ◌≡◌ {A = ℕ} 0 (cond (not (eqb v 0)) 1 0)
mark-none v h = rw (eq-eqb v 0 h)
