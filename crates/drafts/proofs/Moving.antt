-- One command written anew with the starts of its texts moved: it says the same, and is without fault if it was. Assumes nothing.
use Rattle.std.specs.Prelude.{Option, Some, None}
use mathlib.Core.Path.{◌≡◌, refl, sym, ap, ap₂, ◌∙◌}
use mathlib.Core.List.{List, [], ◌∷◌, ◌++◌, append_assoc, Memᴰ}
use mathlib.Core.Bool.{Bool, true, false, cond, false≢true}
use Prim.Native.Nat.{ℕ, zero, suc, ◌+◌, ◌*◌, ◌/◌, ◌%◌, ◌<◌}
use native.Mathlib.Omega.{arith}
use lib.ListN.{length, get_or, length-append}
use lib.Seq.{get_or-append-add, get_or_at}
use lib.Dec.{eqb}
use borrow.Author.Tests.{eqb-true, ne_eqb, le-leb}
use Rattle.record.specs.Base.{Str, with_some}
use Rattle.record.specs.Le.{u16_at}
use Rattle.record.specs.Stretch.{text_of}
use Rattle.record.specs.Operands.{text_at, opt_text, opt_text_at, flag_at}
use Rattle.record.specs.Commands.{wide, widths}
use Rattle.record.specs.Lists.{opt_of}
use Rattle.record.specs.Judge.{worse_of, missing_in, if_absent, text_fault, operand_fault, faults_from}
use Rattle.record.specs.declared.text.Text.{Text}
use Rattle.record.specs.declared.refusal.Side.{Side}
use Rattle.record.specs.declared.judge.Fault.{Fault}
use Rattle.record.specs.declared.judge.Fault.TheVariants.{Fine, Outside, Missing}
use Rattle.record.specs.CommandTexts.{no_text, texts_from}
use Rattle.record.proofs.Sides.{worse-both}
use Rattle.drafts.specs.Content.{text, maybe, plain, Operand, bytes_at, operand_at, operands_at}
use Rattle.drafts.specs.Packing.{moved_start, le2, operand_bytes, row_bytes}
use Rattle.drafts.proofs.Pools.{Moved}

-- bytes in a row ----------------------------------------------------------------------------------------------------------

pub length-bytes : (x : Str) (i n : ℕ) → length (bytes_at x i n) ≡ n
unfolding bytes_at
length-bytes x i zero = refl
length-bytes x i (suc n) = ap suc (length-bytes x (i + 1) n)

-- bytes that stand behind a front are found there
pub bytes-here : (pre ys y : Str) (i : ℕ) → length pre ≡ i → bytes_at (pre ++ (ys ++ y)) i (length ys) ≡ ys
unfolding bytes_at
bytes-here pre [] y i e = refl
bytes-here pre (b ∷ ys) y i e =
    let n : length (pre ++ (b ∷ [])) ≡ i + 1 = length-append pre (b ∷ []) ∙ ap (λ (k : ℕ). k + 1) e in
    ap₂ (λ (h : ℕ) (l : Str). h ∷ l) (get_or_at pre b (ys ++ y) 0 i e)
    (ap (λ (l : Str). bytes_at l (i + 1) (length ys)) (sym (append_assoc pre (b ∷ []) (ys ++ y))) ∙ bytes-here (pre ++ (b ∷ [])) ys y (i + 1) n)

abbrev pub text_as : ℕ → ℕ → Text
text_as a l = record { start = a; len = l }

pub text-here : (pre y : Str) (a b l i : ℕ) → length pre ≡ i → text_at (pre ++ (a ∷ b ∷ l ∷ y)) i ≡ text_as (a + 256 * b) l
unfolding text_at u16_at
text-here pre y a b l i e =
    let z : Str = pre ++ (a ∷ b ∷ l ∷ y) in
    let g0 : get_or z i 0 ≡ a = get_or_at pre a (b ∷ l ∷ y) 0 i e in
    let g1 : get_or z (i + 1) 0 ≡ b = ap (λ (k : ℕ). get_or z (k + 1) 0) (sym e) ∙ get_or-append-add pre (a ∷ b ∷ l ∷ y) 1 0 in
    let g2 : get_or z (i + 2) 0 ≡ l = ap (λ (k : ℕ). get_or z (k + 2) 0) (sym e) ∙ get_or-append-add pre (a ∷ b ∷ l ∷ y) 2 0 in
    ap₂ text_as (ap₂ (λ (m k : ℕ). m + 256 * k) g0 g1) g2

halves : (n : ℕ) → n % 256 + 256 * (n / 256) ≡ n
halves n = omega arith

-- a text with its start moved ------------------------------------------------------------------------------------------------

abbrev pub moved_opt : (ℕ → ℕ) → Option Text → Option Text
moved_opt f None = None
moved_opt f (Some t) = Some (text_as (f t.start) t.len)

pub record IsAbsent (t : Text) : Type 0 where
  pub start_is : t.start ≡ 65535
  pub len_is : t.len ≡ 0

pub opt-absent : (t : Text) → opt_text t ≡ None → IsAbsent t
unfolding opt_text
opt-absent t h = go (eqb t.start 65535) refl (eqb t.len 0) refl h
  where
    go : (a : Bool) → eqb t.start 65535 ≡ a → (b : Bool) → eqb t.len 0 ≡ b → cond a (cond b None (Some t)) (Some t) ≡ None → IsAbsent t
    go true e true g h = record { start_is = eqb-true t.start 65535 e; len_is = eqb-true t.len 0 g }
    go true e false g h = absurd (let z : ◌≡◌ {A = ℕ} 0 1 = cc in omega arith)
    go false e b g h = absurd (let z : ◌≡◌ {A = ℕ} 0 1 = cc in omega arith)

pub opt-given : (t u : Text) → opt_text t ≡ Some u → t ≡ u
unfolding opt_text
opt-given t u h = go (eqb t.start 65535) (eqb t.len 0) h
  where
    go : (a b : Bool) → cond a (cond b None (Some t)) (Some t) ≡ Some u → t ≡ u
    go true true h = absurd (let z : ◌≡◌ {A = ℕ} 0 1 = cc in omega arith)
    go true false h = cc
    go false b h = cc

given-small : (a l : ℕ) → a < 65535 → opt_text (text_as a l) ≡ Some (text_as a l)
unfolding opt_text
given-small a l h = rw (ne_eqb a 65535 (λ e. omega arith))

module _ (f : ℕ → ℕ) (t : Text) where
  pub opt-moved : (o : Option Text) → opt_text t ≡ o → ((u : Text) → o ≡ Some u → f u.start < 65535) → opt_text (text_as (moved_start f o) t.len) ≡ moved_opt f o
  unfolding opt_text
  opt-moved None e h = let a = opt-absent t e in rw a.len_is
  opt-moved (Some u) e h =
      let q = opt-given t u e in
      ap (λ (l : ℕ). opt_text (text_as (f u.start) l)) (ap (λ (x : Text). x.len) q) ∙ given-small (f u.start) u.len (h u refl)

-- one operand ------------------------------------------------------------------------------------------------------------------

-- the letters that are no text's, told apart
data Letter (o : ℕ) : Type 0 where
  flag : eqb o 70 ≡ true → Letter o
  number : eqb o 70 ≡ false → eqb o 78 ≡ true → Letter o
  word : eqb o 70 ≡ false → eqb o 78 ≡ false → eqb o 87 ≡ true → Letter o
  long : eqb o 70 ≡ false → eqb o 78 ≡ false → eqb o 87 ≡ false → eqb o 86 ≡ true → Letter o
  texts : eqb o 70 ≡ false → eqb o 78 ≡ false → eqb o 87 ≡ false → eqb o 86 ≡ false → Letter o

letter : (o : ℕ) → Letter o
letter o = go (eqb o 70) refl (eqb o 78) refl (eqb o 87) refl (eqb o 86) refl
  where
    go : (a : Bool) → eqb o 70 ≡ a → (b : Bool) → eqb o 78 ≡ b → (c : Bool) → eqb o 87 ≡ c → (d : Bool) → eqb o 86 ≡ d → Letter o
    go true e b f c g d h = flag e
    go false e true f c g d h = number e f
    go false e false f true g d h = word e f g
    go false e false f false g true h = long e f g h
    go false e false f false g false h = texts e f g h

module _ (side : Side) (x z : Str) where
  -- what an absent text comes to asks the flag at 4 only for "?"
  absent-same : (o : ℕ) → (eqb o 63 ≡ true → flag_at z 4 ≡ flag_at x 4) → if_absent side z o ≡ if_absent side x o
  unfolding if_absent
  absent-same o q = go (eqb o 63) refl
    where
      go : (t : Bool) → eqb o 63 ≡ t
          → cond (eqb o 79) Fine (cond (eqb o 33) (missing_in side) (cond t (cond (flag_at z 4) Missing Fine) Outside))
          ≡ cond (eqb o 79) Fine (cond (eqb o 33) (missing_in side) (cond t (cond (flag_at x 4) Missing Fine) Outside))
      go true e = rw (q e)
      go false e = refl

-- a text operand, by its optional text before and after
module _ (p p2 : Str) (small : length p2 < 65535) (f : ℕ → ℕ) where
  pub opt_same : (o : Option Text) → ((u : Text) → o ≡ Some u → Moved f p p2 u) → opt_of p2 (moved_opt f o) ≡ opt_of p o
  unfolding text_of
  opt_same None m = refl
  opt_same (Some u) m = ap Some (m u refl).same

  pub fault-same : (absent : Fault) (o : Option Text) → ((u : Text) → o ≡ Some u → Moved f p p2 u) → text_fault p absent o ≡ Fine → text_fault p2 absent (moved_opt f o) ≡ Fine
  fault-same absent None m e = e
  fault-same absent (Some u) m e = let k = m u refl in rw (le-leb (f u.start + u.len) (length p2) k.inside, k.begins, k.ends)

  -- the row ----------------------------------------------------------------------------------------------------------------------

  pub record Same (side : Side) (x z : Str) (i : ℕ) (os : Str) : Type 0 where
    pub says : operands_at p2 z i os ≡ operands_at p x i os
    pub fine : faults_from side p2 z i os ≡ Fine

  module _ (side : Side) (x : Str) where
    plain-fault : (z : Str) (i o : ℕ) → no_text o ≡ true → get_or z i 0 ≡ get_or x i 0 → operand_fault side p x i o ≡ Fine → operand_fault side p2 z i o ≡ Fine
    unfolding operand_fault no_text
    plain-fault z i o q g h = go (letter o)
      where
        go : Letter o → operand_fault side p2 z i o ≡ Fine
        go (flag e) = rw (e, g) (rw e at h)
        go (number e k) = rw (e, k, g) (rw (e, k) at h)
        go (word e k l) = rw (e, k, l)
        go (long e k l n) = rw (e, k, l, n)
        go (texts e k l n) = absurd (false≢true (rw (e, k, l, n) at q))

    plain-says : (pre rest : Str) (i o : ℕ) → length pre ≡ i → bytes_at (pre ++ (bytes_at x i (wide o) ++ rest)) i (wide o) ≡ bytes_at x i (wide o)
    plain-says pre rest i o e =
        ap (λ (n : ℕ). bytes_at (pre ++ (bytes_at x i (wide o) ++ rest)) i n) (sym (length-bytes x i (wide o))) ∙ bytes-here pre (bytes_at x i (wide o)) rest i e

    plain-head : (z : Str) (i o : ℕ) → bytes_at z i (wide o) ≡ bytes_at x i (wide o) → get_or z i 0 ≡ get_or x i 0
    unfolding wide bytes_at
    plain-head z i o h = go (eqb o 70) (eqb o 87) (eqb o 86) (eqb o 78) h
      where
        go : (a b c d : Bool) → bytes_at z i (cond a 1 (cond b 4 (cond c 8 (cond d 5 3)))) ≡ bytes_at x i (cond a 1 (cond b 4 (cond c 8 (cond d 5 3)))) → get_or z i 0 ≡ get_or x i 0
        go true b c d h = cc
        go false true c d h = cc
        go false false true d h = cc
        go false false false true h = cc
        go false false false false h = cc

    plain-same : (pre rest : Str) (i o : ℕ) → length pre ≡ i → no_text o ≡ true → operand_fault side p x i o ≡ Fine
        → (operand_at p2 (pre ++ (operand_bytes f x i o ++ rest)) i o ≡ operand_at p x i o) × (operand_fault side p2 (pre ++ (operand_bytes f x i o ++ rest)) i o ≡ Fine)
    unfolding operand_at operand_bytes
    plain-same pre rest i o e q h =
        let b = plain-says pre rest i o e in
        let g = plain-head (pre ++ (bytes_at x i (wide o) ++ rest)) i o b in
        (rw q (ap plain b), rw q (plain-fault (pre ++ (bytes_at x i (wide o) ++ rest)) i o q g h))

    module _ (z : Str) (i o : ℕ) (tz : text_at z i ≡ text_as (moved_start f (opt_text_at x i)) (get_or x (i + 2) 0)) (m : (u : Text) → opt_text_at x i ≡ Some u → Moved f p p2 u) where
      opt-after : opt_text_at z i ≡ moved_opt f (opt_text_at x i)
      unfolding opt_text_at text_at
      opt-after = ap opt_text tz ∙ opt-moved f (text_at x i) (opt_text (text_at x i)) refl (λ u e. let n = (m u e).inside in omega arith)

      text_says : (q : Option Text) → opt_text_at x i ≡ q → text_fault p Outside q ≡ Fine → text_of p2 (text_at z i) ≡ text_of p (text_at x i)
      unfolding opt_text_at text_of text_at
      text_says None e h = absurd (let z : ◌≡◌ {A = ℕ} 0 1 = cc in omega arith)
      text_says (Some u) e h =
          let q : text_at x i ≡ u = opt-given (text_at x i) u e in
          let n : get_or x (i + 2) 0 ≡ u.len = ap (λ (t : Text). t.len) q in
          let t2 : text_at z i ≡ text_as (f u.start) u.len = tz ∙ ap₂ text_as (ap (moved_start f) e) n in
          ap (text_of p2) t2 ∙ (m u e).same ∙ ap (text_of p) (sym q)

    module _ (i o : ℕ) (q : no_text o ≡ false) (h : operand_fault side p x i o ≡ Fine) where
      text-fault : text_fault p (if_absent side x o) (opt_text_at x i) ≡ Fine
      unfolding operand_fault no_text
      text-fault = go (letter o)
        where
          go : Letter o → text_fault p (if_absent side x o) (opt_text_at x i) ≡ Fine
          go (flag e) = absurd (false≢true (sym q ∙ rw e))
          go (number e k) = absurd (false≢true (sym q ∙ rw (e, k)))
          go (word e k l) = absurd (false≢true (sym q ∙ rw (e, k, l)))
          go (long e k l n) = absurd (false≢true (sym q ∙ rw (e, k, l, n)))
          go (texts e k l n) = rw (e, k, l, n) at h

      module _ (z : Str) (tz : text_at z i ≡ text_as (moved_start f (opt_text_at x i)) (get_or x (i + 2) 0)) (m : (u : Text) → opt_text_at x i ≡ Some u → Moved f p p2 u)
          (a : eqb o 63 ≡ true → flag_at z 4 ≡ flag_at x 4) where
        required : eqb o 84 ≡ true → if_absent side x o ≡ Outside
        unfolding if_absent
        required e = rw (eqb-true o 84 e)

        text-operand : operand_at p2 z i o ≡ operand_at p x i o
        unfolding operand_at
        text-operand = go (eqb o 84) refl
          where
            go : (t : Bool) → eqb o 84 ≡ t
                → cond (no_text o) (plain (bytes_at z i (wide o))) (cond t (text (text_of p2 (text_at z i))) (maybe (opt_of p2 (opt_text_at z i))))
                ≡ cond (no_text o) (plain (bytes_at x i (wide o))) (cond t (text (text_of p (text_at x i))) (maybe (opt_of p (opt_text_at x i))))
            go true e = rw q (ap text (text_says z i o tz m (opt_text_at x i) refl (ap (λ (k : Fault). text_fault p k (opt_text_at x i)) (sym (required e)) ∙ text-fault)))
            go false e = rw q (ap maybe (ap (opt_of p2) (opt-after z i o tz m) ∙ opt_same (opt_text_at x i) m))

        text-faultless : operand_fault side p2 z i o ≡ Fine
        unfolding operand_fault no_text
        text-faultless = go (letter o)
          where
            same : text_fault p2 (if_absent side z o) (opt_text_at z i) ≡ Fine
            same = ap₂ (text_fault p2) (absent-same side x z o a) (opt-after z i o tz m) ∙ fault-same (if_absent side x o) (opt_text_at x i) m text-fault

            go : Letter o → operand_fault side p2 z i o ≡ Fine
            go (flag e) = absurd (false≢true (sym q ∙ rw e))
            go (number e k) = absurd (false≢true (sym q ∙ rw (e, k)))
            go (word e k l) = absurd (false≢true (sym q ∙ rw (e, k, l)))
            go (long e k l n) = absurd (false≢true (sym q ∙ rw (e, k, l, n)))
            go (texts e k l n) = rw (e, k, l, n) same

    -- the text operand as it is written
    text-written : (pre rest : Str) (i o : ℕ) → length pre ≡ i → no_text o ≡ false
        → text_at (pre ++ (operand_bytes f x i o ++ rest)) i ≡ text_as (moved_start f (opt_text_at x i)) (get_or x (i + 2) 0)
    unfolding operand_bytes le2
    text-written pre rest i o e q =
        let st = moved_start f (opt_text_at x i) in
        rw q (text-here pre rest (st % 256) (st / 256) (get_or x (i + 2) 0) i e ∙ ap (λ (k : ℕ). text_as k (get_or x (i + 2) 0)) (halves st))

    text-wide : (o : ℕ) → no_text o ≡ false → wide o ≡ 3
    unfolding no_text wide
    text-wide o q = go (letter o)
      where
        go : Letter o → wide o ≡ 3
        go (flag e) = absurd (false≢true (sym q ∙ rw e))
        go (number e k) = absurd (false≢true (sym q ∙ rw (e, k)))
        go (word e k l) = absurd (false≢true (sym q ∙ rw (e, k, l)))
        go (long e k l n) = absurd (false≢true (sym q ∙ rw (e, k, l, n)))
        go (texts e k l n) = rw (e, k, l, n)

    pub length-operand : (i o : ℕ) → length (operand_bytes f x i o) ≡ wide o
    unfolding operand_bytes le2
    length-operand i o = go (no_text o) refl
      where
        go : (t : Bool) → no_text o ≡ t → length (cond t (bytes_at x i (wide o)) (le2 (moved_start f (opt_text_at x i)) ++ get_or x (i + 2) 0 ∷ [])) ≡ wide o
        go true e = length-bytes x i (wide o)
        go false e = sym (text-wide o e)

    pub length-row : (i : ℕ) (os : Str) → length (row_bytes f x i os) ≡ widths os
    unfolding row_bytes widths
    length-row i [] = refl
    length-row i (o ∷ os) =
        length-append (operand_bytes f x i o) (row_bytes f x (i + wide o) os) ∙ ap₂ (λ (a b : ℕ). a + b) (length-operand i o) (length-row (i + wide o) os)

    -- of the texts of a row
    text-member : (i o : ℕ) (os : Str) (u : Text) → no_text o ≡ false → opt_text_at x i ≡ Some u → Memᴰ u (texts_from x i (o ∷ os))
    unfolding texts_from with_some
    text-member i o os u q e = rw (q, e) (Memᴰ.head refl)

    text-later : (i o : ℕ) (os : Str) (u : Text) → Memᴰ u (texts_from x (i + wide o) os) → Memᴰ u (texts_from x i (o ∷ os))
    unfolding texts_from with_some
    text-later i o os u m = go (no_text o) (opt_text_at x i)
      where
        go : (t : Bool) (k : Option Text) → Memᴰ u (cond t (texts_from x (i + wide o) os) (with_some k (texts_from x (i + wide o) os)))
        go true k = m
        go false None = m
        go false (Some v) = Memᴰ.tail m

    -- one operand, written behind a front
    operand_same : (pre rest : Str) (i o : ℕ) → length pre ≡ i → operand_fault side p x i o ≡ Fine
        → ((u : Text) → no_text o ≡ false → opt_text_at x i ≡ Some u → Moved f p p2 u)
        → (eqb o 63 ≡ true → flag_at (pre ++ (operand_bytes f x i o ++ rest)) 4 ≡ flag_at x 4)
        → (operand_at p2 (pre ++ (operand_bytes f x i o ++ rest)) i o ≡ operand_at p x i o) × (operand_fault side p2 (pre ++ (operand_bytes f x i o ++ rest)) i o ≡ Fine)
    operand_same pre rest i o e h m a = go (no_text o) refl
      where
        go : (t : Bool) → no_text o ≡ t
            → (operand_at p2 (pre ++ (operand_bytes f x i o ++ rest)) i o ≡ operand_at p x i o) × (operand_fault side p2 (pre ++ (operand_bytes f x i o ++ rest)) i o ≡ Fine)
        go true q = plain-same pre rest i o e q h
        go false q =
            let z : Str = pre ++ (operand_bytes f x i o ++ rest) in
            let tz = text-written pre rest i o e q in
            let n : (u : Text) → opt_text_at x i ≡ Some u → Moved f p p2 u = λ u k. m u q k in
            (text-operand i o q h z tz n a, text-faultless i o q h z tz n a)

    pub row_same : (pre rest : Str) (i : ℕ) (os : Str) → length pre ≡ i → faults_from side p x i os ≡ Fine
        → ((u : Text) → Memᴰ u (texts_from x i os) → Moved f p p2 u)
        → ((o : ℕ) → Memᴰ o os → eqb o 63 ≡ true → flag_at (pre ++ (row_bytes f x i os ++ rest)) 4 ≡ flag_at x 4)
        → Same side x (pre ++ (row_bytes f x i os ++ rest)) i os
    unfolding faults_from row_bytes operands_at
    row_same pre rest i [] e h m a = record { says = refl; fine = refl }
    row_same pre rest i (o ∷ os) e h m a =
        let k = worse-both (operand_fault side p x i o) (faults_from side p x (i + wide o) os) h in
        let ob : Str = operand_bytes f x i o in
        let rb : Str = row_bytes f x (i + wide o) os in
        let z : Str = pre ++ ((ob ++ rb) ++ rest) in
        let e1 : z ≡ pre ++ (ob ++ (rb ++ rest)) = ap (λ (y : Str). pre ++ y) (append_assoc ob rb rest) in
        let e2 : z ≡ (pre ++ ob) ++ (rb ++ rest) = e1 ∙ sym (append_assoc pre ob (rb ++ rest)) in
        let n : length (pre ++ ob) ≡ i + wide o = length-append pre ob ∙ ap₂ (λ (c d : ℕ). c + d) e (length-operand i o) in
        let here = operand_same pre (rb ++ rest) i o e k.0 (λ u q t. m u (text-member i o os u q t)) (λ t. ap (λ (y : Str). flag_at y 4) (sym e1) ∙ a o (Memᴰ.head refl) t) in
        let later = row_same (pre ++ ob) rest (i + wide o) os n k.1 (λ u q. m u (text-later i o os u q)) (λ c q t. ap (λ (y : Str). flag_at y 4) (sym e2) ∙ a c (Memᴰ.tail q) t) in
        record {
          says = ap₂ (λ (y : Operand) (l : List Operand). y ∷ l) (ap (λ (y : Str). operand_at p2 y i o) e1 ∙ here.0) (ap (λ (y : Str). operands_at p2 y (i + wide o) os) e2 ∙ later.says);
          fine = ap₂ worse_of (ap (λ (y : Str). operand_fault side p2 y i o) e1 ∙ here.1) (ap (λ (y : Str). faults_from side p2 y (i + wide o) os) e2 ∙ later.fine);
        }
