-- In an accepted record every text lies in the pool and is a list of whole characters (02, W-206). Assumes nothing.
use Rattle.std.specs.Prelude.{Option, Some, None, Ok, Err}
use Prim.Native.Nat.{ℕ, zero, suc, ◌+◌, ◌≤◌}
use mathlib.Core.List.Memᴰ
use mathlib.Core.List.{List, [], ◌∷◌, Memᴰ}
use mathlib.Core.Bool.{Bool, true, false, ◌&&◌, ◌||◌, cond, false≢true}
use mathlib.Core.Path.{◌≡◌, refl, sym, subst}
use native.Mathlib.Omega.{arith}
use lib.Dec.{eqb, leb}
use lib.ListN.{length, get_or, drop}
use borrow.Author.Tests.{leb-true, eqb-true}
use Rattle.texts.specs.Utf8.{well_formed, no_tail, odd_place}
use Rattle.texts.proofs.LetterLaws.{accepted-text}
use Rattle.record.specs.Base.{Str, with_some}
use Rattle.record.specs.Stretch.{text_of}
use Rattle.record.specs.Operands.{opt_text_at}
use Rattle.record.specs.Commands.{operands, wide, start, commands_at}
use Rattle.record.specs.CommandTexts.{no_text, texts_from, texts_with, texts_at}
use Rattle.record.specs.Letters.{odd_letter}
use Rattle.record.specs.Judge.{if_absent, flag_fault, text_fault, operand_fault, faults_from, judged_at}
use Rattle.record.specs.Schema.{Schema}
use Rattle.record.specs.Reading.{Rec, Parsed, ok, continued, parse, parsed, stream_limit, pool_limit, concluded, reading, read}
use Rattle.record.specs.declared.text.Text.{Text}
use Rattle.record.specs.declared.command.Cursor.{Cursor}
use Rattle.record.specs.declared.refusal.Side.{Side}
use Rattle.record.specs.declared.judge.Fault.{Fault}
use Rattle.record.specs.declared.judge.Fault.TheVariants.{Fine, Outside}
use Rattle.record.proofs.Basics.{both}
use Rattle.record.proofs.Accepted.{passed, onto-ok, accepting}
use Rattle.record.proofs.Sides.{worse-both}
use Rattle.record.specs.Judge.{Judged}

-- a text lies in a pool, and begins and ends between sequences
pub record Lies (p : Str) (t : Text) : Type 0 where
  pub within : t.start + t.len ≤ length p
  pub begins : no_tail p t.start ≡ true
  pub ends : no_tail p (t.start + t.len) ≡ true

module _ (p : Str) where
  fault-lies : (a : Fault) (t : Text) → text_fault p a (Some t) ≡ Fine → Lies p t
  fault-lies a t h = go (leb (t.start + t.len) (length p) && (no_tail p t.start && no_tail p (t.start + t.len))) refl h
    where
      go : (b : Bool) → (leb (t.start + t.len) (length p) && (no_tail p t.start && no_tail p (t.start + t.len))) ≡ b → cond b Fine Outside ≡ Fine → Lies p t
      go true e g =
          let l = both (leb (t.start + t.len) (length p)) (no_tail p t.start && no_tail p (t.start + t.len)) e in
          let m = both (no_tail p t.start) (no_tail p (t.start + t.len)) l.1 in
          record { within = leb-true (t.start + t.len) (length p) l.0; begins = m.0; ends = m.1 }
      go false e g = absurd (let z : ◌≡◌ {A = ℕ} 0 1 = cc in omega arith)

  module _ (side : Side) (x : Str) where
    text-fault : (i o : ℕ) → no_text o ≡ false → operand_fault side p x i o ≡ Fine → text_fault p (if_absent side x o) (opt_text_at x i) ≡ Fine
    unfolding no_text operand_fault
    text-fault i o q h = go (eqb o 70) (eqb o 78) (eqb o 87) (eqb o 86) q h
      where
        go : (a b c d : Bool) → (a || b || c || d) ≡ false → cond a (flag_fault (get_or x i 0)) (cond b (flag_fault (get_or x i 0)) (cond c Fine (cond d Fine (text_fault p (if_absent side x o) (opt_text_at x i))))) ≡ Fine
            → text_fault p (if_absent side x o) (opt_text_at x i) ≡ Fine
        go true b c d q h = absurd (false≢true (sym q))
        go false true c d q h = absurd (false≢true (sym q))
        go false false true d q h = absurd (false≢true (sym q))
        go false false false true q h = absurd (false≢true (sym q))
        go false false false false q h = h

    -- the texts of a row without fault
    pub row_lies : (i : ℕ) (os : Str) → faults_from side p x i os ≡ Fine → (u : Text) → Memᴰ u (texts_from x i os) → Lies p u
    unfolding faults_from texts_from with_some
    row_lies i [] h u m = absurd (Memᴰ.not-nil m)
    row_lies i (o ∷ os) h u m = go (worse-both (operand_fault side p x i o) (faults_from side p x (i + wide o) os) h) (row_lies (i + wide o) os)
      where
        go : (operand_fault side p x i o ≡ Fine) × (faults_from side p x (i + wide o) os ≡ Fine)
            → (faults_from side p x (i + wide o) os ≡ Fine → (v : Text) → Memᴰ v (texts_from x (i + wide o) os) → Lies p v) → Lies p u
        go k ih = plain (no_text o) refl m
          where
            here : (a : Fault) (t : Option Text) → text_fault p a t ≡ Fine → Memᴰ u (with_some t (texts_from x (i + wide o) os)) → Lies p u
            here a None e n = ih k.1 u n
            here a (Some t) e (Memᴰ.head f) = subst (Lies p) (sym f) (fault-lies a t e)
            here a (Some t) e (Memᴰ.tail n) = ih k.1 u n

            plain : (b : Bool) → no_text o ≡ b → Memᴰ u (cond b (texts_from x (i + wide o) os) (with_some (opt_text_at x i) (texts_from x (i + wide o) os))) → Lies p u
            plain true e n = ih k.1 u n
            plain false e n = here (if_absent side x o) (opt_text_at x i) (text-fault i o e k.0) n

  -- the texts of a judged command
  pub command-lies : (side : Side) (s : Str) (at : ℕ) (row : Str) → operands (get_or s at 0) ≡ Some row → faults_from side p (drop at s) 1 row ≡ Fine
      → (u : Text) → Memᴰ u (texts_at s at) → Lies p u
  unfolding texts_at texts_with
  command-lies side s at row e h u m = row_lies side (drop at s) 1 row h u (rw e at m)

  -- the texts of all commands that are parsed
  pub parse-lies : (k : ℕ) (side : Side) (s : Str) (c : Cursor) (ps : List ℕ) → parse k side s p c ≡ ok ps
      → (at : ℕ) → Memᴰ at ps → (u : Text) → Memᴰ u (texts_at s at) → Lies p u
  unfolding parse continued
  parse-lies zero side s c ps h at m u n = absurd (let z : ◌≡◌ {A = ℕ} 0 1 = cc in omega arith)
  parse-lies (suc k) side s c ps h at m u n = go (parse-lies k side s) (judged_at side s p c) refl h
    where
      go : ((d : Cursor) (qs : List ℕ) → parse k side s p d ≡ ok qs → (b : ℕ) → Memᴰ b qs → (v : Text) → Memᴰ v (texts_at s b) → Lies p v)
          → (j : Judged) → judged_at side s p c ≡ j → continued c.at (parse k side s p) j ≡ ok ps → Lies p u
      go ih (Ok (Some (d, j))) e g =
          let t = onto-ok c.at (parse k side s p j) ps g in
          let w = passed side s p c (Ok (Some (d, j))) tt e in
          found (subst (λ (l : List ℕ). Memᴰ at l) (sym t.whole) m)
        where
          found : Memᴰ at (c.at ∷ (onto-ok c.at (parse k side s p j) ps g).more) → Lies p u
          found (Memᴰ.head f) =
              let w = passed side s p c (Ok (Some (d, j))) tt e in
              command-lies side s c.at w.row w.has-row w.fine u (subst (λ (b : ℕ). Memᴰ u (texts_at s b)) f n)
          found (Memᴰ.tail q) = ih j (onto-ok c.at (parse k side s p j) ps g).more (onto-ok c.at (parse k side s p j) ps g).parsed-so at q u n
      go ih (Ok None) e g = absurd (Memᴰ.not-nil (subst (λ (l : List ℕ). Memᴰ at l) (let z : ps ≡ [] = sym cc in z) m))
      go ih (Err (r, q)) e g = absurd (let z : ◌≡◌ {A = ℕ} 0 1 = cc in omega arith)

-- a pool without fault
pub letters-good : (l : Str) → odd_letter l ≡ None → odd_place l ≡ length l
unfolding odd_letter
letters-good l h = go (eqb (odd_place l) (length l)) refl h
  where
    go : (b : Bool) → eqb (odd_place l) (length l) ≡ b → cond b None (Some (odd_place l)) ≡ None → odd_place l ≡ length l
    go true e g = eqb-true (odd_place l) (length l) e
    go false e g = absurd (let z : ◌≡◌ {A = ℕ} 0 1 = cc in omega arith)

module _ (side : Side) (r : Rec) (t : Schema) (h : reading side r ≡ read t) where
  pub texts-lie : (at : ℕ) → Memᴰ at (commands_at r.stream 0) → (u : Text) → Memᴰ u (texts_at r.stream at) → Lies r.pool u
  unfolding parsed
  texts-lie at m u n = parse-lies r.pool (length r.stream + 1) side r.stream start (commands_at r.stream 0) (accepting side r t h).parsed-all at m u n

  pub pool-good : odd_place r.pool ≡ length r.pool
  unfolding reading concluded
  pool-good = letters-good r.pool (go (leb (length r.stream) stream_limit && leb (length r.pool) pool_limit) (odd_letter r.pool) (parsed side r) h)
    where
      go : (b : Bool) (l : Option ℕ) (x : Parsed) → concluded r b l x ≡ read t → l ≡ None
      go false l x g = absurd (let z : ◌≡◌ {A = ℕ} 0 1 = cc in omega arith)
      go true (Some i) x g = absurd (let z : ◌≡◌ {A = ℕ} 0 1 = cc in omega arith)
      go true None x g = refl

  -- ALL TEXTS ARE WHOLE
  pub whole-texts : (at : ℕ) → Memᴰ at (commands_at r.stream 0) → (u : Text) → Memᴰ u (texts_at r.stream at) → well_formed (text_of r.pool u) ≡ true
  unfolding text_of
  whole-texts at m u n = let l = texts-lie at m u n in accepted-text r.pool u.start u.len pool-good l.begins l.ends
