-- 02, W-210: from a count found afresh, with no other writer and one copy, the kept count equals the number found afresh after any series of edits, and a
-- refused edit changes nothing. Assumes nothing.
use mathlib.Core.Path.{◌≡◌, refl, sym, ap, ◌∙◌, subst}
use mathlib.Core.List.{List, [], ◌∷◌, ◌++◌}
use mathlib.Core.Bool.{Bool, true, false, cond}
use Prim.Native.Nat.{ℕ, ◌≤◌}
use native.Mathlib.Omega.{arith}
use lib.ListN.{length, drop}
use lib.Seq.{length_front, length-take-le}
use lib.Dec.{leb}
use borrow.Author.Tests.{leb-true}
use Rattle.record.specs.Base.{Str, any}
use Rattle.record.specs.Fill.{fronted}
use Rattle.record.specs.Scalars.{Scalar}
use Rattle.record.specs.Schema.{Schema}
use Rattle.record.specs.Commands.{commands_at}
use Rattle.record.specs.Refusals.{refusal_number}
use Rattle.record.specs.Reading.{Rec, Reading, read, refuse, reading, Parsed, ok, bad}
use Rattle.record.specs.declared.refusal.Side.TheVariants.{Current, Released}
use Rattle.record.specs.declared.refusal.Refusal.{Refusal}
use Rattle.record.specs.declared.refusal.Refusal.TheVariants.{Cut, Unknown, Misplaced, Outside, Missing, Flag, Letter, Long, Vast}
use Rattle.record.proofs.Accepted.{accepting}
use Rattle.drafts.specs.Parts.{held_rec, read_held, parts_of}
use Rattle.drafts.specs.Addition.{addition}
use Rattle.drafts.specs.Count.{count_changed}
use Rattle.drafts.specs.Edits.{Edited, refused, declined, no_room, done, named, removed, tail, name_after, added, settled, Edit, adding, removing, added_or, removed_or, editing, edited, edit, counted, count, DraftState, keeping, series}
use Rattle.drafts.proofs.Results.{fit}
use Rattle.drafts.proofs.PartLaws.{held-read}

-- no refusal has the number 0
pub refusal-not0 : (n : Refusal) → refusal_number n ≡ 0 → ⊥
refusal-not0 Cut e = omega arith
refusal-not0 Unknown e = omega arith
refusal-not0 Misplaced e = omega arith
refusal-not0 Outside e = omega arith
refusal-not0 Missing e = omega arith
refusal-not0 Flag e = omega arith
refusal-not0 Letter e = omega arith
refusal-not0 Long e = omega arith
refusal-not0 Vast e = omega arith

abbrev pub state : ℕ → Str → DraftState
state changed b = record { changed = changed; buffer = b }

-- an edit is refused and changes nothing, or it is made: its result is read, it stands in the buffer, and the count is the result's
pub data Way (w : List Scalar) (was : Schema) (changed : ℕ) (b : Str) (e : Edited) : Type 0 where
  not_made : (e.number ≡ 0 → ⊥) → keeping e ≡ state changed b → Way w was changed b e
  made : (r : Rec) (now : Schema) → r.scalars ≡ w → reading Current r ≡ read now → length (parts_of r) ≤ length b
      → e ≡ done (count_changed now was) (fronted b (parts_of r)) → Way w was changed b e

module _ (w : List Scalar) (was : Schema) (changed : ℕ) (b : Str) where
  way-refused : (side p : ℕ) (n : Refusal) → Way w was changed b (refused side n p changed b)
  unfolding refused
  way-refused side p n = not_made (refusal-not0 n) refl

  way-declined : (n : ℕ) → (n ≡ 0 → ⊥) → Way w was changed b (declined n changed b)
  unfolding declined
  way-declined n h = not_made h refl

  way-settled : (r : Rec) (o : Reading) → r.scalars ≡ w → reading Current r ≡ o → Way w was changed b (settled changed b was r o)
  unfolding settled no_room
  way-settled r (refuse n p) s e = way-refused 0 p n
  way-settled r (read now) s e = go (leb (length (parts_of r)) (length b)) refl
    where
      go : (t : Bool) → leb (length (parts_of r)) (length b) ≡ t
          → Way w was changed b (cond t (done (count_changed now was) (fronted b (parts_of r))) (no_room (length (parts_of r)) changed b))
      go true q = made r now s e (leb-true (length (parts_of r)) (length b) q) refl
      go false q = not_made (λ z. omega arith) refl

  way-editing : (r : Rec) (e : Edit) → r.scalars ≡ w → Way w was changed b (editing changed b was r e)
  unfolding editing added_or removed_or added removed
  way-editing r (adding a) s = go (addition a)
    where
      go : (x : Parsed) → Way w was changed b (added_or changed b was r a x)
      go (bad n p) = way-refused 2 p n
      go (ok ps) = held (any (named r.stream r.pool (name_after a (tail ps))) (commands_at r.stream 0))
        where
          held : (t : Bool) → Way w was changed b (cond t (declined 55 changed b) (settled changed b was (added r a) (reading Current (added r a))))
          held true = way-declined 55 (λ z. omega arith)
          held false = way-settled (added r a) (reading Current (added r a)) s refl
  way-editing r (removing n) s = held (any (named r.stream r.pool n) (commands_at r.stream 0))
    where
      held : (t : Bool) → Way w was changed b (cond t (settled changed b was (removed n r) (reading Current (removed n r))) (declined 56 changed b))
      held true = way-settled (removed n r) (reading Current (removed n r)) s refl
      held false = way-declined 56 (λ z. omega arith)

-- the count beside the draft is what is found afresh
pub record Right (w : List Scalar) (copy : Rec) (k : DraftState) : Type 0 where
  pub afresh : count w copy k.buffer ≡ done k.changed k.buffer

module _ (w : List Scalar) (copy : Rec) where
  -- what an edit did
  pub data Did (changed : ℕ) (b : Str) (e : Edited) : Type 0 where
    nothing : (e.number ≡ 0 → ⊥) → keeping e ≡ state changed b → Did changed b e
    something : (was : Schema) → reading Released copy ≡ read was → (r : Rec) (now : Schema) → r.scalars ≡ w → reading Current r ≡ read now → length (parts_of r) ≤ length b
        → e ≡ done (count_changed now was) (fronted b (parts_of r)) → Did changed b e

  pub did : (changed : ℕ) (b : Str) (e : Edit) → Did changed b (edit w copy changed b e)
  unfolding edit edited refused held_rec
  did changed b e = go (read_held w b) (reading Released copy) refl
    where
      way : (was : Schema) → reading Released copy ≡ read was → Way w was changed b (editing changed b was (held_rec w b) e) → Did changed b (editing changed b was (held_rec w b) e)
      way was q (not_made n k) = nothing n k
      way was q (made r now s h l m) = something was q r now s h l m

      go : (x y : Reading) → reading Released copy ≡ y → Did changed b (edited changed b (held_rec w b) e x y)
      go (refuse n p) y q = nothing (refusal-not0 n) refl
      go (read now) (refuse n p) q = nothing (refusal-not0 n) refl
      go (read now) (read was) q = way was q (way-editing w was changed b (held_rec w b) e refl)

  -- the result of an edit that was made is read back from the buffer
  pub read_back : (r : Rec) (now : Schema) (b : Str) → r.scalars ≡ w → reading Current r ≡ read now → read_held w (fronted b (parts_of r)) ≡ read now
  read_back r now b s h =
      ap (λ (v : List Scalar). read_held v (fronted b (parts_of r))) (sym s)
      ∙ held-read r b (accepting Current r now h).stream-short (fit Current r now h).pool-short ∙ h

  pub edit-right : (k : DraftState) (e : Edit) → Right w copy k → Right w copy (keeping (edit w copy k.changed k.buffer e))
  unfolding count counted done
  edit-right k e h = go (did k.changed k.buffer e)
    where
      go : Did k.changed k.buffer (edit w copy k.changed k.buffer e) → Right w copy (keeping (edit w copy k.changed k.buffer e))
      go (nothing n q) = subst (λ (x : DraftState). Right w copy x) (sym q) h
      go (something was c r now s x l m) =
          subst (λ (y : Edited). Right w copy (keeping y)) (sym m)
          (record { afresh = rw (read_back r now k.buffer s x, c) })

  -- any series of edits, accepted or refused
  pub series-right : (es : List Edit) (k : DraftState) → Right w copy k → Right w copy (series w copy k es)
  unfolding series
  series-right [] k h = h
  series-right (e ∷ es) k h = series-right es (keeping (edit w copy k.changed k.buffer e)) (edit-right k e h)

  -- a refused edit changes nothing
  pub refused-nothing : (changed : ℕ) (b : Str) (e : Edit) → ((edit w copy changed b e).number ≡ 0 → ⊥) → keeping (edit w copy changed b e) ≡ state changed b
  unfolding done
  refused-nothing changed b e n = go (did changed b e)
    where
      zero_is : (c : ℕ) (l : Str) (x : Edited) → x ≡ done c l → x.number ≡ 0
      zero_is c l x q = ap (λ (y : Edited). y.number) q

      go : Did changed b (edit w copy changed b e) → keeping (edit w copy changed b e) ≡ state changed b
      go (nothing m q) = q
      go (something was c r now s x l m) = absurd (n (zero_is (count_changed now was) (fronted b (parts_of r)) (edit w copy changed b e) m))

  -- the buffer keeps its length
  pub edit-room : (k : DraftState) (e : Edit) → length (edit w copy k.changed k.buffer e).buffer ≡ length k.buffer
  unfolding done fronted
  edit-room k e = go (did k.changed k.buffer e)
    where
      front : (x b : Str) → length x ≤ length b → length (x ++ drop (length x) b) ≡ length b
      front x b h = length_front b x (length x) (sym (length-take-le (length x) b h))

      go : Did k.changed k.buffer (edit w copy k.changed k.buffer e) → length (edit w copy k.changed k.buffer e).buffer ≡ length k.buffer
      go (nothing n q) = ap (λ (x : DraftState). length x.buffer) q
      go (something was c r now s x l m) = ap (λ (y : Edited). length y.buffer) m ∙ front (parts_of r) k.buffer l
