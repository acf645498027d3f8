-- The result of an edit read and written. Assumes nothing.
use Rattle.std.specs.Prelude.{Ok, Err, Option, Some, None, Result, ⊤}
use mathlib.Core.Path.{◌≡◌, refl, sym, ap, ap₂, subst, ◌∙◌}
use mathlib.Core.List.{List, [], ◌∷◌}
use mathlib.Core.Bool.{Bool, true, false, ◌&&◌}
use Prim.Native.Nat.{ℕ, ◌+◌, ◌≤◌, ◌<◌}
use native.Mathlib.Omega.{arith}
use lib.ListN.{length, take, drop}
use lib.Seq.{take_at}
use lib.Dec.{leb}
use borrow.Author.Tests.{le-leb, lt-leb, leb-true, leb-false}
use Rattle.record.specs.Base.{Str, any}
use Rattle.record.specs.Letters.{odd_letter}
use Rattle.record.specs.Fill.{fronted}
use Rattle.record.specs.Scalars.{Scalar, scalars_of, built_in, built_in_rows}
use Rattle.record.specs.Schema.{Schema}
use Rattle.record.specs.Write.{largest, Puts}
use Rattle.record.specs.Commands.{commands_at}
use Rattle.record.specs.Reading.{Rec, rec, schema_of, read, refuse, reading, concluded, parsed, stream_limit, pool_limit}
use Rattle.record.specs.Read.{reading_of, Read}
use Rattle.record.specs.declared.refusal.Side.TheVariants.{Current}
use Rattle.record.specs.declared.refusal.Refusal.{Refusal}
use Rattle.record.specs.declared.refusal.Refusal.TheVariants as R
use Rattle.record.proofs.ScalarLaws.{built_in-rows}
use Rattle.record.proofs.Accepted.{accepting}
use Rattle.record.proofs.WriterLaws.{puts_then, puts-exact, puts-front}
use Rattle.drafts.specs.Packing.{packed_commands, packed_pool, stream_of}
use Rattle.drafts.specs.Parts.{part, after_part, held_rec, parts_of}
use Rattle.drafts.specs.Code.{chosen}
use Rattle.drafts.specs.Count.{count_changed}
use Rattle.drafts.specs.Counted.{Legible}
use Rattle.drafts.specs.Edits.{refused, declined, no_room, done, named, removed, settled, Edit, removing, removed_or, editing, edited, edit}
use Rattle.drafts.specs.Found.{TypeAt}
use Rattle.drafts.specs.Packed.{front, Packed}
use Rattle.drafts.specs.Building.{rest_stream, rest_pool, Built}
use Rattle.drafts.specs.Answering.{edited_as, Says, Both, Opens, Opened}
use Rattle.drafts.specs.declared.pack.Ends.{Ends}
use Rattle.drafts.specs.declared.saying.DraftAnswer.{DraftAnswer}
use Rattle.drafts.proofs.StoreLaws.{parts-long}

-- writing ----------------------------------------------------------------------------------------------------------------------------------

module _ (s p b : Str) (w : List Scalar) (was t : Schema) (k : ℕ) (r : DraftAnswer) where
  pub store-over : length b < length s + length p + 8 → Says r (no_room (length s + length p + 8) k) → edited_as r b ≡ settled k b was (rec s p w) (read t)
  unfolding settled
  store-over h a =
      let l = parts-long s p w in
      a.is b ∙ rw (l, lt-leb (length s + length p + 8) (length b) h)

  pub store_in : (x : Str) (q n : ℕ) → length s + length p + 8 ≤ length b → Puts b 0 (parts_of (rec s p [])) x q → n ≡ count_changed t was → Says r (done n) → edited_as r x ≡ settled k b was (rec s p w) (read t)
  unfolding settled parts_of
  store_in x q n h a e d =
      let l = parts-long s p w in
      let g : x ≡ fronted b (parts_of (rec s p w)) = puts-front a (omega arith) in
      d.is x ∙ ap₂ done e g ∙ sym fits
    where
      fits : settled k b was (rec s p w) (read t) ≡ done (count_changed t was) (fronted b (parts_of (rec s p w)))
      fits = let l = parts-long s p w in rw (le-leb (length (parts_of (rec s p w))) (length b) (omega arith))

-- reading ----------------------------------------------------------------------------------------------------------------------------------

module _ (s p b : Str) (w : List Scalar) (was : Schema) (k : ℕ) (o : Result ⊤ (Refusal × ℕ)) (h : Read Current (rec s p w) o) where
  pub settle-refused : (n : Refusal) (q : ℕ) (r : DraftAnswer) → o ≡ Err (n, q) → Says r (refused 0 n q k) → edited_as r b ≡ settled k b was (rec s p w) (reading Current (rec s p w))
  unfolding settled
  settle-refused n q r e a = a.is b ∙ ap (settled k b was (rec s p w)) (ap (reading_of (rec s p w)) (sym e) ∙ h.answer)

  module _ (g : o ≡ Ok tt) where
    was_read : reading Current (rec s p w) ≡ read (schema_of (rec s p w))
    was_read = sym h.answer ∙ ap (reading_of (rec s p w)) g

    pub settle_read : (x : Str) (r : DraftAnswer) → edited_as r x ≡ settled k b was (rec s p w) (read (schema_of (rec s p w))) → edited_as r x ≡ settled k b was (rec s p w) (reading Current (rec s p w))
    settle_read x r e = e ∙ ap (settled k b was (rec s p w)) (sym was_read)

pub settle-legible : (s p : Str) (w : List Scalar) (o : Result ⊤ (Refusal × ℕ)) → Read Current (rec s p w) o → o ≡ Ok tt → Legible (rec s p w)
settle-legible s p w o h g =
    let a = accepting Current (rec s p w) (schema_of (rec s p w)) (sym h.answer ∙ ap (reading_of (rec s p w)) g) in
    record { short = a.stream-short; exact = h.exact g }

-- building ---------------------------------------------------------------------------------------------------------------------------------

pub too_long : (s p : Str) (w : List Scalar) → 32768 < length s → reading Current (rec s p w) ≡ refuse R.Long 0
unfolding reading concluded stream_limit
too_long s p w h = rw (lt-leb (length s) 32768 h)

pub too_wide : (s p : Str) (w : List Scalar) → 16384 < length p → reading Current (rec s p w) ≡ refuse R.Long 0
unfolding reading concluded pool_limit
too_wide s p w h = rw (lt-leb (length p) 16384 h) (either (leb (length s) stream_limit))
  where
    either : (x : Bool) → concluded (rec s p w) (x && false) (odd_letter p) (parsed Current (rec s p w)) ≡ refuse R.Long 0
    either true = refl
    either false = refl

pub settle-small : (s p : Str) (w : List Scalar) (o : Result ⊤ (Refusal × ℕ)) → Read Current (rec s p w) o → o ≡ Ok tt → length p ≤ 16384
settle-small s p w o h g = go (leb (length p) 16384) refl
  where
    is_read : reading Current (rec s p w) ≡ read (schema_of (rec s p w))
    is_read = sym h.answer ∙ ap (reading_of (rec s p w)) g

    go : (x : Bool) → leb (length p) 16384 ≡ x → length p ≤ 16384
    go true e = leb-true (length p) 16384 e
    go false e = let c = sym is_read ∙ too_wide s p w (leb-false (length p) 16384 e) in absurd (let z : ◌≡◌ {A = ℕ} 0 1 = cc in omega arith)

front-taken : (s out after : Str) (n m : ℕ) → Puts out 0 s after n → n ≤ m → length out ≡ m → m < largest → take n after ≡ s
unfolding fronted
front-taken s out after n m c h l j =
    let e : n ≡ 0 + length s = puts-exact c (omega arith) in
    let g : after ≡ fronted out s = puts-front c (omega arith) in
    let z : length s ≡ n = omega arith in
    ap (take n) g ∙ take_at s (drop (length s) out) n z

pub built-settled : (s p out words after left : Str) (e : Ends) → Built s p out words after left e → (w : List Scalar) (b x y z : Str) (was : Schema) (k : ℕ) (r : DraftAnswer) → length out ≡ 32768 → length words ≡ 16384
    → e.stream ≤ 32768 → e.pool ≤ 16384 → y ≡ take e.stream after → z ≡ take e.pool left → edited_as r x ≡ settled k b was (rec y z w) (reading Current (rec y z w))
    → edited_as r x ≡ settled k b was (rec s p w) (reading Current (rec s p w))
built-settled s p out words after left e c w b x y z was k r l m h i f g a =
    let t : rec y z w ≡ rec s p w = ap₂ (λ (u v : Str). rec u v w) (f ∙ front-taken s out after e.stream 32768 c.stream h l (omega arith)) (g ∙ front-taken p words left e.pool 16384 c.pool i m (omega arith)) in
    a ∙ ap (λ (q : Rec). settled k b was q (reading Current q)) t

pub rest-built : (b x s p : Str) (i j : ℕ) (out mid after words left : Str) (e : Ends) (n : ℕ) → x ≡ after_part b → s ≡ part b → p ≡ part x
    → Packed s p (chosen s i j) front out mid words left e → Puts mid e.stream (15 ∷ []) after n → Built (rest_stream b i j) (rest_pool b i j) out words after left (record { stream = n; pool = e.pool })
unfolding rest_stream rest_pool stream_of
rest-built b x s p i j out mid after words left e n f g h c d =
    subst (λ (y : Str). Built (stream_of (packed_commands 0 (part b) y (chosen (part b) i j))) (packed_pool (part b) y (chosen (part b) i j)) out words after left (record { stream = n; pool = e.pool })) (h ∙ ap part f)
    (subst (λ (y : Str). Built (stream_of (packed_commands 0 y p (chosen y i j))) (packed_pool y p (chosen y i j)) out words after left (record { stream = n; pool = e.pool })) g
    (record { stream = puts_then c.commands d; pool = c.texts }))

pub rest-small : (b x p : Str) → x ≡ after_part b → p ≡ part x → length (part (after_part b)) ≤ 16384 → length p ≤ 16384
rest-small b x p f g h = subst (λ (y : Str). length y ≤ 16384) (sym (g ∙ ap part f)) h

pub both_small : (w : List Scalar) (b : Str) (copy : Rec) → Both w b copy → length (part (after_part b)) ≤ 16384
unfolding held_rec
both_small w b copy h = h.small

-- removing ---------------------------------------------------------------------------------------------------------------------------------

module _ (w : List Scalar) (b : Str) (copy : Rec) (o : Opened) (h : Opens w b copy o) where
  pub edit-shut : (e : Edit) (k side : ℕ) (n : Refusal) (p : ℕ) (r : DraftAnswer) → o ≡ Err (side, n, p) → Says r (refused side n p k) → edited_as r b ≡ edit w copy k b e
  edit-shut e k side n p r g a = a.is b ∙ sym ((subst (Opens w b copy) g h).edits k e)

  module _ (g : o ≡ Ok tt) where
    pub open-is-both : Both w b copy
    open-is-both = subst (Opens w b copy) g h

    removing-is : (k : ℕ) (n : Str) → edit w copy k b (removing n) ≡ removed_or k b (schema_of copy) (held_rec w b) n
    unfolding edit edited editing
    removing-is k n = rw (open-is-both.now, open-is-both.was)

    module _ (k : ℕ) (n : Str) (t : Option (ℕ × ℕ)) (f : TypeAt (part b) (part (after_part b)) n t) (r : DraftAnswer) where
      pub remove-none : t ≡ None → Says r (declined 56 k) → edited_as r b ≡ edit w copy k b (removing n)
      unfolding removed_or held_rec
      remove-none x a =
          let z : any (named (part b) (part (after_part b)) n) (commands_at (part b) 0) ≡ false = subst (TypeAt (part b) (part (after_part b)) n) x f in
          a.is b ∙ sym (removing-is k n ∙ rw z)

      pub remove-done : (i j : ℕ) (x : Str) → t ≡ Some (i, j)
          → edited_as r x ≡ settled k b (schema_of copy) (rec (rest_stream b i j) (rest_pool b i j) w) (reading Current (rec (rest_stream b i j) (rest_pool b i j) w))
          → edited_as r x ≡ edit w copy k b (removing n)
      unfolding removed_or held_rec removed rest_stream rest_pool
      remove-done i j x q a =
          let z = subst (TypeAt (part b) (part (after_part b)) n) q f in
          a ∙ sym (removing-is k n ∙ rw (z.0, z.1))

pub edit-built : (rows b s p : Str) (k : ℕ) (e : Edit) (x : Str) (r : DraftAnswer) → rows ≡ built_in_rows → edited_as r x ≡ edit (scalars_of rows) (rec s p (scalars_of rows)) k b e → edited_as r x ≡ edit built_in (rec s p built_in) k b e
edit-built rows b s p k e x r g h = h ∙ ap (λ (w : List Scalar). edit w (rec s p w) k b e) (ap scalars_of g ∙ built_in-rows)
