-- A type added to a draft: the result as built, and the cases of the edit. Assumes nothing.
use Rattle.std.specs.Prelude.{Ok, Option, Some, None, Result, Err, ⊤}
use mathlib.Core.Path.{◌≡◌, refl, sym, ap, subst, ◌∙◌}
use mathlib.Core.List.{List, [], ◌∷◌, ◌++◌, append_assoc}
use mathlib.Core.Bool.{false}
use Prim.Native.Nat.{ℕ, ◌+◌, ◌≤◌}
use native.Mathlib.Omega.{arith}
use lib.ListN.{length, drop}
use Rattle.record.specs.Base.{Str, any}
use Rattle.record.specs.Stretch.{text_of}
use Rattle.record.specs.Operands.{text_at}
use Rattle.record.specs.Fill.{joined}
use Rattle.record.specs.Scalars.{Scalar}
use Rattle.record.specs.Write.{Puts}
use Rattle.record.specs.Commands.{commands_at, step_at}
use Rattle.record.specs.Seek.{after_at}
use Rattle.record.specs.Reading.{Rec, rec, schema_of, reading, Parsed, ok, bad}
use Rattle.record.specs.Read.{outcome_of}
use Rattle.record.specs.declared.text.Text.{Text}
use Rattle.record.specs.declared.refusal.Side.TheVariants.{Current}
use Rattle.record.specs.declared.refusal.Refusal.{Refusal}
use Rattle.record.proofs.Stream.{commands-next, commands-stop}
use Rattle.record.proofs.WriterLaws.{puts_then, puts-as, puts-near, puts-exact}
use Rattle.drafts.specs.Packing.{texts_of, covered, packed_commands, packed_pool, stream_of}
use Rattle.drafts.specs.Parts.{part, after_part, held_rec}
use Rattle.drafts.specs.Addition.{addition}
use Rattle.drafts.specs.Code.{chosen}
use Rattle.drafts.specs.Edits.{refused, declined, named, tail, name_after, added, settled, adding, added_or, editing, edited, edit}
use Rattle.drafts.specs.Found.{TypeAt}
use Rattle.drafts.specs.Packed.{front, Packed}
use Rattle.drafts.specs.Building.{Built}
use Rattle.drafts.specs.Finishing.{HeldPacked}
use Rattle.drafts.specs.Summing.{sum_stream, sum_pool, second_name}
use Rattle.drafts.specs.Answering.{edited_as, Says, Opens, Opened}
use Rattle.drafts.specs.declared.pack.Ends.{Ends}
use Rattle.drafts.specs.declared.saying.DraftAnswer.{DraftAnswer}
use Rattle.drafts.proofs.Additions.{addable}
use Rattle.drafts.proofs.Results.{kept-short}
use Rattle.drafts.proofs.PutLaws.{range-end}
use Rattle.drafts.proofs.SettleLaws.{open-is-both}
use Rattle.record.specs.Commands.{Step}
use Rattle.record.specs.declared.command as D

-- chosen commands ----------------------------------------------------------------------------------------------------------------------------

chosen-all : (s : Str) → chosen s 0 0 ≡ commands_at s 0
unfolding chosen
chosen-all s = ap (λ (l : List ℕ). l ++ commands_at s 0) (range-end s 0 0 (omega arith))

-- the commands after the first
chosen-tail : (s : Str) → chosen s 0 (after_at s 0) ≡ tail (commands_at s 0)
unfolding chosen after_at tail
chosen-tail s = ap (λ (l : List ℕ). l ++ commands_at s (after_at s 0)) (range-end s 0 0 (omega arith)) ∙ go (step_at s 0) refl
  where
    go : (t : Step D.Command.Command) → step_at s 0 ≡ t → commands_at s (after_at s 0) ≡ tail (commands_at s 0)
    go (Some (c, k)) e = rw (commands-next s 0 c k e, after_at, e)
    go None e = rw (commands-stop s 0 e, after_at, e) (commands-stop s 0 e)

pack-low : (s p : Str) (ps : List ℕ) (out after words left : Str) (e : Ends) → Packed s p ps front out after words left e → length p ≤ 16384 → e.pool ≤ 16384
unfolding packed_pool
pack-low s p ps out after words left e c h = let n = puts-near c.texts in let f = kept-short (covered (texts_of s ps)) 0 p in omega arith

joined-append : (xs ys : List Str) → joined (xs ++ ys) ≡ joined xs ++ joined ys
unfolding joined
joined-append [] ys = refl
joined-append (x ∷ xs) ys = ap (λ (l : Str). x ++ l) (joined-append xs ys) ∙ sym (append_assoc x (joined xs) (joined ys))

pub held-packed : (b x s p out after words left : Str) (e : Ends) → x ≡ after_part b → s ≡ part b → p ≡ part x → length (part (after_part b)) ≤ 16384
    → Packed s p (chosen s 0 0) front out after words left e → HeldPacked b out after words left e
held-packed b x s p out after words left e hx hs hp small c =
    let u : Packed s p (commands_at s 0) front out after words left e = subst (λ (l : List ℕ). Packed s p l front out after words left e) (chosen-all s) c in
    let v : Packed (part b) p (commands_at (part b) 0) front out after words left e = subst (λ (y : Str). Packed y p (commands_at y 0) front out after words left e) hs u in
    let z : Packed (part b) (part (after_part b)) (commands_at (part b) 0) front out after words left e =
    subst (λ (y : Str). Packed (part b) y (commands_at (part b) 0) front out after words left e) (hp ∙ ap part hx) v in
    record { packed = z; low = pack-low (part b) (part (after_part b)) (commands_at (part b) 0) out after words left e z small }

pub more-packed : (s p out after words left : Str) (at : Ends) (k : ℕ) (e : Ends) → k ≡ after_at s 0 → Packed s p (chosen s 0 k) at out after words left e
    → Packed s p (tail (commands_at s 0)) at out after words left e
more-packed s p out after words left at k e g c = subst (λ (l : List ℕ). Packed s p l at out after words left e) (ap (chosen s 0) g ∙ chosen-tail s) c

pub sum-built : (b more texts out mid then after words left last : Str) (e f : Ends) (n : ℕ) → HeldPacked b out mid words left e
    → Packed more texts (tail (commands_at more 0)) e mid then left last f → Puts then f.stream (15 ∷ []) after n → Built (sum_stream b more texts) (sum_pool b more texts) out words after last (record { stream = n; pool = f.pool })
unfolding sum_stream sum_pool stream_of
sum-built b more texts out mid then after words left last e f n c d z =
    let low = c.low in
    let ex : e.pool ≡ 0 + length (packed_pool (part b) (part (after_part b)) (commands_at (part b) 0)) = puts-exact c.packed.texts (omega arith) in
    let is_base : e.pool ≡ length (packed_pool (part b) (part (after_part b)) (commands_at (part b) 0)) = omega arith in
    record {
      stream = puts-as (puts_then (puts_then c.packed.commands d.commands) z)
          (ap (λ (l : Str). l ++ 15 ∷ []) (sym (joined-append (packed_commands 0 (part b) (part (after_part b)) (commands_at (part b) 0)) (packed_commands e.pool more texts (tail (commands_at more 0))))
          ∙ ap (λ (i : ℕ). joined (packed_commands 0 (part b) (part (after_part b)) (commands_at (part b) 0) ++ packed_commands i more texts (tail (commands_at more 0)))) is_base));
      pool = puts_then c.packed.texts d.texts;
    }

-- the addition's name ---------------------------------------------------------------------------------------------------------------------------

place-first : (s : Str) (at x : ℕ) (l : List ℕ) → commands_at s at ≡ x ∷ l → at ≡ x
place-first s at x l h = go (step_at s at) refl
  where
    go : (t : Step D.Command.Command) → step_at s at ≡ t → at ≡ x
    go (Some (c, k)) e = let z : at ∷ commands_at s k.at ≡ x ∷ l = sym (commands-next s at c k e) ∙ h in cc
    go None e = let z : [] ≡ x ∷ l = sym (commands-stop s at e) ∙ h in absurd (let y : ◌≡◌ {A = ℕ} 0 1 = ap length z ∙ absurd (let v = ap length z in omega arith) in omega arith)

name-is : (s p : Str) (ps : List ℕ) → addition (rec s p []) ≡ ok ps → name_after (rec s p []) (tail ps) ≡ second_name s p
unfolding name_after tail second_name chosen
name-is s p ps h =
    let a = addable (rec s p []) ps h in
    let q = a.shaped in
    let c : commands_at s (after_at s 0) ≡ q.type_at ∷ q.parts = sym tails ∙ ap tail (sym a.are-commands ∙ sym q.whole) in
    let k = place-first s (after_at s 0) q.type_at q.parts c in
    ap (λ (l : List ℕ). name_after (rec s p []) (tail l)) (sym q.whole) ∙ ap (λ (i : ℕ). text_of p (text_at (drop i s) 1)) (sym k)
  where
    tails : tail (commands_at s 0) ≡ commands_at s (after_at s 0)
    tails = sym (chosen-tail s) ∙ ap (λ (l : List ℕ). l ++ commands_at s (after_at s 0)) (range-end s 0 0 (omega arith))

-- the edit ----------------------------------------------------------------------------------------------------------------------------------------

was-bad : (x : Parsed) (n : Refusal) (q : ℕ) → outcome_of x ≡ Err (n, q) → x ≡ bad n q
unfolding outcome_of
was-bad (ok ps) n q h = absurd (let z : ◌≡◌ {A = ℕ} 0 1 = cc in omega arith)
was-bad (bad m p) n q h = let z : ◌≡◌ {A = Refusal × ℕ} (m, p) (n, q) = cc in ap (λ (y : Refusal × ℕ). bad y.0 y.1) z

record Taken (x : Parsed) : Type 0 where
  pub places : List ℕ
  pub is : x ≡ ok places

was-ok : (x : Parsed) → outcome_of x ≡ Ok tt → Taken x
unfolding outcome_of
was-ok (ok ps) h = record { places = ps; is = refl }
was-ok (bad m p) h = absurd (let z : ◌≡◌ {A = ℕ} 0 1 = cc in omega arith)

pub addition-small : (s p : Str) (o : Result ⊤ (Refusal × ℕ)) → o ≡ outcome_of (addition (rec s p [])) → o ≡ Ok tt → length p ≤ 16384
addition-small s p o e g = let t = was-ok (addition (rec s p [])) (sym e ∙ g) in (addable (rec s p []) t.places t.is).pool-short

module _ (w : List Scalar) (b : Str) (copy : Rec) (v : Opened) (h : Opens w b copy v) (g : v ≡ Ok tt) (s p : Str) (o : Result ⊤ (Refusal × ℕ)) (e : o ≡ outcome_of (addition (rec s p []))) (k : ℕ) (r : DraftAnswer) where
  adding-is : edit w copy k b (adding (rec s p [])) ≡ added_or k b (schema_of copy) (held_rec w b) (rec s p []) (addition (rec s p []))
  unfolding edit edited editing
  adding-is = let x = open-is-both w b copy v h g in rw (x.now, x.was)

  pub add-refused : (n : Refusal) (q : ℕ) → o ≡ Err (n, q) → Says r (refused 2 n q k) → edited_as r b ≡ edit w copy k b (adding (rec s p []))
  unfolding added_or
  add-refused n q f a = a.is b ∙ sym (adding-is ∙ rw (was-bad (addition (rec s p [])) n q (sym e ∙ f)))

  module _ (f : o ≡ Ok tt) (n : Str) (i : n ≡ second_name s p) (t : Option (ℕ × ℕ)) (j : TypeAt (part b) (part (after_part b)) n t) where
    taken : Taken (addition (rec s p []))
    taken = was-ok (addition (rec s p [])) (sym e ∙ f)

    name-there : name_after (rec s p []) (tail taken.places) ≡ n
    name-there = name-is s p taken.places taken.is ∙ sym i

    pub add-there : (c d : ℕ) → t ≡ Some (c, d) → Says r (declined 55 k) → edited_as r b ≡ edit w copy k b (adding (rec s p []))
    unfolding added_or held_rec
    add-there c d q a =
        let z = (subst (TypeAt (part b) (part (after_part b)) n) q j).0 in
        a.is b ∙ sym (adding-is ∙ rw (taken.is, name-there, z))

    pub add_done : (x : Str) → t ≡ None
        → edited_as r x ≡ settled k b (schema_of copy) (rec (sum_stream b s p) (sum_pool b s p) w) (reading Current (rec (sum_stream b s p) (sum_pool b s p) w))
        → edited_as r x ≡ edit w copy k b (adding (rec s p []))
    unfolding added_or held_rec added sum_stream sum_pool
    add_done x q a =
        let z : any (named (part b) (part (after_part b)) n) (commands_at (part b) 0) ≡ false = subst (TypeAt (part b) (part (after_part b)) n) q j in
        a ∙ sym (adding-is ∙ rw (taken.is, name-there, z))

pub second_is : (s p x y : Str) (k : ℕ) (t : Text) → k ≡ after_at s 0 → x ≡ drop k s → t ≡ text_at x 1 → y ≡ text_of p t → y ≡ second_name s p
unfolding second_name
second_is s p x y k t a b c d = d ∙ ap (text_of p) (c ∙ ap (λ (z : Str). text_at z 1) (b ∙ ap (λ (i : ℕ). drop i s) a))
