-- A bound of all sizes: each size is within its part of it, so a bound within the limit leaves no type vast. Assumes nothing.
use Rattle.std.specs.Prelude.{Option, Some, None}
use mathlib.Core.Logic.{◌⊎◌, inl, inr}
use mathlib.Core.Path.{◌≡◌, refl, sym, ap, ap₂, ◌∙◌}
use mathlib.Core.List.{List, [], ◌∷◌, ◌++◌}
use mathlib.Core.Bool.{Bool, true, false, ◌||◌, cond}
use Prim.Native.Nat.{ℕ, ◌+◌, ◌-◌, ◌*◌, ◌≤◌, ◌<◌}
use native.Mathlib.Nat.{zero-add, sub-zero, zero-mul, mul-zero, mul-add, mul-le-mul, mul-le-mul_left, le-mul_of_pos_right}
use native.Mathlib.Omega.{arith}
use lib.ListN.{length, get_or, drop, length-drop}
use lib.Dec.{eqb, leb}
use borrow.Author.Tests.{eqb-true, lt-leb, le-ltb, ne_eqb, leb-true, leb-false}
use Rattle.record.specs.Base.{Str, bytes, eqs, any, find, first, or_else, map_option}
use Rattle.record.specs.Le.{u32_at}
use Rattle.record.specs.Scalars.{Scalar, scalars_of, scalar_in, size_found, prim_size}
use Rattle.record.specs.Schema.{Schema, Field, Family, Enum, Alias, BitField, Key}
use Rattle.record.specs.Operands.{opt_number_at}
use Rattle.record.specs.Commands.{operands, wide, widths, width_with, width_of, enum_at, bitfield_at, family_at, field_at, step_at, commands_from, commands_at}
use Rattle.record.specs.Seek.{after_at}
use Rattle.record.specs.Lists.{opt_of, enum_of, bitfield_of, field_of, family_of, listed, values, enums, members, bitfields, keys, fields}
use Rattle.record.specs.Steps.{enum_in, alias_in, bitfield_in}
use Rattle.record.specs.Kind.{kind_of}
use Rattle.record.specs.Shapes.{enum_size, alias_size, bitfield_size, sized, scalar_size, size_as, shape_size, place_of, places, fam_prefix, limit, capped}
use Rattle.record.specs.Reading.{rec, schema_from, schema_of, opened_at, opened, large, vast}
use Rattle.record.specs.Vast.{opened_from, disc_size, len_size, front_end, vast_at, first_vast, sum_sizes, unit_at, numbers_of, extra_at, total_of, unit_of, bound_of}
use Rattle.record.specs.declared.kind.Kind.{Kind}
use Rattle.record.specs.declared.kind.Kind.TheVariants as K
use Rattle.record.specs.declared.command as D
use Rattle.record.specs.declared.command.Cursor.{Cursor}
use Rattle.record.specs.declared.command.Command.{Command}
use Rattle.record.proofs.Stream.{step-found, commands-stop, commands-next, along}
use Rattle.record.proofs.ListLaws.{find-miss}
use Rattle.record.proofs.ScalarLaws.{scalars_split, scalars-end}
use Rattle.record.proofs.SeekLaws.{stepped, ended-there}
use Rattle.record.proofs.SizeLaws.{cap-low, cap-high, product-capped}
use Rattle.record.proofs.VastLaws.{front-places}

-- sums as far as the limit --------------------------------------------------------------------------------------------------

module _ (n y : ℕ) (e : y ≡ capped n) where
  cap-exact : y ≤ limit → y ≡ n
  cap-exact h = go (leb n limit) refl
    where
      go : (b : Bool) → leb n limit ≡ b → y ≡ n
      go true q = e ∙ sym (cap-low n (leb-true n limit q))
      go false q = let w : y ≡ limit + 1 = e ∙ sym (cap-high n (leb-false n limit q)) in absurd (omega arith)

plus-right : (a b : ℕ) → capped (a + capped b) ≡ capped (a + b)
plus-right a b = go (leb b limit) refl
  where
    go : (t : Bool) → leb b limit ≡ t → capped (a + capped b) ≡ capped (a + b)
    go true q = ap (λ (x : ℕ). capped (a + x)) (sym (cap-low b (leb-true b limit q)))
    go false q =
        let h = leb-false b limit q in
        ap (λ (x : ℕ). capped (a + x)) (sym (cap-high b h)) ∙ sym (cap-high (a + (limit + 1)) (omega arith)) ∙ cap-high (a + b) (omega arith)

plus-left : (a b : ℕ) → capped (capped a + b) ≡ capped (a + b)
plus-left a b = go (leb a limit) refl
  where
    go : (t : Bool) → leb a limit ≡ t → capped (capped a + b) ≡ capped (a + b)
    go true q = ap (λ (x : ℕ). capped (x + b)) (sym (cap-low a (leb-true a limit q)))
    go false q =
        let h = leb-false a limit q in
        ap (λ (x : ℕ). capped (x + b)) (sym (cap-high a h)) ∙ sym (cap-high (limit + 1 + b) (omega arith)) ∙ cap-high (a + b) (omega arith)

pub cap-twice : (n : ℕ) → capped (capped n) ≡ capped n
cap-twice n = go (leb n limit) refl
  where
    go : (t : Bool) → leb n limit ≡ t → capped (capped n) ≡ capped n
    go true q = ap capped (sym (cap-low n (leb-true n limit q)))
    go false q =
        let h = leb-false n limit q in
        ap capped (sym (cap-high n h)) ∙ sym (cap-high (limit + 1) (omega arith)) ∙ cap-high n h

module _ (a b x : ℕ) (e : capped a ≡ capped b) where
  sums-alike : (y : ℕ) → capped x ≡ capped y → capped (a + x) ≡ capped (b + y)
  sums-alike y f =
      sym (plus-left a x) ∙ ap (λ (k : ℕ). capped (k + x)) e ∙ plus-left b x
      ∙ sym (plus-right b x) ∙ ap (λ (k : ℕ). capped (b + k)) f ∙ plus-right b y

  products-alike : capped (a * x) ≡ capped (b * x)
  products-alike = sym (product-capped a x) ∙ ap (λ (k : ℕ). capped (k * x)) e ∙ product-capped b x

within-capped : (n : ℕ) → leb (capped n) limit ≡ leb n limit
within-capped n = go (leb n limit) refl
  where
    go : (t : Bool) → leb n limit ≡ t → leb (capped n) limit ≡ leb n limit
    go true q = ap (λ (k : ℕ). leb k limit) (sym (cap-low n (leb-true n limit q)))
    go false q = ap (λ (k : ℕ). leb k limit) (sym (cap-high n (leb-false n limit q))) ∙ lt-leb (limit + 1) limit (omega arith) ∙ sym q

-- the words of the table, one more row at a time
pub words-begin : (s r : Str) → r ≡ s → capped (0 + sum_sizes (scalars_of r)) ≡ capped (sum_sizes (scalars_of s))
words-begin s r e = ap capped (zero-add (sum_sizes (scalars_of r))) ∙ ap (λ (x : Str). capped (sum_sizes (scalars_of x))) e

pub words-next : (s r t : Str) (a x y : ℕ) → s ≡ r ++ t → length r ≡ 9 → x ≡ get_or r 8 0 → y ≡ capped (a + x)
    → capped (y + sum_sizes (scalars_of t)) ≡ capped (a + sum_sizes (scalars_of s))
unfolding sum_sizes
words-next s r t a x y e n q v =
    let m = sum_sizes (scalars_of t) in
    let f : sum_sizes (scalars_of s) ≡ x + m = rw (e, scalars_split r t n, q) in
    ap (λ (k : ℕ). capped (k + m)) v ∙ plus-left (a + x) m ∙ ap capped (let z : a + x + m ≡ a + sum_sizes (scalars_of s) = omega arith in z)

-- a sum past the limit is what all rows come to
pub words-over : (s r t : Str) (a x y w : ℕ) → s ≡ r ++ t → length r ≡ 9 → x ≡ get_or r 8 0 → y ≡ capped (a + x)
    → capped (a + sum_sizes (scalars_of s)) ≡ capped w → limit < y → limit + 1 ≡ capped w
words-over s r t a x y w e n q v i h =
    cap-high (y + sum_sizes (scalars_of t)) (omega arith) ∙ words-next s r t a x y e n q v ∙ i

pub words-end : (s : Str) (a : ℕ) → length s < 9 → a ≡ capped a → a ≡ capped (a + sum_sizes (scalars_of s))
unfolding sum_sizes scalars_of
words-end s a h e = e ∙ ap capped (let z : sum_sizes (scalars_of s) ≡ 0 = rw (scalars-end s 0 (omega arith)) in let y : a ≡ a + sum_sizes (scalars_of s) = omega arith in y)

-- the commands, one more at a time
module _ (g : ℕ → ℕ) (s : Str) where
  pub record Totalling (total at : ℕ) : Type 0 where
    pub so_far : capped (total + total_of g (commands_at s at)) ≡ capped (total_of g (commands_at s 0))

  pub totalling : Totalling 0 0
  totalling = record { so_far = ap capped (zero-add (total_of g (commands_at s 0))) }

  module _ (a at n : ℕ) (i : Totalling a at) (e : n ≡ after_at s at) where
    total-all : n ≡ 0 → capped a ≡ capped (total_of g (commands_at s 0))
    unfolding total_of
    total-all z =
        let h : total_of g (commands_at s at) ≡ 0 = rw (commands-stop s at (ended-there s at n e z)) in
        let f : a + total_of g (commands_at s at) ≡ a = omega arith in
        ap capped (sym f) ∙ i.so_far

    module _ (z : n ≡ 0 → ⊥) where
      total_here : total_of g (commands_at s at) ≡ g at + total_of g (commands_at s n)
      unfolding total_of
      total_here = let t = stepped s at n e z in rw (commands-next s at t.command t.cursor t.step, t.to)

      pub total-more : (y : ℕ) → capped y ≡ capped (a + g at) → Totalling y n
      total-more y v =
          let k = total_here in
          let f : a + g at + total_of g (commands_at s n) ≡ a + total_of g (commands_at s at) = omega arith in
          record { so_far = sums-alike y (a + g at) (total_of g (commands_at s n)) v (total_of g (commands_at s n)) refl ∙ ap capped f ∙ i.so_far }

-- both sums at the end of the walk
pub within-is : (v : ℕ) (s : Str) (x y at n a u p q : ℕ) → Totalling (unit_at s) s x at → Totalling (extra_at v s) s y at → n ≡ after_at s at → n ≡ 0
    → a ≡ capped (4 + v) → u ≡ capped (a + x) → p ≡ capped (u * length s) → q ≡ capped (p + y) → leb q limit ≡ leb (bound_of v s) limit
unfolding unit_of bound_of
within-is v s x y at n a u p q i j e z a1 u1 p1 q1 =
    let f = total-all (unit_at s) s x at n i e z in
    let g = total-all (extra_at v s) s y at n j e z in
    let b : capped a ≡ capped (4 + v) = ap capped a1 ∙ cap-twice (4 + v) in
    let c : capped u ≡ capped (unit_of v s) = ap capped u1 ∙ cap-twice (a + x) ∙ sums-alike a (4 + v) x b (total_of (unit_at s) (commands_at s 0)) f in
    let d : capped p ≡ capped (unit_of v s * length s) = ap capped p1 ∙ cap-twice (u * length s) ∙ products-alike u (unit_of v s) (length s) c in
    let h : q ≡ capped (bound_of v s) = q1 ∙ sums-alike p (unit_of v s * length s) y d (total_of (extra_at v s) (commands_at s 0)) g in
    ap (λ (k : ℕ). leb k limit) h ∙ within-capped (bound_of v s)

-- what a command adds
added : (a r x y : ℕ) → r ≡ capped (a + x) → x ≡ y → capped r ≡ capped (a + y)
added a r x y q e = ap capped q ∙ cap-twice (a + x) ∙ ap (λ (k : ℕ). capped (a + k)) e

nothing-added : (a x : ℕ) → x ≡ 0 → capped a ≡ capped (a + x)
nothing-added a x e = ap capped (let f : a ≡ a + x = omega arith in f)

module _ (a : ℕ) (s : Str) (at b : ℕ) (e : b ≡ get_or s at 0) where
  pub unit-some : (y : Str) (x w r : ℕ) → (b ≡ 4) ⊎ (b ≡ 6) → y ≡ drop at s → x ≡ u32_at y 4 → w ≡ x → r ≡ capped (a + w) → capped r ≡ capped (a + unit_at s at)
  unfolding unit_at
  unit-some y x w r (inl h) d f g q = added a r w (unit_at s at) q (g ∙ f ∙ rw (d, sym e ∙ h))
  unit-some y x w r (inr h) d f g q = added a r w (unit_at s at) q (g ∙ f ∙ rw (d, sym e ∙ h))

  pub unit-none : ((b ≡ 4) ⊎ (b ≡ 6) → ⊥) → capped a ≡ capped (a + unit_at s at)
  unfolding unit_at
  unit-none h = nothing-added a (unit_at s at) (rw (← e, ne_eqb b 4 (λ k. h (inl k)), ne_eqb b 6 (λ k. h (inr k))))

  module _ (v : ℕ) where
    pub extra-field : (y : Str) (r : ℕ) → b ≡ 11 → y ≡ drop at s → capped r ≡ capped (a + numbers_of v (field_at y)) → capped r ≡ capped (a + extra_at v s at)
    unfolding extra_at
    extra-field y r h d q = q ∙ rw (d, sym e ∙ h)

    pub extra-none : (b ≡ 11 → ⊥) → capped a ≡ capped (a + extra_at v s at)
    unfolding extra_at
    extra-none h = nothing-added a (extra_at v s at) (rw (← e, ne_eqb b 11 h))

pub ruleset extra-laws = (extra-field, extra-none)

-- the bytes of a field are there
pub field-there : (s y : Str) (at b : ℕ) → b ≡ get_or s at 0 → b ≡ 11 → y ≡ drop at s → at + width_of (get_or s at 0) ≤ length s → 33 ≤ length y
unfolding operands bytes wide widths width_with width_of
field-there s y at b e h d l =
    let w : width_of (get_or s at 0) ≡ 33 = ap width_of (sym e ∙ h) in
    let n : length y ≡ length s - at = rw (d, length-drop) in
    omega arith

-- a field's numbers
numbers-joined : (a b z : ℕ) → capped (capped a + capped (capped b + z)) ≡ capped (a + (b + z))
numbers-joined a b z = ap (λ (x : ℕ). capped (capped a + x)) (plus-left b z) ∙ plus-left a (capped (b + z)) ∙ plus-right a (b + z)

pub numbers-are : (x : Str) (v c d k z line first square below r : ℕ) → c ≡ or_else (opt_number_at x 13) 0 → line ≡ capped (v * c) → d ≡ or_else (opt_number_at x 18) 0
    → first ≡ capped (v * d) → k ≡ or_else (opt_number_at x 23) 0 → square ≡ capped (first * k) → z ≡ or_else (opt_number_at x 28) 0 → below ≡ capped (square + z)
    → r ≡ capped (line + below) → r ≡ capped (numbers_of v (field_at x))
unfolding numbers_of
numbers-are x v c d k z line first square below r c1 l1 d1 f1 k1 s1 z1 b1 r1 =
    let mid : square ≡ capped (v * d * k) = s1 ∙ ap (λ (m : ℕ). capped (m * k)) f1 ∙ product-capped (v * d) k in
    rw (← c1, ← d1, ← k1, ← z1)
    (r1 ∙ ap₂ (λ (i j : ℕ). capped (i + j)) l1 (b1 ∙ ap (λ (m : ℕ). capped (m + z)) mid) ∙ numbers-joined (v * c) (v * d * k) z)

pub numbers-some : (a v : ℕ) (x : Str) (m r : ℕ) → m ≡ capped (numbers_of v (field_at x)) → r ≡ capped (a + m) → capped r ≡ capped (a + numbers_of v (field_at x))
numbers-some a v x m r e q = added a r m (capped (numbers_of v (field_at x))) q e ∙ plus-right a (numbers_of v (field_at x))

absent : (x : Str) (at : ℕ) → get_or x at 0 ≡ 0 → or_else (opt_number_at x at) 0 ≡ 0
unfolding opt_number_at or_else
absent x at e = rw e

none_of : (a b z : ℕ) → a ≡ 0 → b ≡ 0 → z ≡ 0 → a + (b + z) ≡ 0
none_of a b z e f g = omega arith

pub numbers-none : (a v : ℕ) (x : Str) → get_or x 13 0 ≡ 0 → get_or x 18 0 ≡ 0 → get_or x 28 0 ≡ 0 → capped a ≡ capped (a + numbers_of v (field_at x))
unfolding numbers_of
numbers-none a v x e f g =
    let k = or_else (opt_number_at x 23) 0 in
    nothing-added a (numbers_of v (field_at x)) (none_of _ _ _ (no-times 13 e) (ap (λ (n : ℕ). n * k) (no-times 18 f) ∙ zero-mul k) (absent x 28 g))
  where
    no-times : (at : ℕ) → get_or x at 0 ≡ 0 → v * or_else (opt_number_at x at) 0 ≡ 0
    no-times at h = ap (λ (n : ℕ). v * n) (absent x at h) ∙ mul-zero v

pub ruleset numbers-laws = (numbers-some, numbers-none)

-- each size is within its part of the bound ----------------------------------------------------------------------------------

later : (a e t : ℕ) → a ≤ t → a ≤ e + t
later a e t h = omega arith

wider : (a d e t : ℕ) → a ≤ d + t → a ≤ d + (e + t)
wider a d e t h = omega arith

module _ {A : Type 0} (size : A → ℕ) (q : A → Bool) (d : ℕ) where
  one_more : (e : A) (l : List A) (t : ℕ) → or_else (map_option size (find q l)) d ≤ d + t → or_else (map_option size (find q (e ∷ l))) d ≤ d + (size e + t)
  unfolding find map_option or_else
  one_more e l t h = go (q e)
    where
      go : (b : Bool) → or_else (map_option size (cond b (Some e) (find q l))) d ≤ d + (size e + t)
      go true = omega arith
      go false = wider (or_else (map_option size (find q l)) d) d (size e) t h

prim-below : (w : List Scalar) (x : Str) → prim_size w x ≤ sum_sizes w
unfolding prim_size scalar_in find sum_sizes
prim-below [] x = omega arith
prim-below (c ∷ cs) x = go (eqs c.word x) (prim-below cs x)
  where
    go : (b : Bool) → prim_size cs x ≤ sum_sizes cs → size_found (cond b (Some c) (find (λ (k : Scalar). eqs k.word x) cs)) ≤ c.size + sum_sizes cs
    go true h = omega arith
    go false h = later (prim_size cs x) c.size (sum_sizes cs) h

module _ (s p n : Str) where
  enum-below : (ps : List ℕ) → sized (Some n) (enum_size (enums s p ps)) 1 ≤ 1 + total_of (unit_at s) ps
  unfolding sized enum_size enums listed enum_in find map_option or_else total_of unit_at
  enum-below [] = omega arith
  enum-below (at ∷ ps) = go (eqb (get_or s at 0) 4) (enum-below ps)
    where
      go : (t : Bool) → sized (Some n) (enum_size (enums s p ps)) 1 ≤ 1 + total_of (unit_at s) ps
          → sized (Some n) (enum_size (cond t (enum_of p (enum_at (drop at s)) (values s p ps) ∷ enums s p ps) (enums s p ps))) 1 ≤ 1 + (cond t (u32_at (drop at s) 4) (cond (eqb (get_or s at 0) 6) (u32_at (drop at s) 4) 0) + total_of (unit_at s) ps)
      go true h = one_more (λ (e : Enum). e.size) (λ (e : Enum). eqs e.name n) 1 (enum_of p (enum_at (drop at s)) (values s p ps)) (enums s p ps) (total_of (unit_at s) ps) h
      go false h = wider (sized (Some n) (enum_size (enums s p ps)) 1) 1 (cond (eqb (get_or s at 0) 6) (u32_at (drop at s) 4) 0) (total_of (unit_at s) ps) h

  bits_below : (ps : List ℕ) → sized (Some n) (bitfield_size (bitfields s p ps)) 0 ≤ 0 + total_of (unit_at s) ps
  unfolding sized bitfield_size bitfields listed bitfield_in find map_option or_else total_of unit_at
  bits_below [] = omega arith
  bits_below (at ∷ ps) = go (eqb (get_or s at 0) 6) (eqb (get_or s at 0) 4) (bits_below ps)
    where
      go : (t k : Bool) → sized (Some n) (bitfield_size (bitfields s p ps)) 0 ≤ 0 + total_of (unit_at s) ps
          → sized (Some n) (bitfield_size (cond t (bitfield_of p (bitfield_at (drop at s)) (members s p ps) ∷ bitfields s p ps) (bitfields s p ps))) 0 ≤ 0 + (cond k (u32_at (drop at s) 4) (cond t (u32_at (drop at s) 4) 0) + total_of (unit_at s) ps)
      go true true h = one_more (λ (e : BitField). e.size) (λ (e : BitField). eqs e.name n) 0 (bitfield_of p (bitfield_at (drop at s)) (members s p ps)) (bitfields s p ps) (total_of (unit_at s) ps) h
      go true false h = one_more (λ (e : BitField). e.size) (λ (e : BitField). eqs e.name n) 0 (bitfield_of p (bitfield_at (drop at s)) (members s p ps)) (bitfields s p ps) (total_of (unit_at s) ps) h
      go false k h = wider (sized (Some n) (bitfield_size (bitfields s p ps)) 0) 0 (cond k (u32_at (drop at s) 4) 0) (total_of (unit_at s) ps) h

-- what bounds the sizes of a schema: v a scalar's, u all that a field names or points at
record Units (t : Schema) (u v : ℕ) : Type 0 where
  pub four : 4 ≤ u
  pub narrow : v ≤ u
  pub scalar : (x : Str) → prim_size t.scalars x ≤ v
  pub enum : (n : Str) → sized (Some n) (enum_size t.enums) 1 ≤ u
  pub bits : (n : Str) → sized (Some n) (bitfield_size t.bitfields) 0 ≤ u

module _ (u : ℕ) where
  named-below : (o : Option Str) (g : Str → Option ℕ) (d : ℕ) → d ≤ u → ((n : Str) → sized (Some n) g d ≤ u) → sized o g d ≤ u
  unfolding sized
  named-below None g d h k = h
  named-below (Some n) g d h k = k n

  alias-below : (w : List Scalar) (l : List Alias) → 2 ≤ u → ((x : Str) → prim_size w x ≤ u) → (n : Str) → sized (Some n) (alias_size w l) 2 ≤ u
  unfolding sized alias_size map_option or_else
  alias-below w l h k n = go (alias_in n l)
    where
      go : (o : Option Alias) → or_else (map_option (λ (a : Alias). prim_size w a.underlying) o) 2 ≤ u
      go None = h
      go (Some a) = k a.underlying

part-one : (a u n m z : ℕ) → a ≤ u → a ≤ u + (n + (m + z))
part-one a u n m z h = omega arith

part-two : (a u n m z : ℕ) → a ≤ n → a ≤ u + (n + (m + z))
part-two a u n m z h = omega arith

part-three : (a u n m z : ℕ) → a ≤ m → a ≤ u + (n + (m + z))
part-three a u n m z h = omega arith

part-four : (u n m z : ℕ) → z ≤ u + (n + (m + z))
part-four u n m z = omega arith

same : (n : ℕ) → n ≤ n
same n = omega arith

at_most : (a b c : ℕ) → a ≤ b → b ≤ c → a ≤ c
at_most a b c h k = omega arith

module _ (t : Schema) (u v : ℕ) (i : Units t u v) (p : Str) (f : D.Field.Field) (key : Option Key) where
  size_below : (k : Kind) → size_as k t (field_of p f key) ≤ u + numbers_of v f
  unfolding size_as scalar_size numbers_of
  size_below K.Scalar = part-one (scalar_size t (opt_of p f.type_name)) u (v * or_else f.count 0) (v * or_else f.rows 0 * or_else f.cols 0) (or_else f.size 0) (at_most (scalar_size t (opt_of p f.type_name)) v u (i.scalar (or_else (opt_of p f.type_name) (bytes "u8"))) i.narrow)
  size_below K.Enum = part-one (sized (opt_of p f.type_name) (enum_size t.enums) 1) u (v * or_else f.count 0) (v * or_else f.rows 0 * or_else f.cols 0) (or_else f.size 0) (named-below u (opt_of p f.type_name) (enum_size t.enums) 1 (at_most 1 4 u (omega arith) i.four) i.enum)
  size_below K.TypeAlias = part-one (sized (opt_of p f.type_name) (alias_size t.scalars t.aliases) 2) u (v * or_else f.count 0) (v * or_else f.rows 0 * or_else f.cols 0) (or_else f.size 0) (named-below u (opt_of p f.type_name) (alias_size t.scalars t.aliases) 2 (at_most 2 4 u (omega arith) i.four) (alias-below u t.scalars t.aliases (at_most 2 4 u (omega arith) i.four) (λ x. at_most (prim_size t.scalars x) v u (i.scalar x) i.narrow)))
  size_below K.Bitfield = part-one (sized (opt_of p f.type_name) (bitfield_size t.bitfields) 0) u (v * or_else f.count 0) (v * or_else f.rows 0 * or_else f.cols 0) (or_else f.size 0) (named-below u (opt_of p f.type_name) (bitfield_size t.bitfields) 0 (at_most 0 4 u (omega arith) i.four) i.bits)
  size_below K.InlineArray = part-two (scalar_size t (opt_of p f.element) * or_else f.count 0) u (v * or_else f.count 0) (v * or_else f.rows 0 * or_else f.cols 0) (or_else f.size 0) (mul-le-mul (i.scalar (or_else (opt_of p f.element) (bytes "u8"))) (same (or_else f.count 0)))
  size_below K.InlineArray2d = part-three (scalar_size t (opt_of p f.element) * or_else f.rows 0 * or_else f.cols 0) u (v * or_else f.count 0) (v * or_else f.rows 0 * or_else f.cols 0) (or_else f.size 0) (mul-le-mul (mul-le-mul (i.scalar (or_else (opt_of p f.element) (bytes "u8"))) (same (or_else f.rows 0))) (same (or_else f.cols 0)))
  size_below K.CstrPtr = part-one 4 u (v * or_else f.count 0) (v * or_else f.rows 0 * or_else f.cols 0) (or_else f.size 0) i.four
  size_below K.StructPtr = part-one 4 u (v * or_else f.count 0) (v * or_else f.rows 0 * or_else f.cols 0) (or_else f.size 0) i.four
  size_below K.StructArrayPtr = part-one 4 u (v * or_else f.count 0) (v * or_else f.rows 0 * or_else f.cols 0) (or_else f.size 0) i.four
  size_below K.StructPtrArrayPtr = part-one 4 u (v * or_else f.count 0) (v * or_else f.rows 0 * or_else f.cols 0) (or_else f.size 0) i.four
  size_below K.TaggedFamPtr = part-one 4 u (v * or_else f.count 0) (v * or_else f.rows 0 * or_else f.cols 0) (or_else f.size 0) i.four
  size_below K.SimpleFamPtr = part-one 4 u (v * or_else f.count 0) (v * or_else f.rows 0 * or_else f.cols 0) (or_else f.size 0) i.four
  size_below K.OpaquePtr = part-one 4 u (v * or_else f.count 0) (v * or_else f.rows 0 * or_else f.cols 0) (or_else f.size 0) i.four
  size_below K.FnPtr = part-one 4 u (v * or_else f.count 0) (v * or_else f.rows 0 * or_else f.cols 0) (or_else f.size 0) i.four
  size_below K.Padding = part-four u (v * or_else f.count 0) (v * or_else f.rows 0 * or_else f.cols 0) (or_else f.size 0)
  size_below K.Text = part-one 0 u (v * or_else f.count 0) (v * or_else f.rows 0 * or_else f.cols 0) (or_else f.size 0) (at_most 0 4 u (omega arith) i.four)
  size_below K.Other = part-one 0 u (v * or_else f.count 0) (v * or_else f.rows 0 * or_else f.cols 0) (or_else f.size 0) (at_most 0 4 u (omega arith) i.four)

  shape-below : shape_size t (field_of p f key) ≤ u + numbers_of v f
  unfolding shape_size
  shape-below = size_below (kind_of (field_of p f key).kind)

end-within : (t : Schema) (at : ℕ) (f : Field) (fs : List Field) → at + shape_size t f ≤ limit → any large (places t (at + shape_size t f) fs) ≡ false → any large (places t at (f ∷ fs)) ≡ false
unfolding places place_of any large
end-within t at f fs h k = rw (le-ltb limit (at + shape_size t f) h) k

-- what a command takes of the bound: a field one unit and its numbers, a family the two units of its front
unfoldable bound_at : ℕ → ℕ → Str → ℕ → ℕ
bound_at u v s at = cond (eqb (get_or s at 0) 11) (u + numbers_of v (field_at (drop at s))) (cond (eqb (get_or s at 0) 9) (u + u) 0)

-- the fields of a type end within the limit, and so do the fronts of families
module _ (t : Schema) (u v : ℕ) (i : Units t u v) (s p : Str) where
  fields-below : (ps : List ℕ) (at : ℕ) → at + total_of (bound_at u v s) ps ≤ limit → any large (places t at (fields s p ps)) ≡ false
  unfolding fields listed total_of bound_at places any
  fields-below [] at h = refl
  fields-below (x ∷ ps) at h = go (fields-below ps) (eqb (get_or s x 0) 11) h
    where
      go : ((k : ℕ) → k + total_of (bound_at u v s) ps ≤ limit → any large (places t k (fields s p ps)) ≡ false) → (b : Bool)
          → at + (cond b (u + numbers_of v (field_at (drop x s))) (cond (eqb (get_or s x 0) 9) (u + u) 0) + total_of (bound_at u v s) ps) ≤ limit
          → any large (places t at (cond b (field_of p (field_at (drop x s)) (first (keys s p ps)) ∷ fields s p ps) (cond (eqb (get_or s x 0) 12) (fields s p ps) []))) ≡ false
      go ih true h =
          let l = shape-below t u v i p (field_at (drop x s)) (first (keys s p ps)) in
          field-ends (ih (at + shape_size t (field_of p (field_at (drop x s)) (first (keys s p ps)))) (omega arith)) (omega arith)
        where
          field-ends : any large (places t (at + shape_size t (field_of p (field_at (drop x s)) (first (keys s p ps)))) (fields s p ps)) ≡ false
              → at + shape_size t (field_of p (field_at (drop x s)) (first (keys s p ps))) ≤ limit
              → any large (places t at (field_of p (field_at (drop x s)) (first (keys s p ps)) ∷ fields s p ps)) ≡ false
          field-ends a b = end-within t at (field_of p (field_at (drop x s)) (first (keys s p ps))) (fields s p ps) b a
      go ih false h = other (eqb (get_or s x 0) 12)
        where
          other : (b : Bool) → any large (places t at (cond b (fields s p ps) [])) ≡ false
          other true = ih at (at_most (at + total_of (bound_at u v s) ps) (at + (cond (eqb (get_or s x 0) 9) (u + u) 0 + total_of (bound_at u v s) ps)) limit (omega arith) h)
          other false = refl

  module _ (x : ℕ) (ps : List ℕ) where
    opened-front : eqb (get_or s x 0) 9 ≡ true → opened s p (x ∷ ps) ≡ record { place = x; fields = fam_prefix (family_of p (family_at (drop x s)) [] []) ++ fields s p ps } ∷ opened s p ps
    unfolding opened opened_at
    opened-front q = rw q

    opened-plain : eqb (get_or s x 0) 9 ≡ false → (eqb (get_or s x 0) 8 || eqb (get_or s x 0) 10) ≡ true → opened s p (x ∷ ps) ≡ record { place = x; fields = fields s p ps } ∷ opened s p ps
    unfolding opened opened_at
    opened-plain q w = rw (q, w)

    opened-skip : eqb (get_or s x 0) 9 ≡ false → (eqb (get_or s x 0) 8 || eqb (get_or s x 0) 10) ≡ false → opened s p (x ∷ ps) ≡ opened s p ps
    unfolding opened opened_at
    opened-skip q w = rw (q, w)

    front-bound : get_or s x 0 ≡ 9 → bound_at u v s x ≡ u + u
    unfolding bound_at
    front-bound e = rw e

  disc-below : (m : Family) → disc_size t m ≤ u
  unfolding disc_size
  disc-below m = i.enum m.disc_type

  len_below : (m : Family) → len_size t m ≤ v
  unfolding len_size scalar_size
  len_below m = i.scalar (or_else m.len_type (bytes "u8"))

  front_ends : (m : Family) → front_end t m ≡ disc_size t m + len_size t m
  unfolding front_end
  front_ends m = refl

  front_below : (m : Family) (ps : List ℕ) → u + u + total_of (bound_at u v s) ps ≤ limit → any large (places t 0 (fam_prefix m ++ fields s p ps)) ≡ false
  front_below m ps h =
      let a = disc-below m in
      let b = len_below m in
      let c = i.narrow in
      let d = front_ends m in
      front-places t m (fields s p ps) ∙ rw (le-ltb limit (disc_size t m) (omega arith), le-ltb limit (front_end t m) (omega arith)) (fields-below ps (front_end t m) (omega arith))

  none-vast : (ps : List ℕ) → total_of (bound_at u v s) ps ≤ limit → find (vast t) (opened s p ps) ≡ None
  unfolding opened find total_of vast
  none-vast [] h = refl
  none-vast (x ∷ ps) h = go (none-vast ps) (eqb (get_or s x 0) 9) refl (eqb (get_or s x 0) 8 || eqb (get_or s x 0) 10) refl
    where
      go : (total_of (bound_at u v s) ps ≤ limit → find (vast t) (opened s p ps) ≡ None) → (b : Bool) → eqb (get_or s x 0) 9 ≡ b → (c : Bool) → (eqb (get_or s x 0) 8 || eqb (get_or s x 0) 10) ≡ c
          → find (vast t) (opened s p (x ∷ ps)) ≡ None
      go ih true q c w =
          let f = front-bound x ps (eqb-true (get_or s x 0) 9 q) in
          find-miss (vast t) (opened s p (x ∷ ps)) _ (opened s p ps) (opened-front x ps q) (front_below (family_of p (family_at (drop x s)) [] []) ps (omega (arith, h, f))) ∙ ih (omega (arith, h))
      go ih false q true w = find-miss (vast t) (opened s p (x ∷ ps)) _ (opened s p ps) (opened-plain x ps q w) (fields-below ps 0 (omega (arith, h))) ∙ ih (omega (arith, h))
      go ih false q false w = ap (find (vast t)) (opened-skip x ps q w) ∙ ih (omega (arith, h))

-- the commands together take no more than the bound
twice : (u w : ℕ) → 2 ≤ w → u + u ≤ u * w
twice u w h = at_most (u + u) (u * 2) (u * w) (omega arith) (mul-le-mul_left u h)

added-below : (a b p q r x y : ℕ) → a ≤ p + x → b ≤ q + y → r ≡ p + q → a + b ≤ r + (x + y)
added-below a b p q r x y h k e = omega arith

all-within : (t m n x : ℕ) → t ≤ m + x → m ≡ n → n + x ≤ limit → t ≤ limit
all-within t m n x h q k = omega arith

module _ (u v : ℕ) (s : Str) where
  command-below : (at : ℕ) → bound_at u v s at ≤ u * width_of (get_or s at 0) + extra_at v s at
  unfolding bound_at extra_at operands bytes wide widths width_with width_of
  command-below at = go (eqb (get_or s at 0) 11) refl (eqb (get_or s at 0) 9) refl
    where
      go : (b : Bool) → eqb (get_or s at 0) 11 ≡ b → (c : Bool) → eqb (get_or s at 0) 9 ≡ c
          → cond b (u + numbers_of v (field_at (drop at s))) (cond c (u + u) 0) ≤ u * width_of (get_or s at 0) + cond b (numbers_of v (field_at (drop at s))) 0
      go true q c r = rw (eqb-true (get_or s at 0) 11 q) (let h = twice u 33 (omega arith) in omega arith)
      go false q true r = rw (eqb-true (get_or s at 0) 9 r) (let h = twice u 17 (omega arith) in omega arith)
      go false q false r = omega arith

  commands-below : (at : ℕ) → total_of (bound_at u v s) (commands_at s at) ≤ u * (length s - at) + total_of (extra_at v s) (commands_at s at)
  unfolding total_of
  commands-below =
      along s (λ (at : ℕ). total_of (bound_at u v s) (commands_at s at) ≤ u * (length s - at) + total_of (extra_at v s) (commands_at s at))
      (λ at e. rw (commands-stop s at e) (omega arith))
      (λ at c k e ih. rw (commands-next s at c k e) (added-below _ _ _ _ _ _ _ (command-below at) ih (parted at c k e)))
    where
      parted : (at : ℕ) (c : Command) (k : Cursor) → step_at s at ≡ Some (c, k) → u * (length s - at) ≡ u * width_of (get_or s at 0) + u * (length s - k.at)
      parted at c k e =
          let g = step-found s at c k e in
          let w = g.wide in
          let l = g.within in
          ap (λ (n : ℕ). u * n) (let d : length s - at ≡ width_of (get_or s at 0) + (length s - k.at) = omega arith in d)
          ∙ mul-add u (width_of (get_or s at 0)) (length s - k.at)

module _ (rows s p : Str) (v : ℕ) (e : v ≡ capped (sum_sizes (scalars_of rows))) (l : v ≤ limit) where
  units : Units (schema_of (rec s p (scalars_of rows))) (unit_of v s) v
  unfolding schema_of schema_from unit_of
  units =
      let m = cap-exact (sum_sizes (scalars_of rows)) v e l in
      record {
        four = omega arith;
        narrow = omega arith;
        scalar = λ x. at_most (prim_size (scalars_of rows) x) (sum_sizes (scalars_of rows)) v (prim-below (scalars_of rows) x) (omega arith);
        enum = λ n. at_most (sized (Some n) (enum_size (enums s p (commands_at s 0))) 1) (1 + total_of (unit_at s) (commands_at s 0)) (unit_of v s) (enum-below s p n (commands_at s 0)) (omega arith);
        bits = λ n. at_most (sized (Some n) (bitfield_size (bitfields s p (commands_at s 0))) 0) (0 + total_of (unit_at s) (commands_at s 0)) (unit_of v s) (bits_below s p n (commands_at s 0)) (omega arith);
      }

  bounded-none : bound_of v s ≤ limit → None ≡ first_vast (rec s p (scalars_of rows)) 0
  unfolding first_vast opened_from bound_of
  bounded-none b =
      let total = all-within _ _ _ _ (commands-below (unit_of v s) v s 0) (ap (λ (n : ℕ). unit_of v s * n) (sub-zero (length s))) b in
      sym (ap vast_at (none-vast (schema_of (rec s p (scalars_of rows))) (unit_of v s) v units s p (commands_at s 0) total))

-- in a stream with a byte the bound is not below what a scalar takes
scalar-within : (v : ℕ) (s : Str) → 1 ≤ length s → bound_of v s ≤ limit → v ≤ limit
unfolding unit_of bound_of
scalar-within v s h b = low v (unit_of v s) (unit_of v s * length s) (total_of (extra_at v s) (commands_at s 0)) (omega arith) (le-mul_of_pos_right {m = length s} (unit_of v s) h) b
  where
    low : (v u m x : ℕ) → v ≤ u → u ≤ m → m + x ≤ limit → v ≤ limit
    low v u m x h k l = omega arith

pub small-none : (rows s p : Str) (v : ℕ) (r : Bool) → v ≡ capped (sum_sizes (scalars_of rows)) → r ≡ leb (bound_of v s) limit → r ≡ true → None ≡ first_vast (rec s p (scalars_of rows)) 0
unfolding first_vast opened_from opened find commands_at commands_from
small-none rows [] p v r e q h = refl
small-none rows (x ∷ xs) p v r e q h =
    let b = leb-true (bound_of v (x ∷ xs)) limit (sym q ∙ h) in
    bounded-none rows (x ∷ xs) p v e (scalar-within v (x ∷ xs) (omega arith) b) b
