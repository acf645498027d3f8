-- The check of pointers accepts exactly if every field points where it must, and else gives the first that does not: 02, W-212. Assumes nothing.
use Rattle.std.specs.Prelude.{Option, Some, None}
use mathlib.Core.Path.{◌≡◌, refl, sym, ◌∙◌, ap, subst}
use mathlib.Core.List.Memᴰ
use mathlib.Core.List.{List, [], ◌∷◌}
use mathlib.Core.Logic.{◌⊎◌, inl, inr}
use Prim.Native.Nat.{ℕ, ◌≤◌}
use native.Mathlib.Omega.{arith}
use lib.Dec.{lit≤}
use Rattle.record.specs.Schema.{Schema, Field}
use Rattle.record.specs.Owner.{types_in}
use Rattle.record.specs.Refusals.{refusal_number}
use Rattle.record.specs.Reading.{Rec, Reading, read, refuse, reading}
use Rattle.record.specs.declared.refusal.Refusal.{Refusal}
use Rattle.record.specs.declared.refusal.Refusal.TheVariants as R
use Rattle.record.specs.declared.refusal.Side.TheVariants.{Current}
use Rattle.layout.specs.Answer.{Answer, refusal_of}
use Rattle.pointers.specs.Pointers.{field_fault, field_here, field_places, accepted, or_next, first_fault, pointers_read, pointers}
use Rattle.pointers.specs.Rule.{Points, AllPoint, AllPointAt, FirstBroken}
use Rattle.pointers.proofs.RuleLaws.{FaultMeans, fault-means, points_none, breaks-number}
use Rattle.pointers.proofs.Fields.{of_fields, at_places}

refusal-within : (n : Refusal) → (1 ≤ refusal_number n) × (refusal_number n ≤ 9)
refusal-within R.Cut = (lit≤ tt, lit≤ tt)
refusal-within R.Unknown = (lit≤ tt, lit≤ tt)
refusal-within R.Misplaced = (lit≤ tt, lit≤ tt)
refusal-within R.Outside = (lit≤ tt, lit≤ tt)
refusal-within R.Missing = (lit≤ tt, lit≤ tt)
refusal-within R.Flag = (lit≤ tt, lit≤ tt)
refusal-within R.Letter = (lit≤ tt, lit≤ tt)
refusal-within R.Long = (lit≤ tt, lit≤ tt)
refusal-within R.Vast = (lit≤ tt, lit≤ tt)

refusal-not-zero : (n : Refusal) (at : ℕ) → (refusal_of Current n at).number ≡ 0 → ⊥
unfolding refusal_of
refusal-not-zero n at e = let k = (refusal-within n).0 in omega arith

refusal-not-above : (n : Refusal) (at : ℕ) → 10 ≤ (refusal_of Current n at).number → ⊥
unfolding refusal_of
refusal-not-above n at e = let k = (refusal-within n).1 in omega arith

module _ (r : Rec) (c : Schema) where
  abbrev first : List ℕ → Answer
  first ps = first_fault (types_in c) r.stream r.pool ps

  abbrev here : ℕ → Field
  here at = field_here r.stream r.pool at

  -- all point where they must, and the check accepts; or the first that does not
  abbrev AllOrFirst : List ℕ → Answer → Type 0
  AllOrFirst ps a = (AllPointAt r c ps × (a ≡ accepted)) ⊎ FirstBroken r c ps a

  all-or-first : (ps : List ℕ) → AllOrFirst ps (first ps)
  unfolding first_fault or_next
  all-or-first [] = inl (λ at m. absurd (Memᴰ.not-nil m), refl)
  all-or-first (at ∷ ps) = go (field_fault (types_in c) (here at)) (fault-means (types_in c) (here at)) (all-or-first ps)
    where
      more : Points (types_in c) (here at) → (qs : List ℕ) → AllPointAt r c qs → AllPointAt r c (at ∷ qs)
      more p qs a x (Memᴰ.head e) = subst (λ (y : ℕ). Points (types_in c) (here y)) (sym e) p
      more p qs a x (Memᴰ.tail m) = a x m

      go : (o : Option ℕ) → FaultMeans (types_in c) (here at) o → AllOrFirst ps (first ps) → AllOrFirst (at ∷ ps) (or_next at o (first ps))
      go None p (inl w) = inl (more p ps w.0, w.1)
      go None p (inr w) = inr (record {
        before = at ∷ w.before;
        after = w.after;
        split = ap (λ (l : List ℕ). at ∷ l) w.split;
        all-point = more p w.before w.all-point;
        breaks = w.breaks;
        rest = w.rest;
      })
      go (Some n) b w = inr (record {
        before = [];
        after = ps;
        split = refl;
        all-point = λ x m. absurd (Memᴰ.not-nil m);
        breaks = b;
        rest = refl;
      })

  accepted-at : (ps : List ℕ) → AllPointAt r c ps → first ps ≡ accepted
  unfolding first_fault or_next
  accepted-at [] h = refl
  accepted-at (at ∷ ps) h =
      let none_here =
      points_none (types_in c) (here at) (field_fault (types_in c) (here at)) (fault-means (types_in c) (here at)) (h at (Memᴰ.head refl))
      in
      ap (λ (o : Option ℕ). or_next at o (first ps)) none_here ∙ accepted-at ps (λ x m. h x (Memᴰ.tail m))

-- 02: "It accepts exactly if no field breaks this". An accepted record is readable, and every field of its structures, families and variants points
-- where it must ..
pub accepts : (r : Rec) → (pointers r).number ≡ 0 → (c : Schema) × (reading Current r ≡ read c) × AllPoint c
unfolding pointers pointers_read
accepts r h = go (reading Current r) refl h
  where
    at : (c : Schema) → reading Current r ≡ read c → (first r c (field_places r.stream)).number ≡ 0
        → AllOrFirst r c (field_places r.stream) (first r c (field_places r.stream))
        → (d : Schema) × (reading Current r ≡ read d) × AllPoint d
    at c e k (inl w) = (c, e, of_fields r c e (Points (types_in c)) (λ d x y h. h) w.0)
    at c e k (inr w) = absurd (breaks-number _ _ _ w.breaks k)

    go : (x : Reading) → reading Current r ≡ x → (pointers_read r x).number ≡ 0 → (d : Schema) × (reading Current r ≡ read d) × AllPoint d
    go (refuse x p) e k = absurd (refusal-not-zero x p k)
    go (read c) e k = at c e k (all-or-first r c (field_places r.stream))

-- .. and every such record is accepted
pub accepts-back : (r : Rec) (c : Schema) → reading Current r ≡ read c → AllPoint c → pointers r ≡ accepted
unfolding pointers pointers_read
accepts-back r c e a = rw e (accepted-at r c (field_places r.stream) (at_places r c e (Points (types_in c)) (λ d x y h. h) a))

-- 02: "and otherwise gives the place of the first that does". A readable record that is not accepted has a first field that breaks the rule
pub first-broken : (r : Rec) (c : Schema) → reading Current r ≡ read c → ((pointers r).number ≡ 0 → ⊥)
    → FirstBroken r c (field_places r.stream) (pointers r)
unfolding pointers pointers_read
first-broken r c e n = go (all-or-first r c (field_places r.stream))
  where
    is : pointers r ≡ first r c (field_places r.stream)
    is = rw e

    go : AllOrFirst r c (field_places r.stream) (first r c (field_places r.stream)) → FirstBroken r c (field_places r.stream) (pointers r)
    go (inl w) = absurd (n (ap (λ (a : Answer). a.number) (is ∙ w.1)))
    go (inr w) = subst (FirstBroken r c (field_places r.stream)) (sym is) w

-- 02: "both after all record refusals"
pub refused-first : (r : Rec) (x : Refusal) (at : ℕ) → reading Current r ≡ refuse x at → pointers r ≡ refusal_of Current x at
unfolding pointers pointers_read
refused-first r x at e = rw e

-- a number above the refusals, so 59 or 60, is given of a readable record alone
pub broken-readable : (r : Rec) → 10 ≤ (pointers r).number → (c : Schema) × (reading Current r ≡ read c)
unfolding pointers pointers_read
broken-readable r h = go (reading Current r) refl h
  where
    go : (x : Reading) → reading Current r ≡ x → 10 ≤ (pointers_read r x).number → (c : Schema) × (reading Current r ≡ read c)
    go (refuse x at) e k = absurd (refusal-not-above x at k)
    go (read c) e k = (c, e)
