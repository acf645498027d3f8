-- The table of fronts while it is filled, and what two fronts say of their names. Assumes nothing.
use Prim.Native.Nat.{ℕ, ◌+◌, ◌*◌, ◌/◌, ◌%◌, ◌<◌}
use mathlib.Core.Path.{◌≡◌, refl, sym, ap, subst, ◌∙◌}
use mathlib.Core.List.{List}
use mathlib.Core.Bool.{Bool, true, false}
use native.Mathlib.Omega.{arith}
use lib.Dec.{eqb, ltb}
use borrow.Author.Tests.{eqb-true, eqb-false, ltb-true, ltb-false}
use lib.ListN.{length, get_or, set}
use lib.Seq.{get_or-set_same, get_or-set_other}
use Rattle.record.specs.Base.{Str, before}
use Rattle.record.specs.Words.{Fronted}
use Rattle.record.specs.Marks.{Clear}
use Rattle.record.proofs.WordLaws.{front_below, front_above}
use Rattle.layout.specs.Handles.{name_at, family_part, place_part, type_name}
use Rattle.layout.specs.Fronts.{Fronts, FrontPut}
use Rattle.layout.proofs.NameLaws.{own-names}

-- one entry ------------------------------------------------------------------------------------------------------------------

module _ (t : List ℕ) (at front : ℕ) where
  pub put-none : FrontPut t at front t
  put-none = record { kept = λ s p f e. f }

  -- an entry that says the place and has the front
  put_right : (x : ℕ) → (x % 131072 ≡ at + 1) × (x / 131072 ≡ front) → at / 4 < length t → FrontPut t at front (set t (at / 4) x)
  put_right x v l = record { kept = λ s p f e. record { right = λ i to q. go s p f e i to (eqb i (at / 4)) refl q } }
    where
      here : (s p : Str) → Fronted (name_at s p at) front → (to : ℕ) → x % 131072 ≡ to + 1 → Fronted (name_at s p to) (x / 131072)
      here s p e to q =
          let u = v.0 in
          let k : at ≡ to = omega arith in
          subst (λ (n : ℕ). Fronted (name_at s p to) n) (sym v.1) (subst (λ (n : ℕ). Fronted (name_at s p n) front) k e)

      go : (s p : Str) → Fronts s p t → Fronted (name_at s p at) front → (i to : ℕ) → (b : Bool) → eqb i (at / 4) ≡ b
          → get_or (set t (at / 4) x) i 0 % 131072 ≡ to + 1 → Fronted (name_at s p to) (get_or (set t (at / 4) x) i 0 / 131072)
      go s p f e i to true c q =
          let n : get_or (set t (at / 4) x) i 0 ≡ x = ap (λ (j : ℕ). get_or (set t (at / 4) x) j 0) (eqb-true i (at / 4) c) ∙ get_or-set_same t (at / 4) x 0 l in
          subst (λ (y : ℕ). Fronted (name_at s p to) (y / 131072)) (sym n) (here s p e to (ap (λ (y : ℕ). y % 131072) (sym n) ∙ q))
      go s p f e i to false c q =
          let n : get_or (set t (at / 4) x) i 0 ≡ get_or t i 0 = get_or-set_other t (at / 4) i x 0 (eqb-false i (at / 4) c) in
          subst (λ (y : ℕ). Fronted (name_at s p to) (y / 131072)) (sym n) (f.right i to (ap (λ (y : ℕ). y % 131072) (sym n) ∙ q))

  pub put-entry : at < 65536 → front < 4294967296 → at / 4 < length t → FrontPut t at front (set t (at / 4) (front * 131072 + at + 1))
  put-entry a b l = put_right (front * 131072 + at + 1) (omega arith, omega arith) l

pub ruleset put-laws = (put-none, put-entry)

-- the whole table ------------------------------------------------------------------------------------------------------------

pub fronts-clear : (s p : Str) (t : List ℕ) → Clear t → Fronts s p t
fronts-clear s p t c = record { right = λ i at q. absurd (let z = c.none i in omega arith) }

pub fronts-more : (s p : Str) (t u : List ℕ) (at x : ℕ) (n : Str) → Fronts s p t → n ≡ name_at s p at → Fronted n x → FrontPut t at x u → Fronts s p u
fronts-more s p t u at x n f e g h = h.kept s p f (subst (λ (m : Str). Fronted m x) e g)

-- two fronts -----------------------------------------------------------------------------------------------------------------

module _ (s p : Str) (t : List ℕ) (f : Fronts s p t) (g h a b c d : ℕ) (i : a ≡ family_part g) (j : b ≡ family_part h) (same : a ≡ b) (k : c ≡ place_part g) (l : d ≡ place_part h)
    (x y : ℕ)
    (m : (get_or t (c / 4) 0 % 131072 ≡ c + 1) × (x ≡ get_or t (c / 4) 0 / 131072)) (n : (get_or t (d / 4) 0 % 131072 ≡ d + 1) × (y ≡ get_or t (d / 4) 0 / 131072)) where
  first : Fronted (name_at s p c) x
  first = subst (λ (z : ℕ). Fronted (name_at s p c) z) (sym m.1) (f.right (c / 4) c m.0)

  second : Fronted (name_at s p d) y
  second = subst (λ (z : ℕ). Fronted (name_at s p d) z) (sym n.1) (f.right (d / 4) d n.0)

  pub fronts-below : x < y → true ≡ before (type_name s p g) (type_name s p h)
  fronts-below q = own-names s p g h a b c d (name_at s p c) (name_at s p d) true i j same k l refl refl (front_below (name_at s p c) (name_at s p d) x y first second q)

  pub fronts-above : y < x → false ≡ before (type_name s p g) (type_name s p h)
  fronts-above q = own-names s p g h a b c d (name_at s p c) (name_at s p d) false i j same k l refl refl (front_above (name_at s p c) (name_at s p d) x y first second q)

  pub fronts-differ : (x ≡ y → ⊥) → ltb x y ≡ before (type_name s p g) (type_name s p h)
  fronts-differ q = go (ltb x y) refl
    where
      go : (t : Bool) → ltb x y ≡ t → t ≡ before (type_name s p g) (type_name s p h)
      go true e = fronts-below (ltb-true x y e)
      go false e = let u = ltb-false x y e in fronts-above (omega arith)
