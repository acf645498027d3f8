-- A step along any list and the search along one by name, as the branches of the code need them. Assumes nothing.
use Rattle.std.specs.Prelude.{Option, Some, None}
use Prim.Native.Nat.{ℕ, ◌+◌, ◌-◌, ◌<◌}
use mathlib.Core.Bool.{Bool, true, false}
use mathlib.Core.Path.{◌≡◌, refl, sym, ap, ap₂, subst, ◌∙◌}
use native.Mathlib.Omega.{arith}
use lib.ListN.{length, drop}
use Rattle.record.specs.Base.{Str, eqs}
use Rattle.record.specs.Commands.{width_of, commands_at, place}
use Rattle.record.specs.Listing.{Over, Next, Listing, Naming, named_at}
use Rattle.record.specs.Seek.{SoughtFrom}
use Rattle.record.specs.Stretch.{text_of}
use Rattle.record.specs.declared.command.Cursor.{Cursor}
use Rattle.record.specs.declared.seek.Between.{Between}
use Rattle.record.specs.declared.text.Text.{Text}
use Rattle.record.proofs.ListLaws.{find_none, find-hit, find-miss}
use Rattle.record.proofs.SeekLaws.{sought-stands, sought-nearer, listed-none, listed-some}

module _ {E : Type 0} (l : Listing E) (s : Str) (at : ℕ) (r : Option (ℕ × ℕ)) (i : SoughtFrom s l.elements.between l.elements.number at r) where
  pub listing-over : r ≡ None → l.From s at None
  listing-over m = l.answers.over s at (record { list = λ p. listed-none s _ _ _ at r i m; left = omega arith })

  module _ (a k : ℕ) (m : r ≡ Some (a, k)) where
    found : l.From s at (Some (l.elements.read (drop a s), place k))
    found =
        let h = sought-stands s _ _ at r i a k m in
        let w : k ≡ a + width_of l.elements.number = h.after in
        let z : k - width_of l.elements.number ≡ a = omega arith in
        l.answers.next s at _ (place k)
        (record { list = λ p. listed-some s _ _ _ at r i a k m; left = sought-nearer s _ _ at r i a k m })
        (record { past = omega arith; in-stream = rw z h.in-stream; number = rw z h.number; operands = rw z refl })

    pub listing-next : (y : Str) (e : E) (c : Cursor) → y ≡ drop a s → e ≡ l.elements.read y → c ≡ place k → l.From s at (Some (e, c))
    listing-next y e c d f g =
        subst (λ (x : E × Cursor). l.From s at (Some x)) (ap₂ (λ (x : E) (z : Cursor). (x, z)) (sym (f ∙ ap l.elements.read d)) (sym g)) found

-- the same, where number and what may stand between came as a pair
module _ {E : Type 0} (l : Listing E) (s : Str) (at : ℕ) (q : ℕ × Between) (h : q ≡ (l.elements.number, l.elements.between)) (r : Option (ℕ × ℕ)) (i : SoughtFrom s q.1 q.0 at r) where
  sought : SoughtFrom s l.elements.between l.elements.number at r
  sought = subst (λ (x : ℕ × Between). SoughtFrom s x.1 x.0 at r) h i

  pub step-over : r ≡ None → l.From s at None
  step-over m = listing-over l s at r sought m

  pub step-next : (a k : ℕ) → r ≡ Some (a, k) → (y : Str) (e : E) (c : Cursor) → y ≡ drop a s → e ≡ l.elements.read y → c ≡ place k → l.From s at (Some (e, c))
  step-next a k m = listing-next l s at r sought a k m

-- the search along a list by name ------------------------------------------------------------------------------------------

module _ {E : Type 0} (l : Listing E) (g : Naming E) (along : (s : Str) (at : ℕ) (r : Option (E × Cursor)) → l.From s at r → g.list.From s at r) (s : Str) (at : ℕ) where
  pub naming-nearer : (x : E × Cursor) → l.From s at (Some x) → length s - x.1.at < length s - at
  naming-nearer x f = (g.answers.next s at x.0 x.1 (along s at (Some x) f)).left

module _ {E : Type 0} (l : Listing E) (g : Naming E) (along : (s : Str) (at : ℕ) (r : Option (E × Cursor)) → l.From s at r → g.list.From s at r) (s : Str) (at : ℕ) (r : Option (E × Cursor)) (f : l.From s at r) where
  over-now : r ≡ None → Over g.list.elements s at
  over-now m = g.answers.over s at (subst (g.list.From s at) m (along s at r f))

  next-now : (e : E) (k : Cursor) → r ≡ Some (e, k) → Next g.list.elements s at e k
  next-now e k m = g.answers.next s at e k (subst (g.list.From s at) m (along s at r f))

  module _ (p n : Str) (from : ℕ) (i : named_at g.list.elements g.name_of s p from n ≡ named_at g.list.elements g.name_of s p at n) where
    pub naming-none : r ≡ None → g.Found s p from n None
    naming-none m = g.answers.none s p from n (i ∙ find_none _ _ ((over-now m).list p))

    module _ (e : E) (k : Cursor) (m : r ≡ Some (e, k)) (t : Text) (h : t ≡ g.name e) (x : Str) (d : x ≡ text_of p t) (b : Bool) (j : b ≡ eqs x n) where
      same : eqs (g.name_of (g.list.elements.of s p e (commands_at s k.at))) n ≡ b
      same = ap (λ y. eqs y n) (g.answers.named s p e _ ∙ ap (text_of p) (sym h) ∙ sym d) ∙ sym j

      pub naming-hit : b ≡ true → g.Found s p from n (Some (e, k))
      naming-hit z = g.answers.some s p from n e k (i ∙ find-hit _ _ _ _ ((next-now e k m).list p) (same ∙ z))

      pub naming-miss : b ≡ false → named_at g.list.elements g.name_of s p from n ≡ named_at g.list.elements g.name_of s p k.at n
      naming-miss z = i ∙ find-miss _ _ _ _ ((next-now e k m).list p) (same ∙ z)
