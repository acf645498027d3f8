-- The search for a type. Assumes nothing.
use Rattle.std.specs.Prelude.{Some, None}
use mathlib.Core.Path.{◌≡◌, refl, sym, ap, ◌∙◌}
use mathlib.Core.List.{List, [], ◌∷◌, ◌++◌, append_assoc, append-nil}
use mathlib.Core.Bool.{Bool, true, false, ◌||◌}
use Prim.Native.Nat.{ℕ, ◌≤◌, ◌<◌}
use native.Mathlib.Omega.{arith}
use lib.ListN.{get_or, drop}
use lib.Dec.{eqb}
use borrow.Author.Tests.{ne_eqb, lt-ltb, eqb-false}
use Rattle.record.specs.Base.{Str, any, eqs}
use Rattle.record.specs.Stretch.{text_of}
use Rattle.record.specs.Operands.{text_at}
use Rattle.record.specs.Commands.{commands_at}
use Rattle.record.specs.Seek.{after_at}
use Rattle.record.specs.declared.text.Text.{Text}
use Rattle.record.proofs.Stream.{commands-next, commands-stop, step-found}
use Rattle.record.proofs.SeekLaws.{stepped, ended-there}
use Rattle.drafts.specs.Addition.{is_type, is_part}
use Rattle.drafts.specs.Edits.{named, after_parts, without}
use Rattle.drafts.specs.Code.{up_to, chosen}
use Rattle.drafts.specs.Found.{TypeAt}
use Rattle.drafts.proofs.PutLaws.{range-end}

module _ (b : ℕ) where
  pub type-in : 8 ≤ b → b ≤ 9 → true ≡ is_type b
  unfolding is_type
  type-in h k = go (eqb b 8) (eqb b 9) refl refl
    where
      go : (x y : Bool) → eqb b 8 ≡ x → eqb b 9 ≡ y → true ≡ (x || y)
      go true y e f = refl
      go false true e f = refl
      go false false e f = let p = eqb-false b 8 e in let q = eqb-false b 9 f in absurd (omega arith)

  pub type-out : (b ≡ 8 → ⊥) → (b ≡ 9 → ⊥) → false ≡ is_type b
  unfolding is_type
  type-out n m = rw (ne_eqb b 8 n, ne_eqb b 9 m)

  pub part-in : 10 ≤ b → b ≤ 12 → true ≡ is_part b
  unfolding is_part
  part-in h k = go (eqb b 10) (eqb b 11) (eqb b 12) refl refl refl
    where
      go : (x y z : Bool) → eqb b 10 ≡ x → eqb b 11 ≡ y → eqb b 12 ≡ z → true ≡ (x || y || z)
      go true y z e f g = refl
      go false true z e f g = refl
      go false false true e f g = refl
      go false false false e f g = let p = eqb-false b 10 e in let q = eqb-false b 11 f in let r = eqb-false b 12 g in absurd (omega arith)

  pub part-out : (b ≡ 10 → ⊥) → (b ≡ 11 → ⊥) → (b ≡ 12 → ⊥) → false ≡ is_part b
  unfolding is_part
  part-out n m o = rw (ne_eqb b 10 n, ne_eqb b 11 m, ne_eqb b 12 o)

module _ (s p n : Str) (at b : ℕ) (e : b ≡ get_or s at 0) (t : Bool) (f : t ≡ is_type b) where
  pub named_other : t ≡ false → false ≡ named s p n at
  unfolding named
  named_other h = rw (← e, ← f, h)

  pub named-text : (x y : Str) (v : Text) (r : Bool) → t ≡ true → x ≡ drop at s → v ≡ text_at x 1 → y ≡ text_of p v → r ≡ eqs y n → r ≡ named s p n at
  unfolding named
  named-text x y v r h i j k l = rw (← e, ← f, h) (l ∙ ap (λ (z : Str). eqs z n) (k ∙ ap (text_of p) (j ∙ ap (λ (z : Str). text_at z 1) i)))

-- a command and those after it
module _ (s : Str) (at n : ℕ) (e : n ≡ after_at s at) where
  pub commands-on : (n ≡ 0 → ⊥) → commands_at s at ≡ at ∷ commands_at s n
  commands-on z =
      let t = stepped s at n e z in
      commands-next s at t.command t.cursor t.step ∙ ap (λ (j : ℕ). at ∷ commands_at s j) t.to

  pub commands-none : n ≡ 0 → commands_at s at ≡ []
  commands-none z = commands-stop s at (ended-there s at n e z)

  pub later : (n ≡ 0 → ⊥) → at < n
  later z =
      let t = stepped s at n e z in
      let g = step-found s at t.command t.cursor t.step in
      let a = g.on in
      let c = t.to in
      omega arith

  module _ (b : ℕ) (i : b ≡ get_or s at 0) (t : Bool) (f : t ≡ is_part b) where
    pub parts-on : (n ≡ 0 → ⊥) → t ≡ true → after_parts s (commands_at s at) ≡ after_parts s (commands_at s n)
    unfolding after_parts
    parts-on z h = rw (commands-on z, ← i, ← f, h)

    pub parts-end : (n ≡ 0 → ⊥) → t ≡ false → after_parts s (commands_at s at) ≡ commands_at s at
    unfolding after_parts
    parts-end z h = rw (commands-on z, ← i, ← f, h)

  pub parts_none : n ≡ 0 → after_parts s (commands_at s at) ≡ commands_at s at
  unfolding after_parts
  parts_none z = rw (commands-none z)

-- none of the commands before a place is of the name
pub record Finding (s p n : Str) (at : ℕ) : Type 0 where
  pub front : List ℕ
  pub split : commands_at s 0 ≡ front ++ commands_at s at
  pub below : (e : ℕ) → at ≤ e → (l : List ℕ) → up_to e (front ++ l) ≡ front ++ up_to e l
  pub none : (l : List ℕ) → any (named s p n) (front ++ l) ≡ any (named s p n) l
  pub stays : (l : List ℕ) → without s p n (front ++ l) ≡ front ++ without s p n l

pub finding-start : (s p n : Str) → Finding s p n 0
finding-start s p n = record { front = []; split = refl; below = λ e h l. refl; none = λ l. refl; stays = λ l. refl }

module _ (s p n : Str) (at k : ℕ) (c : Finding s p n at) (e : k ≡ after_at s at) where
  pub finding-none : k ≡ 0 → TypeAt s p n None
  unfolding any
  finding-none z = ap (any (named s p n)) c.split ∙ c.none (commands_at s at) ∙ rw (commands-none s at k e z)

  module _ (t : Bool) (f : t ≡ named s p n at) where
    pub finding-on : (k ≡ 0 → ⊥) → t ≡ false → Finding s p n k
    unfolding up_to any without
    finding-on z h =
        let w = later s at k e z in
        let g : named s p n at ≡ false = sym f ∙ h in
        let o : (l : List ℕ) → (c.front ++ at ∷ []) ++ l ≡ c.front ++ (at ∷ l) = λ l. append_assoc c.front (at ∷ []) l in
        record {
          front = c.front ++ at ∷ [];
          split = c.split ∙ ap (λ (l : List ℕ). c.front ++ l) (commands-on s at k e z) ∙ sym (o (commands_at s k));
          below = λ x q l. ap (up_to x) (o l) ∙ c.below x (omega arith) (at ∷ l) ∙ ap (λ (y : List ℕ). c.front ++ y) (rw (lt-ltb at x (omega arith))) ∙ sym (o (up_to x l));
          none = λ l. ap (any (named s p n)) (o l) ∙ c.none (at ∷ l) ∙ rw g;
          stays = λ l. ap (without s p n) (o l) ∙ c.stays (at ∷ l) ∙ ap (λ (y : List ℕ). c.front ++ y) (rw g) ∙ sym (o (without s p n l));
        }

    pub finding-here : (j : ℕ) → (k ≡ 0 → ⊥) → t ≡ true → commands_at s j ≡ after_parts s (commands_at s k) → TypeAt s p n (Some (at, j))
    unfolding any without chosen
    finding-here j z h q =
        let g : named s p n at ≡ true = sym f ∙ h in
        let m = commands-on s at k e z in (
          ap (any (named s p n)) c.split ∙ c.none (commands_at s at) ∙ rw (m, g),
          ap (without s p n) c.split ∙ c.stays (commands_at s at) ∙ ap (λ (y : List ℕ). c.front ++ y) (rw (m, g) (sym q))
              ∙ ap (λ (y : List ℕ). y ++ commands_at s j) (sym first),
        )
      where
        first : up_to at (commands_at s 0) ≡ c.front
        first = ap (up_to at) c.split ∙ c.below at (omega arith) (commands_at s at) ∙ ap (λ (y : List ℕ). c.front ++ y) (range-end s at at (omega arith)) ∙ append-nil c.front
