-- One unjudged step along the stream: it comes nearer to the end, and the places of the commands are its place and the rest. Assumes nothing.
use Rattle.std.specs.Prelude.{Some, None}
use Prim.Native.Nat.{ℕ, zero, suc, ◌+◌, ◌-◌, ◌≤◌, ◌<◌}
use mathlib.Core.List.{List, [], ◌∷◌, Memᴰ}
use mathlib.Core.Bool.{Bool, true, false, cond}
use mathlib.Core.Path.{◌≡◌, refl, sym, ap, subst}
use native.Mathlib.Omega.{arith}
use borrow.Author.Tests.{eqb-false, ltb-true, ltb-false}
use lib.Dec.{eqb, ltb}
use lib.ListN.{length, drop, get_or}
use Rattle.record.specs.declared.command.Cursor.{Cursor}
use Rattle.record.specs.declared.command.Command.{Command}
use Rattle.record.specs.Commands.{width_of, command_of, step_at, place, commands_from, commands_at}
use Rattle.record.proofs.Basics.{same-parts}
use Rattle.record.proofs.CommandLaws.{step_end}
use Rattle.record.specs.Commands.{Step}
use Rattle.record.specs.declared.command as D

-- what a step that finds a command has passed
pub record Taken (b1 b2 b3 b4 : Bool) (d c : Command) (j k : Cursor) : Type 0 where
  pub inside : b1 ≡ true
  pub going : b2 ≡ false
  pub known : b3 ≡ false
  pub whole : b4 ≡ false
  pub that : d ≡ c
  pub next : j ≡ k

pub taken : (b1 b2 b3 b4 : Bool) (d c : Command) (j k : Cursor) → cond {A = Step Command} b1 (cond b2 None (cond b3 None (cond b4 None (Some (d, j))))) None ≡ Some (c, k) → Taken b1 b2 b3 b4 d c j k
taken true true b3 b4 d c j k e = record { inside = cc; going = cc; known = cc; whole = cc; that = cc; next = cc }
taken true false true b4 d c j k e = record { inside = cc; going = cc; known = cc; whole = cc; that = cc; next = cc }
taken true false false true d c j k e = record { inside = cc; going = cc; known = cc; whole = cc; that = cc; next = cc }
taken true false false false d c j k e = let q = same-parts e in record { inside = cc; going = cc; known = cc; whole = cc; that = q.0; next = q.1 }
taken false b2 b3 b4 d c j k e = record { inside = cc; going = cc; known = cc; whole = cc; that = cc; next = cc }

-- what a step says of the bytes at its place
pub record Found (s : List ℕ) (at : ℕ) (c : Command) (k : Cursor) : Type 0 where
  pub on : at < k.at
  pub wide : k.at ≡ at + width_of (get_or s at 0)
  pub within : k.at ≤ length s
  pub is-command : command_of (get_or s at 0) (drop at s) ≡ c
  pub known : width_of (get_or s at 0) ≡ 0 → ⊥
  pub going : get_or s at 0 ≡ 15 → ⊥

module _ (s : List ℕ) (at : ℕ) (c : Command) (k : Cursor) (e : step_at s at ≡ Some (c, k)) where
  pub step-found : Found s at c k
  unfolding step_at
  step-found =
      let b = get_or s at 0 in
      let t = taken (ltb at (length s)) (eqb b 15) (eqb (width_of b) 0) (ltb (length s - at) (width_of b)) (command_of b (drop at s)) c (place (at + width_of b)) k e in
      let n : at + width_of b ≡ k.at = ap (λ (j : Cursor). j.at) t.next in
      let p : at < length s = ltb-true at (length s) t.inside in
      let q : width_of b ≤ length s - at = ltb-false (length s - at) (width_of b) t.whole in
      let z : width_of b ≡ 0 → ⊥ = eqb-false (width_of b) 0 t.known in
      record { on = omega arith; wide = sym n; within = omega arith; is-command = t.that; known = z; going = eqb-false b 15 t.going }

-- more commands than bytes change nothing
enough : (s : List ℕ) (n m at : ℕ) → length s ≤ n + at → length s ≤ m + at → commands_from n s at ≡ commands_from m s at
unfolding commands_from
enough s zero zero at p q = refl
enough s zero (suc m) at p q = rw (← step_end s at (omega arith), commands_from)
enough s (suc n) zero at p q = rw (← step_end s at (omega arith), commands_from)
enough s (suc n) (suc m) at p q = go (enough s n m) (step_at s at) refl
  where
    go : ((to : ℕ) → length s ≤ n + to → length s ≤ m + to → commands_from n s to ≡ commands_from m s to) → (t : Step D.Command.Command) → step_at s at ≡ t → commands_from (suc n) s at ≡ commands_from (suc m) s at
    go ih (Some (c, k)) e =
        let g = step-found s at c k e in
        let a = g.on in
        rw (e, commands_from) (ap (λ (l : List ℕ). at ∷ l) (ih k.at (omega arith) (omega arith)))
    go ih None e = rw (e, commands_from)

module _ (s : List ℕ) (at : ℕ) where
  pub commands-stop : step_at s at ≡ None → commands_at s at ≡ []
  unfolding commands_at commands_from
  commands-stop e = go (length s - at)
    where
      go : (n : ℕ) → commands_from n s at ≡ []
      go zero = refl
      go (suc n) = rw (e, commands_from)

  pub commands-next : (c : Command) (k : Cursor) → step_at s at ≡ Some (c, k) → commands_at s at ≡ at ∷ commands_at s k.at
  unfolding commands_at commands_from
  commands-next c k e =
      let f = step-found s at c k e in
      go f.on f.within (length s - at) (omega arith)
    where
      go : at < k.at → k.at ≤ length s → (n : ℕ) → length s ≤ n + at → commands_from n s at ≡ at ∷ commands_at s k.at
      go a b zero p = absurd (omega arith)
      go a b (suc n) p = rw (e, commands_from) (ap (λ (l : List ℕ). at ∷ l) (enough s n (length s - k.at) k.at (omega arith) (omega arith)))

  module _ (c : Command) (k : Cursor) (e : step_at s at ≡ Some (c, k)) where
    -- a command's place is the first of those from it on, and the places after it are among them
    pub commands-here : Memᴰ at (commands_at s at)
    commands-here = subst (λ (l : List ℕ). Memᴰ at l) (sym (commands-next c k e)) (Memᴰ.head refl)

    pub commands-later : (v : ℕ) → Memᴰ v (commands_at s k.at) → Memᴰ v (commands_at s at)
    commands-later v m = subst (λ (l : List ℕ). Memᴰ v l) (sym (commands-next c k e)) (Memᴰ.tail m)

-- along the commands
module _ (s : List ℕ) (P : ℕ → Type 0) (stop : (at : ℕ) → step_at s at ≡ None → P at) (next : (at : ℕ) (c : Command) (k : Cursor) → step_at s at ≡ Some (c, k) → P k.at → P at) where
  along-from : (n at : ℕ) → length s ≤ n + at → P at
  along-from zero at h = stop at (sym (step_end s at (omega arith)))
  along-from (suc n) at h = go (along-from n) (step_at s at) refl
    where
      go : ((to : ℕ) → length s ≤ n + to → P to) → (t : Step D.Command.Command) → step_at s at ≡ t → P at
      go ih (Some (c, k)) e = next at c k e (ih k.at (let f = step-found s at c k e in let a = f.on in omega arith))
      go ih None e = stop at e

  -- what holds where the stream stops, and at a command if it holds after it, holds at every place
  pub along : (at : ℕ) → P at
  along at = along-from (length s) at (omega arith)
