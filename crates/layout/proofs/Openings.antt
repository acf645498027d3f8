-- The type of a handle is among those that the stream opens, of which number 9 speaks. Assumes nothing.
use Rattle.std.specs.Prelude.{Some}
use Prim.Native.Nat.{ℕ}
use mathlib.Core.List.Memᴰ
use mathlib.Core.List.{List, ◌∷◌, Memᴰ}
use mathlib.Core.Bool.{Bool, true, false, ◌||◌, cond}
use mathlib.Core.Logic.{◌⊎◌, inl, inr}
use mathlib.Core.Path.{◌≡◌, sym, ap, subst}
use native.Mathlib.Omega.{arith}
use lib.Dec.{eqb}
use lib.ListN.{get_or}
use Rattle.record.specs.Base.{Str}
use Rattle.record.specs.Schema.{Field}
use Rattle.record.specs.Commands.{step_at, commands_at}
use Rattle.record.specs.Steps.{fields_at}
use Rattle.record.specs.Reading.{Opened, opened_at, opened}
use Rattle.record.specs.declared.command.Cursor.{Cursor}
use Rattle.record.specs.declared.command.Command.{Command}
use Rattle.record.proofs.Stream.{commands-stop, commands-next, along}
use Rattle.layout.specs.Handles.{place_part, handle_fields}
use Rattle.layout.specs.Table.{Typed, plain, variant}
use Rattle.layout.proofs.Flattened.{own-fields, family-fields}

-- a structure, a family or a variant
abbrev Opens : ℕ → Type 0
Opens b = (b ≡ 9) ⊎ ((b ≡ 8) ⊎ (b ≡ 10))

among : {A : Type 0} (u v : Bool) (x y z : A) (l : List A) → Memᴰ x l → Memᴰ x (cond u (y ∷ l) (cond v (z ∷ l) l))
among true v x y z l m = Memᴰ.tail m
among false true x y z l m = Memᴰ.tail m
among false false x y z l m = m

module _ (s p : Str) where
  -- a place as the stream opens it
  abbrev opened_as : ℕ → Opened
  opened_as at = record { place = at; fields = handle_fields s p at }

  opened-later : (at : ℕ) (ps : List ℕ) (x : Opened) (l : List Opened) → Memᴰ x l → Memᴰ x (opened_at s p at ps l)
  unfolding opened_at
  opened-later at ps x l m = among (eqb (get_or s at 0) 9) (eqb (get_or s at 0) 8 || eqb (get_or s at 0) 10) x _ _ l m

  opened-here : (at : ℕ) (c : Command) (k : Cursor) → step_at s at ≡ Some (c, k) → Opens (get_or s at 0) → (l : List Opened) → Memᴰ (opened_as at) (opened_at s p at (commands_at s k.at) l)
  unfolding opened_at fields_at
  opened-here at c k e (inl b) l =
      let f = family-fields s p at c k e b in
      rw b (Memᴰ.head (ap (λ (fs : List Field). record { place = at; fields = fs }) f))
  opened-here at c k e (inr (inl b)) l =
      let f = own-fields s p at c k e (λ q. omega arith) in
      rw b (Memᴰ.head (ap (λ (fs : List Field). record { place = at; fields = fs }) f))
  opened-here at c k e (inr (inr b)) l =
      let f = own-fields s p at c k e (λ q. omega arith) in
      rw b (Memᴰ.head (ap (λ (fs : List Field). record { place = at; fields = fs }) f))

  opened-next : (a : ℕ) (c : Command) (k : Cursor) → step_at s a ≡ Some (c, k) → opened s p (commands_at s a) ≡ opened_at s p a (commands_at s k.at) (opened s p (commands_at s k.at))
  unfolding opened
  opened-next a c k e = ap (opened s p) (commands-next s a c k e)

  opened-member : (at : ℕ) → Opens (get_or s at 0) → (a : ℕ) → Memᴰ at (commands_at s a) → Memᴰ (opened_as at) (opened s p (commands_at s a))
  opened-member at b =
      along s (λ (a : ℕ). Memᴰ at (commands_at s a) → Memᴰ (opened_as at) (opened s p (commands_at s a)))
      (λ a e m. absurd (Memᴰ.not-nil (rw (commands-stop s a e) at m)))
      (λ a c k e ih m. subst (λ (l : List Opened). Memᴰ (opened_as at) l) (sym (opened-next a c k e)) (go a c k e ih (rw (commands-next s a c k e) at m)))
    where
      go : (a : ℕ) (c : Command) (k : Cursor) → step_at s a ≡ Some (c, k) → (Memᴰ at (commands_at s k.at) → Memᴰ (opened_as at) (opened s p (commands_at s k.at)))
          → Memᴰ at (a ∷ commands_at s k.at) → Memᴰ (opened_as at) (opened_at s p a (commands_at s k.at) (opened s p (commands_at s k.at)))
      go a c k e ih (Memᴰ.head q) =
          subst (λ (x : ℕ). Memᴰ (opened_as x) (opened_at s p a (commands_at s k.at) (opened s p (commands_at s k.at)))) (sym q)
          (opened-here a c k e (subst (λ (x : ℕ). Opens (get_or s x 0)) q b) (opened s p (commands_at s k.at)))
      go a c k e ih (Memᴰ.tail m) = opened-later a (commands_at s k.at) (opened_as at) (opened s p (commands_at s k.at)) (ih m)

module _ (s : Str) (h : ℕ) where
  pub typed-place : Typed s h → Memᴰ (place_part h) (commands_at s 0)
  typed-place (plain f m b) = m
  typed-place (variant f e m b n d) = n

  typed-opens : Typed s h → Opens (get_or s (place_part h) 0)
  typed-opens (plain f m (inl b)) = inr (inl b)
  typed-opens (plain f m (inr b)) = inl b
  typed-opens (variant f e m b n d) = inr (inr d)

  pub typed-opened : (p : Str) → Typed s h → Memᴰ (record { place = place_part h; fields = handle_fields s p (place_part h) }) (opened s p (commands_at s 0))
  typed-opened p y = opened-member s p (place_part h) (typed-opens y) 0 (typed-place y)
