-- Along the commands of a stream: the bytes they take, and the elements of a list that is read off them. Assumes nothing.
use Rattle.std.specs.Prelude.{Some}
use Prim.Native.Nat.{ℕ, ◌+◌, ◌≤◌}
use mathlib.Core.List.Memᴰ
use mathlib.Core.List.{List, ◌∷◌, Memᴰ}
use mathlib.Core.Bool.{Bool, true, false}
use mathlib.Core.Path.{◌≡◌, refl, sym, ap, ◌∙◌}
use native.Mathlib.Omega.{arith}
use lib.Dec.{eqb}
use borrow.Author.Tests.{eqb-true, eqb-false}
use lib.ListN.{get_or}
use Rattle.record.specs.Base.{Str, bytes}
use Rattle.record.specs.Commands.{operands, wide, widths, width_with, width_of, step_at, commands_at}
use Rattle.record.specs.Lists.{listed}
use Rattle.record.specs.declared.command.Cursor.{Cursor}
use Rattle.record.specs.declared.command.Command.{Command}
use Rattle.record.specs.declared.command.Command.TheVariants as C
use Rattle.record.proofs.Stream.{step-found, along, commands-stop, commands-next, commands-here, commands-later}
use Rattle.record.proofs.ListLaws.{byte_of, byte-is, listed-stop, listed_here, listed-over, listed-end}

-- a command takes four bytes at least -------------------------------------------------------------------------------------

pub four-wide : (c : Command) → 4 ≤ width_of (byte_of c)
unfolding width_of width_with operands widths wide bytes
four-wide (C.Head x) = omega arith
four-wide (C.Constant x) = omega arith
four-wide (C.TypeAlias x) = omega arith
four-wide (C.Enum x) = omega arith
four-wide (C.Value x) = omega arith
four-wide (C.Bitfield x) = omega arith
four-wide (C.Member x) = omega arith
four-wide (C.Struct x) = omega arith
four-wide (C.Family x) = omega arith
four-wide (C.Variant x) = omega arith
four-wide (C.Field x) = omega arith
four-wide (C.PluginKey x) = omega arith
four-wide (C.UnstoredKey x) = omega arith
four-wide (C.Version x) = omega arith

module _ (s : Str) (at : ℕ) (c : Command) (k : Cursor) (e : step_at s at ≡ Some (c, k)) where
  pub step-four : at + 4 ≤ k.at
  step-four =
      let w = four-wide c in
      let b : width_of (get_or s at 0) ≡ width_of (byte_of c) = ap width_of (byte-is s at c k e) in
      let f = step-found s at c k e in
      let n = f.wide in
      omega arith

-- places and elements -----------------------------------------------------------------------------------------------------

-- at a place of a command there is one
pub record Stands (s : Str) (at : ℕ) : Type 0 where
  pub command : Command
  pub after : Cursor
  pub step : step_at s at ≡ Some (command, after)

pub place-stands : (s : Str) (a at : ℕ) → Memᴰ at (commands_at s a) → Stands s at
place-stands s a at =
    along s (λ (b : ℕ). Memᴰ at (commands_at s b) → Stands s at) (λ b e m. absurd (Memᴰ.not-nil (rw (commands-stop s b e) at m)))
    (λ b c k e ih m. go b c k e ih (rw (commands-next s b c k e) at m)) a
  where
    go : (b : ℕ) (c : Command) (k : Cursor) → step_at s b ≡ Some (c, k) → (Memᴰ at (commands_at s k.at) → Stands s at) → Memᴰ at (b ∷ commands_at s k.at) → Stands s at
    go b c k e ih (Memᴰ.head q) = record { command = c; after = k; step = ap (step_at s) q ∙ e }
    go b c k e ih (Memᴰ.tail m) = ih m

-- what comes after a command comes after all that the command does
pub place-later : (s : Str) (at v : ℕ) (c : Command) (k : Cursor) → step_at s at ≡ Some (c, k) → Memᴰ v (commands_at s k.at)
    → (a : ℕ) → Memᴰ at (commands_at s a) → Memᴰ v (commands_at s a)
place-later s at v c k e n =
    along s (λ (a : ℕ). Memᴰ at (commands_at s a) → Memᴰ v (commands_at s a)) (λ a f m. absurd (Memᴰ.not-nil (rw (commands-stop s a f) at m)))
    (λ a d j f ih m. go a d j f ih (rw (commands-next s a d j f) at m))
  where
    go : (a : ℕ) (d : Command) (j : Cursor) → step_at s a ≡ Some (d, j) → (Memᴰ at (commands_at s j.at) → Memᴰ v (commands_at s j.at))
        → Memᴰ at (a ∷ commands_at s j.at) → Memᴰ v (commands_at s a)
    go a d j f ih (Memᴰ.head q) = commands-later s a c k (ap (step_at s) (sym q) ∙ e) v n
    go a d j f ih (Memᴰ.tail m) = commands-later s a d j f v (ih m)

-- an element of a list comes from a place of its number
pub record Element {A : Type 0} (s : Str) (b : ℕ) (f : ℕ → List ℕ → A) (a : ℕ) (u : A) : Type 0 where
  pub where-from : ℕ
  pub after : ℕ
  pub in-stream : Memᴰ where-from (commands_at s a)
  pub number : get_or s where-from 0 ≡ b
  pub is : u ≡ f where-from (commands_at s after)
  pub later : (v : ℕ) → Memᴰ v (commands_at s after) → Memᴰ v (commands_at s a)

module _ {A : Type 0} (s : Str) (over : ℕ → Bool) (b : ℕ) (f : ℕ → List ℕ → A) (u : A) where
  pub listed-element : (a : ℕ) → Memᴰ u (listed s over b f (commands_at s a)) → Element s b f a u
  listed-element =
      along s (λ (a : ℕ). Memᴰ u (listed s over b f (commands_at s a)) → Element s b f a u)
      (λ a e m. absurd (Memᴰ.not-nil (rw (listed-stop s over b f a e) at m)))
      (λ a c k e ih m. go a c k e ih m (eqb (byte_of c) b) (over (byte_of c)) refl refl)
    where
      further : (a : ℕ) (c : Command) (k : Cursor) → step_at s a ≡ Some (c, k) → Element s b f k.at u → Element s b f a u
      further a c k e r =
          record {
            where-from = r.where-from;
            after = r.after;
            in-stream = commands-later s a c k e r.where-from r.in-stream;
            number = r.number;
            is = r.is;
            later = λ v m. commands-later s a c k e v (r.later v m);
          }

      here : (a : ℕ) (c : Command) (k : Cursor) → step_at s a ≡ Some (c, k) → byte_of c ≡ b → (Memᴰ u (listed s over b f (commands_at s k.at)) → Element s b f k.at u)
          → Memᴰ u (f a (commands_at s k.at) ∷ listed s over b f (commands_at s k.at)) → Element s b f a u
      here a c k e h ih (Memᴰ.head q) =
          record { where-from = a; after = k.at; in-stream = commands-here s a c k e; number = byte-is s a c k e ∙ h; is = q; later = commands-later s a c k e }
      here a c k e h ih (Memᴰ.tail m) = further a c k e (ih m)

      go : (a : ℕ) (c : Command) (k : Cursor) → step_at s a ≡ Some (c, k) → (Memᴰ u (listed s over b f (commands_at s k.at)) → Element s b f k.at u)
          → Memᴰ u (listed s over b f (commands_at s a)) → (t o : Bool) → eqb (byte_of c) b ≡ t → over (byte_of c) ≡ o → Element s b f a u
      go a c k e ih m true o p q = let h = eqb-true (byte_of c) b p in here a c k e h ih (rw (listed_here s over b f a c k e h) at m)
      go a c k e ih m false true p q = further a c k e (ih (rw (listed-over s over b f a c k e (eqb-false (byte_of c) b p) q) at m))
      go a c k e ih m false false p q = absurd (Memᴰ.not-nil (rw (listed-end s over b f a c k e (eqb-false (byte_of c) b p) q) at m))
