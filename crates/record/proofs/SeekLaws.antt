-- The place after a command, a step along the places of a list, and the list by its places. Assumes nothing.
use Rattle.std.specs.Prelude.{Option, Some, None}
use Prim.Native.Nat.{ℕ, ◌+◌, ◌-◌, ◌≤◌, ◌<◌}
use mathlib.Core.List.Memᴰ
use mathlib.Core.List.{List, [], ◌∷◌, Memᴰ, map, map-id}
use mathlib.Core.Bool.{Bool, true, false}
use mathlib.Core.Path.{◌≡◌, refl, sym, ap, ap₂, subst, ◌∙◌}
use native.Mathlib.Omega.{arith}
use borrow.Author.Tests.{eqb-true, eqb-false}
use lib.Dec.{eqb}
use lib.ListN.{length, get_or}
use Rattle.record.specs.Base.{Str}
use Rattle.record.specs.Commands.{width_of, step_at, commands_at}
use Rattle.record.specs.Lists.{listed}
use Rattle.record.specs.declared.command.Cursor.{Cursor}
use Rattle.record.specs.declared.command.Command.{Command}
use Rattle.record.proofs.CommandLaws.{step_end, step-last, step-unknown, step_cut, step-next}
use Rattle.record.proofs.Stream.{step-found, along, commands-stop, commands-next, commands-here, commands-later}
use Rattle.record.proofs.ListLaws.{byte_of, byte-is, listed-stop, listed_here, listed-over, listed-end, listed_same}
use Rattle.record.specs.Seek.{after_at, over_of, places_of, places_left, Standing, Stands, SoughtFrom}
use Rattle.record.specs.declared.seek.Between.{Between}
use Rattle.record.specs.declared.seek.Between.TheVariants.{Anything}
use Rattle.record.specs.Commands.{Step}
use Rattle.record.specs.declared.command as D

-- the place after a command ------------------------------------------------------------------------------------------------

module _ (s : List ℕ) (at : ℕ) where
  stopped : None ≡ step_at s at → 0 ≡ after_at s at
  unfolding after_at
  stopped e = rw (after_at, ← e)

  pub after-end : length s ≤ at → 0 ≡ after_at s at
  after-end h = stopped (step_end s at h)

  module _ (h : at < length s) (y : ℕ) (i : y ≡ get_or s at 0) where
    pub after_last : y ≡ 15 → 0 ≡ after_at s at
    after_last e = stopped (step-last s at h (sym i ∙ e))

    module _ (l : y ≡ 15 → ⊥) (w : ℕ) (e : w ≡ width_of y) where
      other : get_or s at 0 ≡ 15 → ⊥
      other q = l (i ∙ q)

      width_is : w ≡ width_of (get_or s at 0)
      width_is = e ∙ ap width_of i

      pub after-unknown : w ≡ 0 → 0 ≡ after_at s at
      after-unknown z = stopped (step-unknown s at h other w width_is z)

      pub after-cut : (w ≡ 0 → ⊥) → length s - at < w → 0 ≡ after_at s at
      after-cut z k = stopped (step_cut s at h other w width_is z k)

      pub after_next : (w ≡ 0 → ⊥) → w ≤ length s - at → at + w ≡ after_at s at
      unfolding after_at
      after_next z k = rw (after_at, ← step-next s at h other w width_is _ z k refl)

pub ruleset after-laws = (after_last, after-unknown, after-cut, after_next)

-- what the place after a command says of the step there
pub record Stepped (s : List ℕ) (at n : ℕ) : Type 0 where
  pub command : Command
  pub cursor : Cursor
  pub step : step_at s at ≡ Some (command, cursor)
  pub to : cursor.at ≡ n
  pub number : get_or s at 0 ≡ byte_of command

module _ (s : List ℕ) (at n : ℕ) (e : n ≡ after_at s at) where
  pub stepped : (n ≡ 0 → ⊥) → Stepped s at n
  unfolding after_at
  stepped z = go (step_at s at) refl e
    where
      go : (t : Step D.Command.Command) → step_at s at ≡ t → n ≡ elim t [ Some (c, k) ↦ k.at | None ↦ 0 ] → Stepped s at n
      go (Some (c, k)) q f = record { command = c; cursor = k; step = q; to = sym f; number = byte-is s at c k q }
      go None q f = absurd (z f)

  pub ended-there : n ≡ 0 → step_at s at ≡ None
  unfolding after_at
  ended-there z = go (step_at s at) refl (sym z ∙ e)
    where
      go : (t : Step D.Command.Command) → step_at s at ≡ t → ◌≡◌ {A = ℕ} 0 (elim t [ Some (c, k) ↦ k.at | None ↦ 0 ]) → step_at s at ≡ None
      go (Some (c, k)) q f = let g = step-found s at c k q in let o = g.on in absurd (omega arith)
      go None q f = q

  pub after-nearer : (n ≡ 0 → ⊥) → length s - n < length s - at
  after-nearer z =
      let t = stepped z in
      let g = step-found s at t.command t.cursor t.step in
      let a = g.on in
      let b = g.within in
      let c = t.to in
      omega arith

  pub after-whole : (n ≡ 0 → ⊥) → at + width_of (get_or s at 0) ≤ length s
  after-whole z =
      let t = stepped z in
      let g = step-found s at t.command t.cursor t.step in
      let a = g.wide in
      let b = g.within in
      omega arith

-- a step along the places of a list ----------------------------------------------------------------------------------------

-- the elements from a place on are those from a later one
pub record Passing (s : Str) (o : Between) (b a at : ℕ) : Type 0 where
  pub same : places_of s o b a ≡ places_of s o b at
  pub ahead : a ≤ at
  pub later : (v : ℕ) → Memᴰ v (commands_at s at) → Memᴰ v (commands_at s a)

pub passing-here : (s : Str) (o : Between) (b a : ℕ) → Passing s o b a a
passing-here s o b a = record { same = refl; ahead = omega arith; later = λ v m. m }

module _ (s : Str) (o : Between) (b a at n : ℕ) (p : Passing s o b a at) (e : n ≡ after_at s at) where
  pub seek-end : n ≡ 0 → SoughtFrom s o b a None
  unfolding places_of
  seek-end z = record { list = p.same ∙ listed-stop s (over_of o) b (λ at rest. at) at (ended-there s at n e z); standing = tt }

  module _ (z : n ≡ 0 → ⊥) (y : ℕ) (i : y ≡ get_or s at 0) where
    t : Stepped s at n
    t = stepped s at n e z

    number : byte_of t.command ≡ y
    number = sym (i ∙ t.number)

    pub seek_hit : y ≡ b → SoughtFrom s o b a (Some (at, n))
    unfolding places_of
    seek_hit h =
        let g = step-found s at t.command t.cursor t.step in
        let on = g.on in
        let within = g.within in
        let to = t.to in
        let l : places_of s o b at ≡ at ∷ places_of s o b t.cursor.at = listed_here s (over_of o) b (λ at rest. at) at t.command t.cursor t.step (number ∙ h) in
        record {
          list = p.same ∙ l ∙ ap (λ (k : ℕ). at ∷ places_of s o b k) to;
          standing = record {
            in-stream = p.later at (commands-here s at t.command t.cursor t.step);
            number = sym i ∙ h;
            after = sym to ∙ g.wide ∙ ap (λ (x : ℕ). at + width_of x) (sym i ∙ h);
            ahead = p.ahead;
            on = omega arith;
            within = omega arith;
          };
        }

    module _ (w : y ≡ b → ⊥) (q : Bool) (v : q ≡ over_of o y) where
      pub seek_stop : q ≡ false → SoughtFrom s o b a None
      unfolding places_of
      seek_stop f = record {
        list = p.same ∙ listed-end s (over_of o) b (λ at rest. at) at t.command t.cursor t.step (λ h. w (sym number ∙ h)) (ap (over_of o) number ∙ sym v ∙ f);
        standing = tt;
      }

      pub seek-on : q ≡ true → Passing s o b a n
      unfolding places_of
      seek-on f =
          let g = step-found s at t.command t.cursor t.step in
          let on = g.on in
          let near = p.ahead in
          let to = t.to in
          let l : places_of s o b at ≡ places_of s o b t.cursor.at = listed-over s (over_of o) b (λ at rest. at) at t.command t.cursor t.step (λ h. w (sym number ∙ h)) (ap (over_of o) number ∙ sym v ∙ f) in
          record {
            same = p.same ∙ l ∙ ap (places_of s o b) to;
            ahead = omega arith;
            later = λ x m. p.later x (commands-later s at t.command t.cursor t.step x (subst (λ (k : ℕ). Memᴰ x (commands_at s k)) (sym to) m));
          }

pub seek-past : (s : Str) (o : Between) (b a at : ℕ) → Passing s o b a at → length s ≤ at → SoughtFrom s o b a None
seek-past s o b a at p h = seek-end s o b a at 0 p (after-end s at h) refl

pub ruleset seek-laws = (seek-past, seek-end, seek_hit, seek_stop, seek-on)

-- the place moves on
module _ (s : Str) (o : Between) (b at : ℕ) (r : Option (ℕ × ℕ)) (i : SoughtFrom s o b at r) (a k : ℕ) (m : r ≡ Some (a, k)) where
  pub sought-stands : Standing s b at a k
  sought-stands = subst (Stands s b at) m i.standing

  pub sought-nearer : length s - k < length s - at
  sought-nearer = let h = sought-stands in let a = h.ahead in let b = h.on in let c = h.within in omega arith

-- a list by the places of its elements -------------------------------------------------------------------------------------

module _ {A : Type 0} (s : Str) (o : Between) (b : ℕ) (f : ℕ → List ℕ → A) where
  abbrev element : ℕ → A
  element a = f a (commands_at s (a + width_of b))

  by-places : (at : ℕ) → listed s (over_of o) b f (commands_at s at) ≡ map element (places_of s o b at)
  unfolding places_of
  by-places at = sym (map-id (listed s (over_of o) b f (commands_at s at))) ∙ listed_same s (over_of o) b f (λ at rest. at) (λ (x : A). x) element here at
    where
      here : (at : ℕ) (c : Command) (k : Cursor) → step_at s at ≡ Some (c, k) → get_or s at 0 ≡ b → f at (commands_at s k.at) ≡ element at
      here at c k e h = let g = step-found s at c k e in ap (λ (j : ℕ). f at (commands_at s j)) (g.wide ∙ ap (λ (x : ℕ). at + width_of x) h)

  module _ (at : ℕ) (r : Option (ℕ × ℕ)) (i : SoughtFrom s o b at r) where
    pub listed-none : r ≡ None → listed s (over_of o) b f (commands_at s at) ≡ []
    listed-none m = by-places at ∙ ap (map element) (i.list ∙ ap (places_left s o b) m)

    pub listed-some : (a k : ℕ) → r ≡ Some (a, k) → listed s (over_of o) b f (commands_at s at) ≡ f a (commands_at s k) ∷ listed s (over_of o) b f (commands_at s k)
    listed-some a k m =
        let g = sought-stands s o b at r i a k m in
        by-places at ∙ ap (map element) (i.list ∙ ap (places_left s o b) m)
        ∙ ap₂ (λ (j : ℕ) (l : List A). f a (commands_at s j) ∷ l) (sym g.after) (sym (by-places k))

-- a command of a number is among the places of all commands of that number
pub place-listed : (s : Str) (b at : ℕ) → get_or s at 0 ≡ b → (a : ℕ) → Memᴰ at (commands_at s a) → Memᴰ at (places_of s Anything b a)
unfolding places_of
place-listed s b at h =
    along s (λ (a : ℕ). Memᴰ at (commands_at s a) → Memᴰ at (places_of s Anything b a)) (λ a e m. absurd (Memᴰ.not-nil (rw (commands-stop s a e) at m)))
    (λ a c k e ih m. go a c k e ih (eqb (byte_of c) b) refl (rw (commands-next s a c k e) at m))
  where
    go : (a : ℕ) (c : Command) (k : Cursor) → step_at s a ≡ Some (c, k) → (Memᴰ at (commands_at s k.at) → Memᴰ at (places_of s Anything b k.at))
        → (x : Bool) → eqb (byte_of c) b ≡ x → Memᴰ at (a ∷ commands_at s k.at) → Memᴰ at (places_of s Anything b a)
    go a c k e ih true q (Memᴰ.head z) = rw (listed_here s (over_of Anything) b (λ at rest. at) a c k e (eqb-true (byte_of c) b q)) (Memᴰ.head z)
    go a c k e ih true q (Memᴰ.tail m) = rw (listed_here s (over_of Anything) b (λ at rest. at) a c k e (eqb-true (byte_of c) b q)) (Memᴰ.tail (ih m))
    go a c k e ih false q (Memᴰ.head z) = absurd (eqb-false (byte_of c) b q (sym (byte-is s a c k e) ∙ ap (λ (x : ℕ). get_or s x 0) (sym z) ∙ h))
    go a c k e ih false q (Memᴰ.tail m) = rw (listed-over s (over_of Anything) b (λ at rest. at) a c k e (eqb-false (byte_of c) b q) refl) (ih m)
