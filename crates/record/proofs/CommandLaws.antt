-- The cases of each definition, as the code's branches need them.
use Rattle.std.specs.Prelude.{Option, Some, None}
use Prim.Native.Nat.{ℕ, ◌+◌, ◌*◌, ◌-◌, ◌≤◌, ◌<◌}
use mathlib.Core.List.{List}
use mathlib.Core.Bool.{cond}
use mathlib.Core.Path.{◌≡◌, sym, ap}
use native.Mathlib.Omega.{arith}
use lib.ListN.{length, take, drop, get_or, length-drop}
use lib.Seq.{take_all}
use lib.Dec.{eqb}
use borrow.Author.Tests.{ne_eqb, lt-ltb, le-ltb}
use Rattle.record.specs.Le.{u16_at, u32_at, u64_at, u8-past, u16-past}
use Rattle.record.specs.declared.text.Text.{Text}
use Rattle.record.specs.declared.command.Command.{Command}
use Rattle.record.specs.declared.command.Command.TheVariants as C
use Rattle.record.specs.declared.command.Version.{Version}
use Rattle.record.specs.Operands.{text_at, opt_text, opt_text_at, opt_number_at, flag_at}
use Rattle.record.specs.Commands.{operands, width_with, width_of, command_of, step_at, place, version_at}

module _ (s : List ℕ) (at : ℕ) where
  pub text-here : (a b : ℕ) → a ≡ u16_at s at → b ≡ get_or s (at + 2) 0 → ◌≡◌ {A = Text} (record { start = a; len = b }) (text_at s at)
  unfolding text_at
  text-here a b p q = cc

  pub text-whole : (a b : ℕ) → a ≡ get_or s at 0 + 256 * get_or s (at + 1) 0 → b ≡ get_or s (at + 2) 0 → ◌≡◌ {A = Text} (record { start = a; len = b }) (text_at s at)
  unfolding u16_at
  text-whole a b p q = text-here a b p q

  pub text-past : length s ≤ at → ◌≡◌ {A = Text} (record { start = 0; len = 0 }) (text_at s at)
  text-past h = text-here 0 0 (sym (u16-past s at h)) (sym (u8-past s (at + 2) (omega arith)))

  pub opt-read : (t : Text) (r : Option Text) → t ≡ text_at s at → r ≡ opt_text t → r ≡ opt_text_at s at
  unfolding opt_text_at
  opt-read t r e f = rw (f, e)

  pub number-here : (b n : ℕ) → b ≡ get_or s at 0 → (b ≡ 0 → ⊥) → n ≡ u32_at s (at + 1) → Some n ≡ opt_number_at s at
  unfolding opt_number_at
  number-here b n e p q = rw (← e, ne_eqb b 0 p, q)

  pub number-none : (b : ℕ) → b ≡ get_or s at 0 → b ≡ 0 → None ≡ opt_number_at s at
  unfolding opt_number_at
  number-none b e p = rw (← e, p)

  pub number_past : length s ≤ at → None ≡ opt_number_at s at
  unfolding opt_number_at
  number_past h = rw (u8-past s at h)

pub ruleset operand-laws = (text-here, text-whole, text-past, opt-read, number-here, number-none, number_past)

-- an operand goes by its bytes
module _ (a b : List ℕ) (at : ℕ) where
  pub text_same : ((i : ℕ) → at ≤ i → i ≤ at + 2 → get_or a i 0 ≡ get_or b i 0) → text_at a at ≡ text_at b at
  unfolding text_at u16_at
  text_same f =
      let g : get_or a at 0 ≡ get_or b at 0 = f at (omega arith) (omega arith) in
      let h : get_or a (at + 1) 0 ≡ get_or b (at + 1) 0 = f (at + 1) (omega arith) (omega arith) in
      let i : get_or a (at + 2) 0 ≡ get_or b (at + 2) 0 = f (at + 2) (omega arith) (omega arith) in
      λ x. record { start = g x + 256 * h x; len = i x }

  pub opt_same : ((i : ℕ) → at ≤ i → i ≤ at + 2 → get_or a i 0 ≡ get_or b i 0) → opt_text_at a at ≡ opt_text_at b at
  unfolding opt_text_at
  opt_same f = ap opt_text (text_same f)

  pub flag_same : get_or a at 0 ≡ get_or b at 0 → flag_at a at ≡ flag_at b at
  unfolding flag_at
  flag_same e = ap (λ (n : ℕ). eqb n 1) e

  pub u32-same : ((i : ℕ) → at ≤ i → i ≤ at + 3 → get_or a i 0 ≡ get_or b i 0) → u32_at a at ≡ u32_at b at
  unfolding u32_at u16_at
  u32-same f =
      let g : get_or a at 0 ≡ get_or b at 0 = f at (omega arith) (omega arith) in
      let h : get_or a (at + 1) 0 ≡ get_or b (at + 1) 0 = f (at + 1) (omega arith) (omega arith) in
      let i : get_or a (at + 2) 0 ≡ get_or b (at + 2) 0 = f (at + 2) (omega arith) (omega arith) in
      let j : get_or a (at + 2 + 1) 0 ≡ get_or b (at + 2 + 1) 0 = f (at + 2 + 1) (omega arith) (omega arith) in
      λ x. g x + 256 * h x + 65536 * (i x + 256 * j x)

pub u64-same : (a b : List ℕ) (at : ℕ) → ((i : ℕ) → at ≤ i → i ≤ at + 7 → get_or a i 0 ≡ get_or b i 0) → u64_at a at ≡ u64_at b at
unfolding u64_at
u64-same a b at f =
    let g : u32_at a at ≡ u32_at b at = u32-same a b at (λ i k l. f i (omega arith) (omega arith)) in
    let h : u32_at a (at + 4) ≡ u32_at b (at + 4) = u32-same a b (at + 4) (λ i k l. f i (omega arith) (omega arith)) in
    λ x. g x + 4294967296 * h x

pub number_same : (a b : List ℕ) (at : ℕ) → ((i : ℕ) → at ≤ i → i ≤ at + 4 → get_or a i 0 ≡ get_or b i 0) → opt_number_at a at ≡ opt_number_at b at
unfolding opt_number_at
number_same a b at f =
    let g : get_or a at 0 ≡ get_or b at 0 = f at (omega arith) (omega arith) in
    let h : u32_at a (at + 1) ≡ u32_at b (at + 1) = u32-same a b (at + 1) (λ i k l. f i (omega arith) (omega arith)) in
    λ x. cond (eqb (g x) 0) None (Some (h x))

-- a number that is none of the commands'
pub none-operands : (b : ℕ) → (b ≡ 1 → ⊥) → (b ≡ 2 → ⊥) → (b ≡ 3 → ⊥) → (b ≡ 4 → ⊥) → (b ≡ 5 → ⊥) → (b ≡ 6 → ⊥) → (b ≡ 7 → ⊥) → (b ≡ 8 → ⊥) → (b ≡ 9 → ⊥) → (b ≡ 10 → ⊥) → (b ≡ 11 → ⊥) → (b ≡ 12 → ⊥) → (b ≡ 13 → ⊥) → (b ≡ 14 → ⊥) → (b ≡ 15 → ⊥) → operands b ≡ None
unfolding operands
none-operands b h1 h2 h3 h4 h5 h6 h7 h8 h9 h10 h11 h12 h13 h14 h15 = rw (ne_eqb b 1 h1, ne_eqb b 2 h2, ne_eqb b 3 h3, ne_eqb b 4 h4, ne_eqb b 5 h5, ne_eqb b 6 h6, ne_eqb b 7 h7, ne_eqb b 8 h8, ne_eqb b 9 h9, ne_eqb b 10 h10, ne_eqb b 11 h11, ne_eqb b 12 h12, ne_eqb b 13 h13, ne_eqb b 14 h14, ne_eqb b 15 h15)

pub none-width : (b : ℕ) → (b ≡ 1 → ⊥) → (b ≡ 2 → ⊥) → (b ≡ 3 → ⊥) → (b ≡ 4 → ⊥) → (b ≡ 5 → ⊥) → (b ≡ 6 → ⊥) → (b ≡ 7 → ⊥) → (b ≡ 8 → ⊥) → (b ≡ 9 → ⊥) → (b ≡ 10 → ⊥) → (b ≡ 11 → ⊥) → (b ≡ 12 → ⊥) → (b ≡ 13 → ⊥) → (b ≡ 14 → ⊥) → (b ≡ 15 → ⊥) → 0 ≡ width_of b
unfolding width_of width_with
none-width b h1 h2 h3 h4 h5 h6 h7 h8 h9 h10 h11 h12 h13 h14 h15 = rw (none-operands b h1 h2 h3 h4 h5 h6 h7 h8 h9 h10 h11 h12 h13 h14 h15)

pub else-command : (b : ℕ) (x : List ℕ) (r : Version) → (b ≡ 1 → ⊥) → (b ≡ 2 → ⊥) → (b ≡ 3 → ⊥) → (b ≡ 4 → ⊥) → (b ≡ 5 → ⊥) → (b ≡ 6 → ⊥) → (b ≡ 7 → ⊥) → (b ≡ 8 → ⊥) → (b ≡ 9 → ⊥) → (b ≡ 10 → ⊥) → (b ≡ 11 → ⊥) → (b ≡ 12 → ⊥) → (b ≡ 13 → ⊥) → r ≡ version_at x → C.Version r ≡ command_of b x
unfolding command_of
else-command b x r h1 h2 h3 h4 h5 h6 h7 h8 h9 h10 h11 h12 h13 e = rw (ne_eqb b 1 h1, ne_eqb b 2 h2, ne_eqb b 3 h3, ne_eqb b 4 h4, ne_eqb b 5 h5, ne_eqb b 6 h6, ne_eqb b 7 h7, ne_eqb b 8 h8, ne_eqb b 9 h9, ne_eqb b 10 h10, ne_eqb b 11 h11, ne_eqb b 12 h12, ne_eqb b 13 h13, e)

module _ (s : List ℕ) (at : ℕ) where
  pub step_end : length s ≤ at → None ≡ step_at s at
  unfolding step_at
  step_end h = rw (le-ltb at (length s) h)

  module _ (h : at < length s) where
    pub step-last : get_or s at 0 ≡ 15 → None ≡ step_at s at
    unfolding step_at
    step-last e = rw (lt-ltb at (length s) h, e)

    module _ (l : get_or s at 0 ≡ 15 → ⊥) (w : ℕ) (e : w ≡ width_of (get_or s at 0)) where
      pub step-unknown : w ≡ 0 → None ≡ step_at s at
      unfolding step_at
      step-unknown z = rw (lt-ltb at (length s) h, ne_eqb (get_or s at 0) 15 l, ← e, z)

      pub step_cut : (w ≡ 0 → ⊥) → length s - at < w → None ≡ step_at s at
      unfolding step_at
      step_cut z k = rw (lt-ltb at (length s) h, ne_eqb (get_or s at 0) 15 l, ← e, ne_eqb w 0 z, lt-ltb (length s - at) w k)

      pub step-next : (c : Command) → (w ≡ 0 → ⊥) → w ≤ length s - at → c ≡ command_of (get_or s at 0) (take (length s - at) (drop at s)) → Some (c, place (at + w)) ≡ step_at s at
      unfolding step_at
      step-next c z k f = rw (lt-ltb at (length s) h, ne_eqb (get_or s at 0) 15 l, ← e, ne_eqb w 0 z, le-ltb (length s - at) w k, f, take_all (length s - at) (drop at s) (rw length-drop (omega arith)))

pub ruleset step-laws = (step_end, step-last, step-unknown, step_cut, step-next)
