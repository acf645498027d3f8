-- Draws and a setting, in the form in which the code has them. Assumes nothing.
use mathlib.Core.Path.{◌≡◌, sym, ◌∙◌, ap, subst}
use Prim.Native.Nat.{ℕ, zero, suc, ◌+◌, ◌-◌, ◌/◌, ◌%◌, ◌≤◌, ◌<◌}
use native.Mathlib.Omega.{arith}
use native.Mathlib.Nat.{mod-lt}
use native.Mathlib.Numerals.{sub-one}
use Rattle.record.specs.declared.text.Text.{Text}
use Rattle.load.specs.Pool.{field_text}
use Rattle.load.specs.Draws.{next_seed, seed_after, draw, setting_of, kind_at, field_as, field_drawn, field_name}
use Rattle.load.specs.Range.{InRange}
use Rattle.load.proofs.Generated.{in-range}
use Rattle.load.specs.declared.settings.Setting.{Setting}
use Rattle.load.specs.declared.commands.FieldCommand.{FieldCommand}

-- one draw of those left
seed-after-one : (s n : ℕ) → 0 < n → seed_after n s ≡ seed_after (n - 1) (next_seed s)
unfolding seed_after
seed-after-one s zero h = absurd (omega arith)
seed-after-one s (suc n) h = rw sub-one

pub seed-after-on : (s t k i a : ℕ) → a ≡ seed_after (k - i) s → i < k → t ≡ next_seed s → a ≡ seed_after (k - (i + 1)) t
seed-after-on s t k i a e h q =
    let n : k - i - 1 ≡ k - (i + 1) = omega arith in
    e ∙ seed-after-one s (k - i) (omega arith) ∙ rw (n, q)

pub seed-after-end : (s k i a : ℕ) → a ≡ seed_after (k - i) s → k ≤ i → s ≡ a
unfolding seed_after
seed-after-end s k i a e h = let n : k - i ≡ 0 = omega arith in sym (rw n at e)

pub draw-is : (s k n t : ℕ) → t ≡ seed_after k s → t / 65536 % n ≡ draw s k n
unfolding draw
draw-is s k n t e = rw e

pub draw-low : (t n : ℕ) → 0 < n → t / 65536 % n < n
draw-low t n h = mod-lt (t / 65536) h

-- a setting by its draws
module _ (s a b c d e f h i j k l m : ℕ) (qa : a ≡ draw s 1 8) (qb : b ≡ draw s 2 16) (qc : c ≡ draw s 3 4) (qd : d ≡ draw s 4 3) (qe : e ≡ draw s 5 14) (qf : f ≡ draw s 6 32768)
    (qh : h ≡ draw s 7 32768) (qi : i ≡ draw s 8 (a + 1)) (qj : j ≡ draw s 9 (b + 2)) (qk : k ≡ draw s 10 4) (ql : l ≡ draw s 11 4) (qm : m ≡ seed_after 11 s) where
  abbrev drawn : Setting
  drawn = record { structs = a + 1; fields = b + 2; releases = c; slot = d; lengths = e; generation = f; spare = h; root = i; target = j; word = k; fresh = l; seed = m }

  setting-is : drawn ≡ setting_of s
  unfolding setting_of
  setting-is = λ x. record {
    structs = qa x + 1;
    fields = qb x + 2;
    releases = qc x;
    slot = qd x;
    lengths = qe x;
    generation = qf x;
    spare = qh x;
    root = (qi ∙ ap (λ (n : ℕ). draw s 8 (n + 1)) qa) x;
    target = (qj ∙ ap (λ (n : ℕ). draw s 9 (n + 2)) qb) x;
    word = qk x;
    fresh = ql x;
    seed = qm x;
  }

  pub setting-drawn : (drawn ≡ setting_of s) × InRange drawn
  setting-drawn = (setting-is, subst InRange (sym setting-is) (in-range s))

-- a field by its draws
pub field_is : (g : Setting) (s j k n t : ℕ) (name : Text) (r : FieldCommand) → k ≡ draw s 1 16 → n ≡ draw s 2 8 → t ≡ draw s 3 8 → name ≡ field_text g.lengths j
    → r ≡ field_as (kind_at k) g.lengths g.structs name n t → r ≡ field_drawn g s j
unfolding field_drawn field_name
field_is g s j k n t name r qk qn qt qa e = e ∙ λ i. field_as (kind_at (qk i)) g.lengths g.structs (qa i) (qn i) (qt i)
