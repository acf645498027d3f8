-- The cases of the judgement of one command, as the code's branches need them. Assumes nothing.
use Rattle.std.specs.Prelude.{Option, Some, None, Ok, Err}
use Prim.Native.Nat.{ℕ, ◌+◌, ◌-◌, ◌≤◌, ◌<◌}
use mathlib.Core.List.{[], ◌∷◌}
use mathlib.Core.Bool.{Bool, true, false, not, cond}
use mathlib.Core.Path.{◌≡◌, refl, sym, ap, ◌∙◌}
use native.Mathlib.Omega.{arith}
use lib.ListN.{length, take, drop, get_or, length-drop}
use lib.Seq.{take_all}
use lib.Dec.{eqb, ltb}
use borrow.Author.Tests.{eq-eqb, ne_eqb, lt-ltb, le-ltb}
use Rattle.record.specs.Base.{Str}
use Rattle.record.specs.Operands.{text_at, flag_at, opt_text}
use Rattle.record.specs.Commands.{operands, wide, width_with, width_of, command_of}
use Rattle.record.specs.Judge.{worse_of, if_absent, text_fault, flag_fault, operand_fault, faults_from, faults_of, may_stand, row_of, row_at, parent_after, ready, faulted, judged_with, judged_as, judged_at}
use Rattle.record.specs.declared.text.Text.{Text}
use Rattle.record.specs.declared.command.Parent.{Parent}
use Rattle.record.specs.declared.command.Parent.TheVariants.{NoParent, InStruct, InFamily}
use Rattle.record.specs.declared.command.Cursor.{Cursor}
use Rattle.record.specs.declared.command.Command.{Command}
use Rattle.record.specs.declared.refusal.Side.{Side}
use Rattle.record.specs.declared.refusal.Side.TheVariants.{Current, Released}
use Rattle.record.specs.declared.refusal.Refusal.TheVariants as R
use Rattle.record.specs.declared.judge.Fault.{Fault}
use Rattle.record.specs.declared.judge.Fault.TheVariants.{Fine, Outside, Missing, Flag}
use Rattle.record.specs.declared.judge.Row.{Row}
use Rattle.record.proofs.CommandLaws.{opt-read, none-operands, none-width}
use Rattle.record.specs.Judge.{Judged}

-- an absent text, by the operand's letter
module _ (side : Side) (x : Str) (o : ℕ) where
  pub absent-optional : o ≡ 79 → Fine ≡ if_absent side x o
  unfolding if_absent
  absent-optional e = rw e

  pub absent-current : o ≡ 33 → side ≡ Current → Missing ≡ if_absent side x o
  unfolding if_absent
  absent-current e h = rw (e, h)

  pub absent-released : o ≡ 33 → side ≡ Released → Fine ≡ if_absent side x o
  unfolding if_absent
  absent-released e h = rw (e, h)

  pub absent-words : (f : Bool) → o ≡ 63 → f ≡ flag_at x 4 → f ≡ true → Missing ≡ if_absent side x o
  unfolding if_absent
  absent-words f e h t = rw (e, ← h, t)

  pub absent-unused : (f : Bool) → o ≡ 63 → f ≡ flag_at x 4 → f ≡ false → Fine ≡ if_absent side x o
  unfolding if_absent
  absent-unused f e h t = rw (e, ← h, t)

  pub absent-plain : (o ≡ 79 → ⊥) → (o ≡ 33 → ⊥) → (o ≡ 63 → ⊥) → Outside ≡ if_absent side x o
  unfolding if_absent
  absent-plain a b c = rw (ne_eqb o 79 a, ne_eqb o 33 b, ne_eqb o 63 c)

pub ruleset absent-laws = (absent-optional, absent-current, absent-released, absent-words, absent-unused, absent-plain)

pub flag-low : (b : ℕ) → b < 2 → Fine ≡ flag_fault b
unfolding flag_fault
flag-low b h = rw (lt-ltb b 2 h)

pub flag-high : (b : ℕ) → 2 ≤ b → Flag ≡ flag_fault b
unfolding flag_fault
flag-high b h = rw (le-ltb b 2 h)

pub ruleset flag-laws = (flag-low, flag-high)

-- the bytes of an operand are there
module _ (o i n : ℕ) (h : i + wide o ≤ n) where
  pub flag-there : o ≡ 70 → i < n
  unfolding wide
  flag-there e = let w : wide o ≡ 1 = rw e in omega arith

  pub number-there : o ≡ 78 → i < n
  unfolding wide
  number-there e = let w : wide o ≡ 5 = rw e in omega arith

  pub text-there : (o ≡ 70 → ⊥) → (o ≡ 78 → ⊥) → (o ≡ 87 → ⊥) → (o ≡ 86 → ⊥) → i + 3 ≤ n
  unfolding wide
  text-there a b c d = let w : wide o ≡ 3 = rw (ne_eqb o 70 a, ne_eqb o 87 c, ne_eqb o 86 d, ne_eqb o 78 b) in omega arith

-- an operand, by its letter
module _ (side : Side) (pool : Str) (x : Str) (i o : ℕ) where
  pub operand-flag : (b : ℕ) (r : Fault) → o ≡ 70 → b ≡ get_or x i 0 → r ≡ flag_fault b → r ≡ operand_fault side pool x i o
  unfolding operand_fault
  operand-flag b r e h g = rw (e, ← h) g

  pub operand-number : (b : ℕ) (r : Fault) → o ≡ 78 → b ≡ get_or x i 0 → r ≡ flag_fault b → r ≡ operand_fault side pool x i o
  unfolding operand_fault
  operand-number b r e h g = rw (e, ← h) g

  pub operand-four : o ≡ 87 → Fine ≡ operand_fault side pool x i o
  unfolding operand_fault
  operand-four e = rw e

  pub operand-eight : o ≡ 86 → Fine ≡ operand_fault side pool x i o
  unfolding operand_fault
  operand-eight e = rw e

  pub operand-text : (a : Fault) (w : Text) (t : Option Text) (r : Fault) → (o ≡ 70 → ⊥) → (o ≡ 78 → ⊥) → (o ≡ 87 → ⊥) → (o ≡ 86 → ⊥) → a ≡ if_absent side x o → w ≡ text_at x i → t ≡ opt_text w → r ≡ text_fault pool a t → r ≡ operand_fault side pool x i o
  unfolding operand_fault
  operand-text a w t r f m w4 v e k h g = rw (ne_eqb o 70 f, ne_eqb o 78 m, ne_eqb o 87 w4, ne_eqb o 86 v, ← e, ← opt-read x i w t k h) g

pub ruleset operand-fault-laws = (operand-flag, operand-number, operand-four, operand-eight, operand-text)

-- the operands of a command, one after the other
worse-fine : (a : Fault) → worse_of a Fine ≡ a
worse-fine Fine = refl
worse-fine Outside = refl
worse-fine Missing = refl
worse-fine Flag = refl

module _ (side : Side) (pool : Str) (x : Str) (i : ℕ) where
  pub operand-then : (o : ℕ) (os : Str) (r q v : Fault) → r ≡ operand_fault side pool x i o → q ≡ faults_from side pool x (i + wide o) os → v ≡ worse_of r q → v ≡ faults_from side pool x i (o ∷ os)
  unfolding faults_from
  operand-then o os r q v e f g = rw (g, e, f)

  pub operand-alone : (o : ℕ) (r : Fault) → r ≡ operand_fault side pool x i o → r ≡ faults_from side pool x i (o ∷ [])
  unfolding faults_from
  operand-alone o r e = e ∙ sym (worse-fine (operand_fault side pool x i o))

  -- four bytes and eight bytes are never at fault
  pub skip-four : (os : Str) (q : Fault) → q ≡ faults_from side pool x (i + 4) os → q ≡ faults_from side pool x i (87 ∷ os)
  unfolding faults_from operand_fault wide
  skip-four os q f = f

  pub skip-eight : (os : Str) (q : Fault) → q ≡ faults_from side pool x (i + 8) os → q ≡ faults_from side pool x i (86 ∷ os)
  unfolding faults_from operand_fault wide
  skip-eight os q f = f

  pub operand-word : (r : Fault) → r ≡ operand_fault side pool x i 84 → r ≡ faults_from side pool x i (84 ∷ 87 ∷ [])
  unfolding faults_from operand_fault
  operand-word r e = e ∙ sym (worse-fine (operand_fault side pool x i 84))

-- so many bytes are there as the command of a number takes
pub command-there : (k w b n : ℕ) → width_of k ≡ w → b ≡ k → width_of b ≤ n → w ≤ n
command-there k w b n e h l = let q : width_of b ≡ w = ap width_of h ∙ e in omega arith

pub faults-unknown : (side : Side) (pool : Str) (x : Str) (b : ℕ) → (b ≡ 1 → ⊥) → (b ≡ 2 → ⊥) → (b ≡ 3 → ⊥) → (b ≡ 4 → ⊥) → (b ≡ 5 → ⊥) → (b ≡ 6 → ⊥) → (b ≡ 7 → ⊥) → (b ≡ 8 → ⊥) → (b ≡ 9 → ⊥) → (b ≡ 10 → ⊥) → (b ≡ 11 → ⊥) → (b ≡ 12 → ⊥) → (b ≡ 13 → ⊥) → (b ≡ 14 → ⊥) → (b ≡ 15 → ⊥) → Fine ≡ faults_of side pool x (operands b)
unfolding faults_of
faults-unknown side pool x b h1 h2 h3 h4 h5 h6 h7 h8 h9 h10 h11 h12 h13 h14 h15 = rw (none-operands b h1 h2 h3 h4 h5 h6 h7 h8 h9 h10 h11 h12 h13 h14 h15)

-- the row of a number
module _ (c : Cursor) (b : ℕ) where
  pub row-known : (k w : ℕ) (t u : Bool) (r : Row) → width_of k ≡ w → may_stand c k ≡ u → b ≡ k → t ≡ u → r ≡ row_of w t → r ≡ row_at c b
  unfolding row_at
  row-known k w t u r ew eu e et er = rw (er, e, ew, eu, et)

  pub row_other : (t : Bool) (r : Row) → (b ≡ 1 → ⊥) → (b ≡ 2 → ⊥) → (b ≡ 3 → ⊥) → (b ≡ 4 → ⊥) → (b ≡ 5 → ⊥) → (b ≡ 6 → ⊥) → (b ≡ 7 → ⊥) → (b ≡ 8 → ⊥) → (b ≡ 9 → ⊥) → (b ≡ 10 → ⊥) → (b ≡ 11 → ⊥) → (b ≡ 12 → ⊥) → (b ≡ 13 → ⊥) → (b ≡ 14 → ⊥) → (b ≡ 15 → ⊥) → t ≡ not (eqb c.last 0) → r ≡ row_of 0 t → r ≡ row_at c b
  unfolding row_at may_stand
  row_other t r h1 h2 h3 h4 h5 h6 h7 h8 h9 h10 h11 h12 h13 h14 h15 et er = rw (er, et, ← none-width b h1 h2 h3 h4 h5 h6 h7 h8 h9 h10 h11 h12 h13 h14 h15, ne_eqb b 1 h1, ne_eqb b 5 h5, ne_eqb b 7 h7, ne_eqb b 10 h10, ne_eqb b 11 h11, ne_eqb b 12 h12)

pub row-width : (c : Cursor) (b : ℕ) (r : Row) → r ≡ row_at c b → r.width ≡ width_of b
unfolding row_at
row-width c b r e = ap (λ (q : Row). q.width) e

module _ (p : Parent) (b : ℕ) where
  pub after-struct : b ≡ 8 → InStruct ≡ parent_after p b
  unfolding parent_after
  after-struct e = rw e

  pub after-family : b ≡ 9 → InFamily ≡ parent_after p b
  unfolding parent_after
  after-family e = rw e

  pub after-variant : b ≡ 10 → p ≡ parent_after p b
  unfolding parent_after
  after-variant e = rw e

  pub after-field : b ≡ 11 → p ≡ parent_after p b
  unfolding parent_after
  after-field e = rw e

  pub after-key : b ≡ 12 → p ≡ parent_after p b
  unfolding parent_after
  after-key e = rw e

  pub after-other : (b ≡ 8 → ⊥) → (b ≡ 9 → ⊥) → (b ≡ 10 → ⊥) → (b ≡ 11 → ⊥) → (b ≡ 12 → ⊥) → NoParent ≡ parent_after p b
  unfolding parent_after
  after-other h8 h9 h10 h11 h12 = rw (ne_eqb b 8 h8, ne_eqb b 9 h9, ne_eqb b 10 h10, ne_eqb b 11 h11, ne_eqb b 12 h12)

pub ruleset parent-laws = (after-struct, after-family, after-variant, after-field, after-key, after-other)

-- a command without fault
module _ (s : Str) (c : Cursor) (b w : ℕ) where
  pub ready-done : b ≡ 15 → c.at + w ≡ length s → Ok None ≡ ready s c b w
  unfolding ready
  ready-done e h = rw (e, eq-eqb (c.at + w) (length s) h)

  pub ready-more : b ≡ 15 → (c.at + w ≡ length s → ⊥) → Err (R.Misplaced, c.at + w) ≡ ready s c b w
  unfolding ready
  ready-more e h = rw (e, ne_eqb (c.at + w) (length s) h)

  pub ready-next : (d : Command) (p : Parent) → (b ≡ 15 → ⊥) → d ≡ command_of b (take (length s - c.at) (drop c.at s)) → p ≡ parent_after c.parent b → Ok (Some (d, record { at = c.at + w; last = b; parent = p })) ≡ ready s c b w
  unfolding ready
  ready-next d p e h g = rw (ne_eqb b 15 e, h, g, take_all (length s - c.at) (drop c.at s) (rw length-drop (omega arith)))

pub ruleset ready-laws = (ready-done, ready-more, ready-next)

-- a whole command that may stand where it does, by its operands
module _ (side : Side) (s : Str) (pool : Str) (c : Cursor) (b w : ℕ) (f : Fault) (e : f ≡ faults_of side pool (take (length s - c.at) (drop c.at s)) (operands b)) where
  fault-is : faults_of side pool (drop c.at s) (operands b) ≡ f
  fault-is = ap (λ (y : Str). faults_of side pool y (operands b)) (sym (take_all (length s - c.at) (drop c.at s) (rw length-drop (omega arith)))) ∙ sym e

  pub fault-outside : f ≡ Outside → Err (R.Outside, c.at) ≡ faulted c.at (ready s c b w) (faults_of side pool (drop c.at s) (operands b))
  fault-outside g = rw (fault-is, g)

  pub fault-missing : f ≡ Missing → Err (R.Missing, c.at) ≡ faulted c.at (ready s c b w) (faults_of side pool (drop c.at s) (operands b))
  fault-missing g = rw (fault-is, g)

  pub fault-flag : f ≡ Flag → Err (R.Flag, c.at) ≡ faulted c.at (ready s c b w) (faults_of side pool (drop c.at s) (operands b))
  fault-flag g = rw (fault-is, g)

  pub fault-none : (r : Judged) → f ≡ Fine → r ≡ ready s c b w → r ≡ faulted c.at (ready s c b w) (faults_of side pool (drop c.at s) (operands b))
  fault-none r g q = rw (fault-is, g) q

pub ruleset fault-laws = (fault-outside, fault-missing, fault-flag, fault-none)

-- the judgement by the command's row
module _ (side : Side) (s : Str) (pool : Str) (c : Cursor) where
  pub judged-past : length s ≤ c.at → Err (R.Cut, c.at) ≡ judged_at side s pool c
  unfolding judged_at
  judged-past h = rw (le-ltb c.at (length s) h)

  by-operands : (o : Option Str) → (width_with o ≡ 0 → ⊥) → judged_as side s pool c (get_or s c.at 0) o ≡ cond (ltb (length s - c.at) (width_with o)) (Err (R.Cut, c.at)) (cond (may_stand c (get_or s c.at 0)) (faulted c.at (ready s c (get_or s c.at 0) (width_with o)) (faults_of side pool (drop c.at s) o)) (Err (R.Misplaced, c.at)))
  unfolding judged_with width_with faults_of
  by-operands None z = absurd (z refl)
  by-operands (Some os) z = refl

  no-operands : (o : Option Str) → width_with o ≡ 0 → judged_as side s pool c (get_or s c.at 0) o ≡ Err (R.Unknown, c.at)
  unfolding width_with
  no-operands None z = refl
  no-operands (Some os) z = absurd (omega (arith, z))

  module _ (h : c.at < length s) (q : Row) (e : q ≡ row_at c (get_or s c.at 0)) where
    width_is : q.width ≡ width_with (operands (get_or s c.at 0))
    unfolding width_of
    width_is = row-width c (get_or s c.at 0) q e

    pub judged-unknown : q.width ≡ 0 → Err (R.Unknown, c.at) ≡ judged_at side s pool c
    unfolding judged_at
    judged-unknown z = rw (lt-ltb c.at (length s) h) (sym (no-operands (operands (get_or s c.at 0)) (sym width_is ∙ z)))

    module _ (z : q.width ≡ 0 → ⊥) where
      by_row : judged_at side s pool c ≡ cond (ltb (length s - c.at) q.width) (Err (R.Cut, c.at)) (cond q.stands (faulted c.at (ready s c (get_or s c.at 0) q.width) (faults_of side pool (drop c.at s) (operands (get_or s c.at 0)))) (Err (R.Misplaced, c.at)))
      unfolding row_at judged_at
      by_row = rw (lt-ltb c.at (length s) h, ap (λ (r : Row). r.stands) e, width_is) (by-operands (operands (get_or s c.at 0)) (λ y. z (width_is ∙ y)))

      pub judged-cut : length s - c.at < q.width → Err (R.Cut, c.at) ≡ judged_at side s pool c
      judged-cut l = rw (by_row, lt-ltb (length s - c.at) q.width l)

      pub judged-misplaced : q.width ≤ length s - c.at → q.stands ≡ false → Err (R.Misplaced, c.at) ≡ judged_at side s pool c
      judged-misplaced l t = rw (by_row, le-ltb (length s - c.at) q.width l, t)

      pub judged-standing : (r : Judged) → q.width ≤ length s - c.at → q.stands ≡ true
          → r ≡ faulted c.at (ready s c (get_or s c.at 0) q.width) (faults_of side pool (drop c.at s) (operands (get_or s c.at 0))) → r ≡ judged_at side s pool c
      judged-standing r l t g = rw (by_row, le-ltb (length s - c.at) q.width l, t) g

pub ruleset judged-laws = (judged-past, judged-unknown, judged-cut, judged-misplaced, judged-standing)
