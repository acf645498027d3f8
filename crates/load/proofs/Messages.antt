-- The messages of a pair's verdicts are short, so the check program's buffer has room for them. Assumes nothing.
use mathlib.Core.Path.{◌≡◌, refl}
use mathlib.Core.List.{List, [], ◌∷◌, ◌++◌}
use mathlib.Core.Bool.{Bool, true, false, cond}
use Prim.Native.Nat.{ℕ, zero, suc, ◌+◌, ◌/◌, ◌%◌, ◌≤◌, ◌<◌}
use native.Mathlib.Omega.{arith}
use native.Mathlib.Nat.{mod-lt}
use lib.Dec.{ltb, lit<, lit≤}
use lib.ListN.{length, length-append}
use Rattle.record.specs.Base.{Str, bytes, digits, decimal}
use Rattle.record.specs.Fill.{joined}
use Rattle.definition.specs.Verdicts.{message_of, constant_gone, field_gone, moved, resized, unraised}
use Rattle.definition.specs.Answer.{check}
use Rattle.record.proofs.WriterLaws.{text-short}
use Rattle.load.specs.Plan.{outcome_number}
use Rattle.load.specs.Wanted.{wanted}
use Rattle.load.specs.Pool as W
use Rattle.load.specs.Commands.{field_meant}
use Rattle.load.specs.Draws
use Rattle.load.specs.Draws.{setting_of}
use Rattle.load.specs.Generator.{plan_of, spare_at}
use Rattle.load.proofs.Pairs.{now-record, was-record, pair-number}
use Rattle.load.specs.declared.outcomes.Outcome.{Outcome}
use Rattle.load.specs.declared.outcomes.Outcome.TheVariants as O
use Rattle.load.specs.declared.settings.Setting.{Setting}

summed : List Str → ℕ
summed [] = 0
summed (t ∷ ts) = length t + summed ts

joined_length : (ts : List Str) → length (joined ts) ≡ summed ts
unfolding joined summed
joined_length [] = refl
joined_length (t ∷ ts) = let a = length-append t (joined ts) in let b = joined_length ts in omega arith

digits-short : (k n : ℕ) → length (digits k n) ≤ k
digits-short zero n = omega arith
digits-short (suc k) n = go (ltb n 10) (digits-short k (n / 10))
  where
    go : (b : Bool) → length (digits k (n / 10)) ≤ k → length (cond b ((48 + n) ∷ []) (digits k (n / 10) ++ ((48 + n % 10) ∷ []))) ≤ suc k
    go true h = omega arith
    go false h = let a = length-append (digits k (n / 10)) ((48 + n % 10) ∷ []) in omega arith

decimal-short : (n : ℕ) → length (decimal n) ≤ 20
unfolding decimal
decimal-short n = digits-short 20 n

-- each message
constant_gone-short : (n : Str) → length n ≤ 16 → length (message_of (constant_gone n)) ≤ 1024
unfolding message_of constant_gone bytes summed
constant_gone-short n h = rw joined_length (omega arith)

module _ (o n : Str) (h : length o ≤ 16) (k : length n ≤ 16) where
  field_gone-short : length (message_of (field_gone o n)) ≤ 1024
  unfolding message_of field_gone bytes summed
  field_gone-short = rw joined_length (omega arith)

  moved-short : (a b : ℕ) → length (message_of (moved o n a b)) ≤ 1024
  unfolding message_of moved bytes summed
  moved-short a b = let x = decimal-short a in let y = decimal-short b in rw joined_length (omega arith)

  resized-short : (a b : ℕ) → length (message_of (resized o n a b)) ≤ 1024
  unfolding message_of resized bytes summed
  resized-short a b = let x = decimal-short a in let y = decimal-short b in rw joined_length (omega arith)

  unraised-short : (a b : ℕ) → length (message_of (unraised o a o n b)) ≤ 1024
  unfolding message_of unraised bytes summed
  unraised-short a b = let x = decimal-short a in let y = decimal-short b in rw joined_length (omega arith)

module _ (g : Setting) where
  name-short : length (plan_of g).name ≤ 16
  unfolding plan_of Draws.struct_name W.struct_text
  name-short = let a = text-short _ W.pool (W.struct_text g.lengths g.root) refl in let b : (g.lengths + g.root) % 14 < 14 = mod-lt (g.lengths + g.root) (lit< tt) in omega arith

  target-short : length (plan_of g).target.name ≤ 16
  unfolding plan_of field_meant Draws.target_field Draws.field_name W.field_text
  target-short = let a = text-short _ W.pool (W.field_text g.lengths g.target) refl in let b : (g.lengths + g.target) % 14 < 14 = mod-lt (g.lengths + g.target) (lit< tt) in omega arith

  spare-short : length (plan_of g).spare.name ≤ 16
  unfolding plan_of spare_at bytes
  spare-short = lit≤ tt

  constant-short : length (plan_of g).constant ≤ 16
  unfolding plan_of bytes
  constant-short = lit≤ tt

  pub message-short : (o : Outcome) → length (message_of (wanted o (plan_of g))) ≤ 1024
  unfolding wanted message_of
  message-short O.Accepted = lit≤ tt
  message-short O.ConstantGone = constant_gone-short (plan_of g).spare.name spare-short
  message-short O.FieldGone = field_gone-short (plan_of g).name (plan_of g).target.name name-short target-short
  message-short O.FieldMoved = moved-short (plan_of g).name (plan_of g).target.name name-short target-short _ _
  message-short O.FieldResized = resized-short (plan_of g).name (plan_of g).target.name name-short target-short _ _
  message-short O.Unraised = unraised-short (plan_of g).name (plan_of g).constant name-short constant-short _ _

-- the check of a pair gives its outcome, for every seed and outcome and every buffer of 1,024 bytes and more
pub pair-outcome : (seed : ℕ) (o : Outcome) (room : ℕ) → 1024 ≤ room → (check room (now-record seed o) (was-record seed)).number ≡ outcome_number o
pair-outcome seed o room h = pair-number seed o room (let a = message-short (setting_of seed) o in omega arith)
