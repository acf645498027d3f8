-- What the stretch of a pool is in each case.
use Prim.Native.Nat.{ℕ, ◌+◌, ◌-◌, ◌≤◌}
use mathlib.Core.List.{List}
use mathlib.Core.Path.{◌≡◌, sym, ◌∙◌}
use native.Mathlib.Nat.{add-sub_cancel_left}
use native.Mathlib.Omega.{arith}
use lib.ListN.{length, take, drop, drop_of_length-le, length-drop}
use lib.Seq.{take_all, take-nil}
pub use Rattle.texts.proofs.TextLaws.{kept, ended}
use Rattle.record.specs.Stretch.{text_of}
use Rattle.record.specs.declared.text.Text.{Text}

module _ (pool : List ℕ) (t : Text) where
  pub text-past : length pool ≤ t.start → take (length pool - length pool) (drop (length pool) pool) ≡ text_of pool t
  unfolding text_of
  text-past h = rw (drop_of_length-le pool {i = t.start} h, drop_of_length-le pool {i = length pool} (omega arith), take-nil, take-nil)

  pub text-whole : take (t.start + t.len - t.start) (drop t.start pool) ≡ text_of pool t
  unfolding text_of
  text-whole = rw (add-sub_cancel_left t.start t.len)

  pub text-cut : length pool - t.start ≤ t.len → take (length pool - t.start) (drop t.start pool) ≡ text_of pool t
  unfolding text_of
  text-cut h =
      take_all (length pool - t.start) (drop t.start pool) (rw length-drop (omega arith))
      ∙ sym (take_all t.len (drop t.start pool) (rw length-drop (omega arith)))

pub ruleset text-laws = (text-past, text-whole, text-cut)
