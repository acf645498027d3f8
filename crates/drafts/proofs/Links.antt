-- Commands written anew one after the other: each link is a command that stands where it is, whole, without fault, and says what it said. Assumes nothing.
use Rattle.std.specs.Prelude.{Option, Some, None, Ok, Err}
use mathlib.Core.Path.{◌≡◌, refl, sym, ap, ap₂, ◌∙◌}
use mathlib.Core.List.{List, [], ◌∷◌, ◌++◌, Memᴰ}
use mathlib.Core.Bool.{Bool, true, false, cond, false≢true}
use Prim.Native.Nat.{ℕ, ◌+◌}
use native.Mathlib.Omega.{arith}
use lib.ListN.{length, get_or, drop}
use lib.Dec.{eqb}
use borrow.Author.Tests.{eqb-true, eqb-false}
use Rattle.record.specs.Base.{Str, bytes, any}
use Rattle.record.specs.Operands.{flag_at}
use Rattle.record.specs.Commands.{operands, wide, widths, command_of}
use Rattle.record.specs.Judge.{may_stand, advanced, faults_from, ready, judged_at}
use Rattle.record.specs.declared.command.Cursor.{Cursor}
use Rattle.record.specs.declared.command.Command.{Command}
use Rattle.record.specs.declared.refusal.Side.{Side}
use Rattle.record.specs.declared.refusal.Refusal.TheVariants as R
use Rattle.record.specs.declared.judge.Fault.TheVariants.{Fine}
use Rattle.record.proofs.Accepted.{Passed, passed}
use Rattle.record.specs.CommandTexts.{no_text}
use Rattle.drafts.specs.Content.{Content, content_as, bytes_at}
use Rattle.drafts.specs.Packing.{le2, operand_bytes, row_bytes, row_with}
use Rattle.drafts.proofs.Pools.{any-mem}
use Rattle.record.specs.Judge.{Judged}
use Rattle.record.proofs.Basics.{same-parts}

-- only the constant asks for a flag ------------------------------------------------------------------------------------------

asks : Str → Bool
asks os = any (λ (o : ℕ). eqb o 63) os

module _ (b : ℕ) (os : Str) (a : asks os ≡ true) where
  other : (k : ℕ) (row : Str) (rest : Option Str) → asks row ≡ false → cond (eqb b k) (Some row) rest ≡ Some os → rest ≡ Some os
  other k row rest n e = go (eqb b k) e
    where
      go : (t : Bool) → cond t (Some row) rest ≡ Some os → rest ≡ Some os
      go true h = let q : row ≡ os = cc in absurd (false≢true (sym n ∙ ap asks q ∙ a))
      go false h = h

  only-constant : operands b ≡ Some os → b ≡ 2
  unfolding operands bytes asks any
  only-constant e = go (eqb b 2) refl (other 1 _ _ refl e)
    where
      go : (t : Bool) → eqb b 2 ≡ t
          → cond t (Some (bytes "TFV?FO"))
          (cond (eqb b 3) (Some (bytes "TT"))
          (cond (eqb b 4) (Some (bytes "TWFO"))
          (cond (eqb b 5) (Some (bytes "TVO"))
          (cond (eqb b 6) (Some (bytes "TW!"))
          (cond (eqb b 7) (Some (bytes "TWNO"))
          (cond (eqb b 8) (Some (bytes "TOO"))
          (cond (eqb b 9) (Some (bytes "TTTTOF"))
          (cond (eqb b 10) (Some (bytes "T"))
          (cond (eqb b 11) (Some (bytes "TTOONNNN"))
          (cond (eqb b 12) (Some (bytes "T!"))
          (cond (eqb b 13) (Some (bytes "T!"))
          (cond (eqb b 14) (Some (bytes "TW"))
          (cond (eqb b 15) (Some (bytes "")) None))))))))))))) ≡ Some os → b ≡ 2
      go true q h = eqb-true b 2 q
      go false q h =
          let z = other 15 _ _ refl (other 14 _ _ refl (other 13 _ _ refl (other 12 _ _ refl (other 11 _ _ refl (other 10 _ _ refl (other 9 _ _ refl (other 8 _ _ refl
          (other 7 _ _ refl (other 6 _ _ refl (other 5 _ _ refl (other 4 _ _ refl (other 3 _ _ refl h)))))))))))) in
          absurd (let y : ◌≡◌ {A = ℕ} 0 1 = cc in omega arith)

module _ (f : ℕ → ℕ) (x rest : Str) where
  constant-flag : flag_at ((2 ∷ []) ++ (row_with f x (operands 2) ++ rest)) 4 ≡ flag_at x 4
  unfolding row_with row_bytes operand_bytes operands bytes le2 no_text bytes_at wide flag_at
  constant-flag = refl

  pub flag-kept : (b : ℕ) (os : Str) → operands b ≡ Some os → (o : ℕ) → Memᴰ o os → eqb o 63 ≡ true → flag_at ((b ∷ []) ++ (row_bytes f x 1 os ++ rest)) 4 ≡ flag_at x 4
  unfolding row_with asks
  flag-kept b os e o m q =
      let two = only-constant b os (any-mem (λ (o : ℕ). eqb o 63) os m q) e in
      let row : operands 2 ≡ Some os = ap operands (sym two) ∙ e in
      ap₂ (λ (k : ℕ) (r : Option Str). flag_at ((k ∷ []) ++ (row_with f x r ++ rest)) 4) two (sym row) ∙ constant-flag

-- links ------------------------------------------------------------------------------------------------------------------------

pub record Link (side : Side) (p : Str) (k : Cursor) (z : Str) (d : Content) : Type 0 where
  pub row : Str
  pub has-row : operands (get_or z 0 0) ≡ Some row
  pub sized : length z ≡ 1 + widths row
  pub going : get_or z 0 0 ≡ 15 → ⊥
  pub stands : may_stand k (get_or z 0 0) ≡ true
  pub fine : (rest : Str) → faults_from side p (z ++ rest) 1 row ≡ Fine
  pub says : (rest : Str) → content_as p (z ++ rest) (get_or z 0 0) ≡ d

abbrev pub Chain : Side → Str → Cursor → List Str → List Content → Type 0
Chain side p k [] [] = k.last ≡ 0 → ⊥
Chain side p k [] (d ∷ ds) = ⊥
Chain side p k (z ∷ zs) [] = ⊥
Chain side p k (z ∷ zs) (d ∷ ds) = Link side p k z d × Chain side p (advanced k (get_or z 0 0) (length z)) zs ds

-- what a judged command has passed ---------------------------------------------------------------------------------------------

pub record Went (side : Side) (s : Str) (pool : Str) (c k : Cursor) : Type 0 where
  pub row : Str
  pub has-row : operands (get_or s c.at 0) ≡ Some row
  pub stands : may_stand c (get_or s c.at 0) ≡ true
  pub fine : faults_from side pool (drop c.at s) 1 row ≡ Fine
  pub going : get_or s c.at 0 ≡ 15 → ⊥
  pub next : advanced c (get_or s c.at 0) (1 + widths row) ≡ k

module _ (side : Side) (s : Str) (pool : Str) (c : Cursor) where
  pub went : (d : Command) (k : Cursor) → judged_at side s pool c ≡ Ok (Some (d, k)) → Went side s pool c k
  unfolding ready
  went d k e =
      let p = passed side s pool c (Ok (Some (d, k))) tt e in
      go p (eqb (get_or s c.at 0) 15) refl (eqb (c.at + (1 + widths p.row)) (length s)) p.is-ready
    where
      go : (p : Passed side s pool c (Ok (Some (d, k)))) (t : Bool) → eqb (get_or s c.at 0) 15 ≡ t → (u : Bool)
          → cond {A = Judged} t (cond u (Ok None) (Err (R.Misplaced, c.at + (1 + widths p.row)))) (Ok (Some (command_of (get_or s c.at 0) (drop c.at s), advanced c (get_or s c.at 0) (1 + widths p.row)))) ≡ Ok (Some (d, k))
          → Went side s pool c k
      go p true q true h = absurd (let z : ◌≡◌ {A = ℕ} 0 1 = cc in omega arith)
      go p true q false h = absurd (let z : ◌≡◌ {A = ℕ} 0 1 = cc in omega arith)
      go p false q u h = record { row = p.row; has-row = p.has-row; stands = p.stands; fine = p.fine; going = eqb-false (get_or s c.at 0) 15 q; next = (same-parts (let z : ◌≡◌ {A = Option (Command × Cursor)} (Some (command_of (get_or s c.at 0) (drop c.at s), advanced c (get_or s c.at 0) (1 + widths p.row))) (Some (d, k)) = cc in z)).1 }

  -- at 0F something stood before
  pub stopped : judged_at side s pool c ≡ Ok None → c.last ≡ 0 → ⊥
  unfolding ready may_stand
  stopped e z =
      let p = passed side s pool c (Ok None) tt e in
      go p (eqb (get_or s c.at 0) 15) refl p.is-ready p.stands
    where
      go : (p : Passed side s pool c (Ok None)) (t : Bool) → eqb (get_or s c.at 0) 15 ≡ t
          → cond {A = Judged} t (cond (eqb (c.at + (1 + widths p.row)) (length s)) (Ok None) (Err (R.Misplaced, c.at + (1 + widths p.row)))) (Ok (Some (command_of (get_or s c.at 0) (drop c.at s), advanced c (get_or s c.at 0) (1 + widths p.row)))) ≡ Ok None
          → may_stand c (get_or s c.at 0) ≡ true → ⊥
      go p true q h m = false≢true (rw (eqb-true (get_or s c.at 0) 15 q, z) at m)
      go p false q h m = let y : ◌≡◌ {A = ℕ} 0 1 = cc in omega arith
