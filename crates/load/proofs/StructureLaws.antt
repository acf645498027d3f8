-- Fields and structures put one after the other. Assumes nothing.
use mathlib.Core.Path.{◌≡◌, refl, sym, ◌∙◌, ap}
use mathlib.Core.List.{[], ◌++◌, append_assoc, append-nil}
use Prim.Native.Nat.{ℕ, zero, suc, ◌+◌, ◌-◌, ◌*◌, ◌≤◌, ◌<◌}
use native.Mathlib.Omega.{arith}
use native.Mathlib.Numerals.{sub-one}
use lib.ListN.{length}
use Rattle.record.specs.Base.{Str}
use Rattle.record.specs.Write.{largest, Puts}
use Rattle.record.specs.declared.text.Text.{Text}
use Rattle.record.proofs.WriterLaws.{puts_none, puts_then, puts-as}
use Rattle.load.specs.Pool as W
use Rattle.load.specs.Commands.{field_bytes, struct_bytes}
use Rattle.load.specs.Draws.{seed_after, field_drawn, fields_from, struct_name, plain_struct, structs_from}
use Rattle.load.specs.Bytes.{fields_bytes, struct_with_fields, structs_bytes}
use Rattle.load.specs.Commands.{struct_command}
use Rattle.load.proofs.ByteLaws.{structs-cons}
use Rattle.load.specs.declared.settings.Setting.{Setting}
use Rattle.load.specs.declared.commands.FieldCommand.{FieldCommand}

-- some of the bytes are put, and others are left
pub record Putting (out : Str) (at : ℕ) (xs mid : Str) (q : ℕ) (left : Str) : Type 0 where
  pub done : Str
  pub put : Puts out at done mid q
  pub both : done ++ left ≡ xs

pub putting-start : (out : Str) (at : ℕ) (xs : Str) → at ≤ largest → length out ≤ largest → Putting out at xs out at xs
putting-start out at xs a b = record { done = []; put = puts_none out at a b; both = refl }

pub putting-next : (out : Str) (at : ℕ) (xs mid : Str) (q : ℕ) (l y ys : Str) (after : Str) (r : ℕ) → Putting out at xs mid q l → l ≡ y ++ ys → Puts mid q y after r → Putting out at xs after r ys
putting-next out at xs mid q l y ys after r p e w = record {
  done = p.done ++ y;
  put = puts_then p.put w;
  both = append_assoc p.done y ys ∙ ap (λ (x : Str). p.done ++ x) (sym e) ∙ p.both;
}

pub putting-end : (out : Str) (at : ℕ) (xs mid : Str) (q : ℕ) (l : Str) → Putting out at xs mid q l → l ≡ [] → Puts out at xs mid q
putting-end out at xs mid q l p e = puts-as p.put (sym (append-nil p.done) ∙ ap (λ (x : Str). p.done ++ x) (sym e) ∙ p.both)

module _ (g : Setting) (out : Str) (at : ℕ) (xs mid : Str) (q s j : ℕ) where
  fields-one : (n : ℕ) → 0 < n → fields_bytes (fields_from g s j n) ≡ field_bytes (field_drawn g s j) ++ fields_bytes (fields_from g (seed_after 3 s) (j + 1) (n - 1))
  unfolding fields_bytes fields_from
  fields-one zero h = absurd (omega arith)
  fields-one (suc n) h = rw sub-one

  pub fields-on : (end t : ℕ) (field : FieldCommand) (after : Str) (r : ℕ) → Putting out at xs mid q (fields_bytes (fields_from g s j (end - j))) → j < end → field ≡ field_drawn g s j
      → Puts mid q (field_bytes field) after r → t ≡ seed_after 3 s → Putting out at xs after r (fields_bytes (fields_from g t (j + 1) (end - (j + 1))))
  unfolding field_bytes
  fields-on end t field after r p h e w k =
      let n : end - j - 1 ≡ end - (j + 1) = omega arith in
      rw (k, ← n) (putting-next out at xs mid q (fields_bytes (fields_from g s j (end - j))) (field_bytes (field_drawn g s j)) (fields_bytes (fields_from g (seed_after 3 s) (j + 1) (end - j - 1))) after r p (fields-one (end - j) (omega arith)) (puts-as w (ap field_bytes e)))

  pub fields-end : (end : ℕ) → Putting out at xs mid q (fields_bytes (fields_from g s j (end - j))) → end ≤ j → Puts out at xs mid q
  unfolding fields_bytes fields_from
  fields-end end p h = let n : end - j ≡ 0 = omega arith in putting-end out at xs mid q [] (rw n at p) refl

  structs-one : (n : ℕ) → 0 < n → structs_bytes (structs_from g s j n) ≡ struct_with_fields (plain_struct g s j) ++ structs_bytes (structs_from g (seed_after (3 * g.fields) s) (j + 1) (n - 1))
  unfolding structs_from
  structs-one zero h = absurd (omega arith)
  structs-one (suc n) h = rw sub-one (sym (structs-cons (plain_struct g s j) (structs_from g (seed_after (3 * g.fields) s) (j + 1) n)))

  pub structs-on : (end t : ℕ) (after : Str) (r : ℕ) → Putting out at xs mid q (structs_bytes (structs_from g s j (end - j))) → j < end
      → Puts mid q (struct_with_fields (plain_struct g s j)) after r → t ≡ seed_after (3 * g.fields) s → Putting out at xs after r (structs_bytes (structs_from g t (j + 1) (end - (j + 1))))
  structs-on end t after r p h w k =
      let n : end - j - 1 ≡ end - (j + 1) = omega arith in
      rw (k, ← n) (putting-next out at xs mid q (structs_bytes (structs_from g s j (end - j))) (struct_with_fields (plain_struct g s j)) (structs_bytes (structs_from g (seed_after (3 * g.fields) s) (j + 1) (end - j - 1))) after r p (structs-one (end - j) (omega arith)) w)

  pub structs_end : (end : ℕ) → Putting out at xs mid q (structs_bytes (structs_from g s j (end - j))) → end ≤ j → Puts out at xs mid q
  unfolding structs_bytes structs_from
  structs_end end p h = let n : end - j ≡ 0 = omega arith in putting-end out at xs mid q [] (rw n at p) refl

  -- a structure, and its fields
  pub plain-put : (name : Text) (after : Str) (r i : ℕ) (end : Str) (k : ℕ) → name ≡ W.struct_text g.lengths i → Puts mid q (struct_bytes (struct_command name W.absent W.absent)) after r
      → Puts after r (fields_bytes (fields_from g s 0 g.fields)) end k → Puts mid q (struct_with_fields (plain_struct g s i)) end k
  unfolding struct_with_fields plain_struct struct_name struct_bytes
  plain-put name after r i end k e a b = puts_then (puts-as a (ap (λ (t : Text). struct_bytes (struct_command t W.absent W.absent)) e)) b
