-- The owner call's answer, from what the reading and the walk answer. Assumes nothing.
use Rattle.std.specs.Prelude.{Option, Result, Ok, Err, ⊤}
use Prim.Native.Nat.{ℕ}
use mathlib.Core.Path.{◌≡◌, sym, ap, ◌∙◌}
use Rattle.record.specs.Base.{Str}
use Rattle.record.specs.Scalars.{scalars_of, built_in, built_in_rows}
use Rattle.record.specs.Reading.{Rec, rec, read, refuse, reading, schema_of}
use Rattle.record.specs.Read.{Read}
use Rattle.record.specs.Ownership.{IsOwner, OwnerFound}
use Rattle.record.specs.declared.text.Text.{Text}
use Rattle.record.specs.declared.refusal.Refusal.{Refusal}
use Rattle.record.specs.declared.refusal.Side.TheVariants.{Current}
use Rattle.layout.specs.OwnerCall.{owner_asked, owner_read, name_read, owner_fields, OwnerAnswer, OwnerAsked}
use Rattle.layout.specs.declared.owner.OwnerFields.{OwnerFields}
use Rattle.layout.proofs.Readable.{reading-refused, reading-read, read_short}

module _ (s p n rows : Str) (o : Result ⊤ (Refusal × ℕ)) (e : rows ≡ built_in_rows) (h : Read Current (rec s p (scalars_of rows)) o) where
  abbrev R : Rec
  R = rec s p built_in

  pub owner-refused : (x : Refusal × ℕ) → o ≡ Err x → OwnerAsked R n (Err x)
  unfolding owner_asked
  owner-refused x k =
      let g : reading Current R ≡ refuse x.0 x.1 = reading-refused Current s p rows o e h x.0 x.1 k in
      record { answer = sym (ap (owner_read R n) g); name = sym (ap (name_read R n) g) }

  module _ (w : Option Text) (k : o ≡ Ok tt) (f : OwnerFound 32768 s p n w) where
    found : IsOwner s p n w
    found = f.within (read_short Current s p rows o e h k)

    is_read : reading Current R ≡ read (schema_of R)
    is_read = reading-read Current s p rows o e h k

    pub owner-found : OwnerAsked R n (Ok w)
    unfolding owner_asked
    owner-found =
        record {
          answer = ap Ok found.stretch ∙ sym (ap (owner_read R n) is_read);
          name = found.owner ∙ sym (ap (name_read R n) is_read);
        }

pub owner-exported : (r : Rec) (n : Str) (a : OwnerAnswer) (f : OwnerFields) → OwnerAsked r n a → f ≡ owner_fields a → f ≡ owner_fields (owner_asked r n)
owner-exported r n a f h e = e ∙ ap owner_fields h.answer
