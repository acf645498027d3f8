-- The owner call goes by the schema that the reading gives. Assumes nothing.
use Rattle.std.specs.Prelude.{Option, Some, None, Ok}
use mathlib.Core.Path.{◌≡◌, refl, sym, ap, subst, ◌∙◌}
use mathlib.Core.List.Memᴰ
use mathlib.Core.List.{List, [], ◌∷◌, map, Memᴰ}
use mathlib.Core.Bool.{Bool, true, false, cond, false≢true}
use Prim.Native.Nat.{ℕ}
use lib.Dec.{eqb}
use lib.ListN.{get_or, drop}
use Rattle.record.specs.Base.{Str, eqs, is_text, map_option, find}
use Rattle.record.specs.Stretch.{text_of}
use Rattle.record.specs.Schema.{Schema, Struct}
use Rattle.record.specs.Commands.{struct_at, commands_at}
use Rattle.record.specs.Lists.{opt_of, listed, anything, structs}
use Rattle.record.specs.Steps.{structs_at, families_at}
use Rattle.record.specs.Reading.{Reading, read, refuse, reading, schema_from, schema_of}
use Rattle.record.specs.Owner.{Types, types_in, struct_in_slot, with_name, roots_in, ownership_order, roots, owner_of, First, now, later}
use Rattle.record.specs.References.{types_at}
use Rattle.record.specs.Versioned.{struct_commands_at, command_in_slot}
use Rattle.record.specs.Ownership.{with_stretch, stretches_in, stretch_of, owner_at}
use Rattle.record.specs.declared.text.Text.{Text}
use Rattle.record.specs.declared.command as D
use Rattle.record.specs.declared.refusal.Side.TheVariants.{Current}
use Rattle.record.proofs.Basics.{eqs→eq, eqs-refl, none≢some}
use Rattle.record.proofs.Walk.{owner-is-first}
use Rattle.record.proofs.Accepted.{accepting}
use Rattle.layout.specs.OwnerCall.{owner_read, owner_fields, owner_asked}
use Rattle.layout.specs.declared.owner.OwnerFields.{OwnerFields}
use Rattle.menqachu.specs.Guarantees.{owner_name, OwnersBySchema}

-- the first of the roots that leads to a name is one of them
first-in : {t : Types} {n r : Str} {rs : List Str} → First t n rs r → Memᴰ r rs
first-in (now e l) = Memᴰ.head (sym e)
first-in (later d f) = Memᴰ.tail (first-in f)

module _ (s p : Str) where
  -- the structures' commands among those at some places
  abbrev commands_in : List ℕ → List D.Struct.Struct
  commands_in ps = listed s anything 8 (λ at rest. struct_at (drop at s)) ps

  abbrev name_of : Struct → Str
  name_of t = t.name

  abbrev name_at : D.Struct.Struct → Str
  name_at e = text_of p e.name

  -- the structure in a slot has the name that its command gives
  abbrev SlotName : Str → List ℕ → Type 0
  SlotName slot ps = map_option name_of (struct_in_slot slot (structs s p ps)) ≡ map_option name_at (command_in_slot p slot (commands_in ps))

  slot-name : (slot : Str) (ps : List ℕ) → SlotName slot ps
  unfolding struct_in_slot command_in_slot structs listed find map_option
  slot-name slot [] = refl
  slot-name slot (at ∷ ps) =
      go (eqb (get_or s at 0) 8) refl (is_text (opt_of p (struct_at (drop at s)).generation_slot) slot) refl (slot-name slot ps)
    where
      go : (a : Bool) → eqb (get_or s at 0) 8 ≡ a → (b : Bool) → is_text (opt_of p (struct_at (drop at s)).generation_slot) slot ≡ b
          → SlotName slot ps → SlotName slot (at ∷ ps)
      go false e b f h = rw e h
      go true e true f h = rw (e, f)
      go true e false f h = rw (e, f) h

  -- the roots' names are what their stretches read
  roots-are : (ps : List ℕ) (slots : List Str) → roots_in (structs s p ps) slots ≡ map (text_of p) (stretches_in p (commands_in ps) slots)
  unfolding roots_in stretches_in with_name with_stretch map_option
  roots-are ps [] = refl
  roots-are ps (x ∷ xs) =
      both (struct_in_slot x (structs s p ps)) (command_in_slot p x (commands_in ps)) (slot-name x ps) (roots_in (structs s p ps) xs)
      (stretches_in p (commands_in ps) xs) (roots-are ps xs)
    where
      both : (o : Option Struct) (c : Option D.Struct.Struct) → map_option name_of o ≡ map_option name_at c
          → (rs : List Str) (ts : List Text) → rs ≡ map (text_of p) ts → with_name o rs ≡ map (text_of p) (with_stretch c ts)
      both None None e rs ts h = h
      both (Some t) (Some c) e rs ts h = let k : t.name ≡ text_of p c.name = cc in rw (k, h)
      both None (Some c) e rs ts h = absurd (none≢some e)
      both (Some t) None e rs ts h = absurd (none≢some (sym e))

  -- a name that one of the stretches reads is found by it
  found : (ts : List Text) (r : Str) → Memᴰ r (map (text_of p) ts)
      → opt_of p (find (λ (t : Text). eqs (text_of p t) r) ts) ≡ Some r
  unfolding find
  found [] r m = absurd (Memᴰ.not-nil m)
  found (t ∷ ts) r m = go (eqs (text_of p t) r) refl m (λ i. found ts r i)
    where
      rest : Option Text
      rest = find (λ (x : Text). eqs (text_of p x) r) ts

      go : (b : Bool) → eqs (text_of p t) r ≡ b → Memᴰ r (text_of p t ∷ map (text_of p) ts)
          → (Memᴰ r (map (text_of p) ts) → opt_of p rest ≡ Some r) → opt_of p (cond b (Some t) rest) ≡ Some r
      go true e m h = ap Some (eqs→eq (text_of p t) r e)
      go false e (Memᴰ.head q) h = absurd (false≢true (sym e ∙ subst (λ (x : Str). eqs x r ≡ true) q (eqs-refl r)))
      go false e (Memᴰ.tail i) h = h i

  -- the stretch that is answered reads as the owner's name
  name-is : (n : Str) → opt_of p (owner_at s p n) ≡ owner_of (types_at s p) n
  unfolding owner_at stretch_of roots struct_commands_at structs_at
  name-is n = go (owner_of (types_at s p) n) refl
    where
      go : (o : Option Str) → owner_of (types_at s p) n ≡ o
          → opt_of p (stretch_of p (stretches_in p (struct_commands_at s 0) ownership_order) o) ≡ o
      go None e = refl
      go (Some r) e =
          found (stretches_in p (struct_commands_at s 0) ownership_order) r
          (subst (λ (l : List Str). Memᴰ r l) (roots-are (commands_at s 0) ownership_order) (first-in ((owner-is-first (types_at s p) n r).0 e)))

given-name : (p : Str) (o : Option Text) → owner_name p (owner_fields (Ok o)) ≡ opt_of p o
unfolding text_of
given-name p None = refl
given-name p (Some t) = refl

given-number : (o : Option Text) → (owner_fields (Ok o)).number ≡ 0
given-number None = refl
given-number (Some t) = refl

pub owners-by-schema : OwnersBySchema
unfolding owner_asked schema_of schema_from structs_at families_at
owners-by-schema cur name r e = record {
  number = λ s h. ap (λ (f : OwnerFields). f.number) (given (read s) h) ∙ given-number answer;
  owner = λ s h.
      ap (owner_name cur.pool) (given (read s) h)
      ∙ given-name cur.pool answer
      ∙ name-is cur.stream cur.pool name
      ∙ ap (λ (x : Schema). owner_of (types_in x) name) (accepting Current cur s h).is-schema;
  refused = λ x place h. given (refuse x place) h;
}
  where
    answer : Option Text
    answer = owner_at cur.stream cur.pool name

    given : (x : Reading) → reading Current cur ≡ x → r ≡ owner_fields (owner_read cur name x)
    given x h = e ∙ ap (λ (y : Reading). owner_fields (owner_read cur name y)) h
