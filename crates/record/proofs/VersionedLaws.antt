-- A slot's first structure along a walk over the structures, and the names of those that carry a generation. Assumes nothing.
use Rattle.std.specs.Prelude.{Option, Some, None}
use mathlib.Core.Path.{◌≡◌, refl, sym, ap, ◌∙◌}
use mathlib.Core.List.{◌∷◌}
use mathlib.Core.Bool.{Bool, true, false, cond}
use Prim.Native.Nat.{ℕ}
use lib.ListN.{drop}
use Rattle.record.specs.Base.{Str, bytes, is_text, or_option}
use Rattle.record.specs.Operands.{opt_text_at}
use Rattle.record.specs.Commands.{place, struct_at}
use Rattle.record.specs.Lists.{opt_of, struct_of}
use Rattle.record.specs.Seek.{SoughtFrom}
use Rattle.record.specs.Steps.{structs_at, fields_at, struct_found}
use Rattle.record.specs.Owner.{struct_in_slot, roots_in}
use Rattle.record.specs.declared.command as D
use Rattle.record.specs.declared.seek.Between.TheVariants.{Anything}
use Rattle.record.specs.declared.versioned.Versioned.{Versioned}
use Rattle.record.specs.Versioned.{slot_order, versioned, struct_commands_at, command_in_slot, command_found, InSlot, InSlots, versioned_names, first_slotted, filled_by}
use Rattle.record.proofs.ListLaws.{find_none, find-hit, find-miss}
use Rattle.record.proofs.SeekLaws.{listed-none, listed-some}
use Rattle.record.specs.Listings.{struct_list}
use Rattle.record.proofs.ListingLaws.{listing-over, listing-next}
use Rattle.record.specs.declared.text.Text.{Text}
use Rattle.record.specs.Commands.{Step}

-- first_slotted ---------------------------------------------------------------------------------------------------------

module _ (p slot : Str) (f : Step D.Struct.Struct) (e : D.Struct.Struct) (k : ℕ) where
  pub first-stays : (first : D.Struct.Struct) (from : D.Cursor.Cursor) → f ≡ Some (first, from) → Some (first, from) ≡ first_slotted p slot f e k
  unfolding first_slotted
  first-stays first from h = rw h

  module _ (h : f ≡ None) (t : Bool) (is : t ≡ is_text (opt_of p e.generation_slot) slot) where
    pub first_taken : (c : D.Cursor.Cursor) → c ≡ place k → t ≡ true → Some (e, c) ≡ first_slotted p slot f e k
    unfolding first_slotted
    first_taken c g z = rw (h, ← is, z, g)

    pub first-passed : t ≡ false → None ≡ first_slotted p slot f e k
    unfolding first_slotted
    first-passed z = rw (h, ← is, z)

pub ruleset first-slotted-laws = (first-stays, first_taken, first-passed)

-- filled_by --------------------------------------------------------------------------------------------------------------

pub slots_filled : (p : Str) (f : Versioned) (e : D.Struct.Struct) (k : ℕ) (a b c : Step D.Struct.Struct) → a ≡ first_slotted p (bytes "info") f.info e k → b ≡ first_slotted p (bytes "metadata") f.metadata e k
    → c ≡ first_slotted p (bytes "runtime") f.runtime e k → ◌≡◌ {A = Versioned} (record { info = a; metadata = b; runtime = c }) (filled_by p f e k)
unfolding filled_by
slots_filled p f e k a b c g h i = rw (g, h, i)

-- one slot along the walk ------------------------------------------------------------------------------------------------

-- the first with the slot text is the one that fills the slot, or where none does yet, the first from a place on
record Filled (s p slot : Str) (at : ℕ) (f : Step D.Struct.Struct) : Type 0 where
  structs : struct_in_slot slot (structs_at s p 0) ≡ or_option (struct_found s p f) (struct_in_slot slot (structs_at s p at))
  commands : command_in_slot p slot (struct_commands_at s 0) ≡ or_option (command_found f) (command_in_slot p slot (struct_commands_at s at))

empty : (s p slot : Str) → Filled s p slot 0 None
unfolding or_option
empty s p slot = record { structs = refl; commands = refl }

or-none : {A : Type 0} (o : Option A) → or_option o None ≡ o
unfolding or_option
or-none None = refl
or-none (Some a) = refl

module _ (s : Str) (at : ℕ) (r : Option (ℕ × ℕ)) (i : SoughtFrom s Anything 8 at r) (p slot : Str) (f : Step D.Struct.Struct) (b : Filled s p slot at f) where
  at-end : r ≡ None → InSlot s p slot f
  unfolding struct_in_slot command_in_slot struct_commands_at
  at-end m = record {
    struct = b.structs ∙ ap (or_option (struct_found s p f)) (find_none _ (structs_at s p at) ((listing-over struct_list s at r i m).list p)) ∙ or-none (struct_found s p f);
    command = b.commands ∙ ap (or_option (command_found f)) (find_none _ (struct_commands_at s at) (listed-none s Anything 8 _ at r i m)) ∙ or-none (command_found f);
  }

  module _ (a k : ℕ) (m : r ≡ Some (a, k)) where
    abbrev here : D.Struct.Struct
    here = struct_at (drop a s)

    struct-now : structs_at s p at ≡ struct_of p here (fields_at s p k) ∷ structs_at s p k
    struct-now = (listing-next struct_list s at r i a k m (drop a s) here (place k) refl refl refl).list p

    command-now : struct_commands_at s at ≡ here ∷ struct_commands_at s k
    unfolding struct_commands_at
    command-now = listed-some s Anything 8 _ at r i a k m

    pass : is_text (opt_of p (opt_text_at (drop a s) 4)) slot ≡ false → Filled s p slot k f
    unfolding struct_in_slot command_in_slot
    pass z = record {
      structs = b.structs ∙ ap (or_option (struct_found s p f)) (find-miss _ (structs_at s p at) _ _ struct-now z);
      commands = b.commands ∙ ap (or_option (command_found f)) (find-miss _ (struct_commands_at s at) _ _ command-now z);
    }

module _ (s : Str) (at : ℕ) (r : Option (ℕ × ℕ)) (i : SoughtFrom s Anything 8 at r) (p slot : Str) (b : Filled s p slot at None) (a k : ℕ) (m : r ≡ Some (a, k)) where
  take-it : is_text (opt_of p (opt_text_at (drop a s) 4)) slot ≡ true → Filled s p slot k (Some (struct_at (drop a s), place k))
  unfolding struct_in_slot command_in_slot or_option
  take-it z = record {
    structs = b.structs ∙ find-hit _ (structs_at s p at) _ _ (struct-now s at r i p slot None b a k m) z;
    commands = b.commands ∙ find-hit _ (struct_commands_at s at) _ _ (command-now s at r i p slot None b a k m) z;
  }

-- what is known of a slot once the structure at a place is seen
see : (s : Str) (at : ℕ) (r : Option (ℕ × ℕ)) (i : SoughtFrom s Anything 8 at r) (p slot : Str) (f : Step D.Struct.Struct) (b : Filled s p slot at f) (a k : ℕ) → r ≡ Some (a, k) → Filled s p slot k (first_slotted p slot f (struct_at (drop a s)) k)
unfolding first_slotted or_option
see s at r i p slot (Some (first, from)) b a k m = record { structs = b.structs; commands = b.commands }
see s at r i p slot None b a k m = go (is_text (opt_of p (opt_text_at (drop a s) 4)) slot) refl
  where
    go : (t : Bool) → is_text (opt_of p (opt_text_at (drop a s) 4)) slot ≡ t → Filled s p slot k (cond t (Some (struct_at (drop a s), place k)) None)
    go true z = take-it s at r i p slot b a k m z
    go false z = pass s at r i p slot None b a k m z

-- versioned_structs ------------------------------------------------------------------------------------------------------

-- each slot along the walk
pub record AllFilled (s p : Str) (at : ℕ) (f : Versioned) : Type 0 where
  info : Filled s p (bytes "info") at f.info
  metadata : Filled s p (bytes "metadata") at f.metadata
  runtime : Filled s p (bytes "runtime") at f.runtime

pub all-empty : (s p : Str) → AllFilled s p 0 (record { info = None; metadata = None; runtime = None })
all-empty s p = record { info = empty s p _; metadata = empty s p _; runtime = empty s p _ }

module _ (s : Str) (at : ℕ) (r : Option (ℕ × ℕ)) (i : SoughtFrom s Anything 8 at r) (p : Str) (f : Versioned) (b : AllFilled s p at f) where
  pub all_end : r ≡ None → InSlots s p f
  all_end m = record {
    info = at-end s at r i p _ _ b.info m;
    metadata = at-end s at r i p _ _ b.metadata m;
    runtime = at-end s at r i p _ _ b.runtime m;
  }

  module _ (a k : ℕ) (m : r ≡ Some (a, k)) (y : Str) (d : y ≡ drop a s) where
    pub all-passed : (o : Option Text) → o ≡ opt_text_at y 4 → o ≡ None → AllFilled s p k f
    unfolding is_text
    all-passed o g h = record {
      info = pass s at r i p _ _ b.info a k m (none_said _);
      metadata = pass s at r i p _ _ b.metadata a k m (none_said _);
      runtime = pass s at r i p _ _ b.runtime a k m (none_said _);
    }
      where
        none_said : (slot : Str) → is_text (opt_of p (opt_text_at (drop a s) 4)) slot ≡ false
        none_said slot = ap (λ (x : Option Text). is_text (opt_of p x) slot) (ap (λ (x : Str). opt_text_at x 4) (sym d) ∙ sym g ∙ h)

    pub all_seen : (e : D.Struct.Struct) (n : Versioned) → e ≡ struct_at y → n ≡ filled_by p f e k → AllFilled s p k n
    unfolding filled_by
    all_seen e n g h = rw (h, g, d) (record {
      info = see s at r i p _ _ b.info a k m;
      metadata = see s at r i p _ _ b.metadata a k m;
      runtime = see s at r i p _ _ b.runtime a k m;
    })

pub ruleset versioned-laws = (all-empty, all_end, all-passed, all_seen)

-- the names of those that fill them are those of the roots, in the order of the slots
pub versioned-are-roots : (s p : Str) (r : Versioned) → InSlots s p r → versioned_names s p r ≡ versioned (structs_at s p 0)
unfolding versioned roots_in slot_order
versioned-are-roots s p r i = rw (i.info.struct, i.metadata.struct, i.runtime.struct)
