-- The structures that carry a generation: SLOT_ORDER, struct_in_slot, generation_slots and versioned_structs of schema.rs. Assumes nothing.
use Rattle.std.specs.Prelude.{◌≡◌, List, [], ◌∷◌, cond, ℕ, drop, Option, Some, None}
use Rattle.record.specs.Base.{Str, bytes, is_text, find}
use Rattle.record.specs.Commands.{place, struct_at, commands_at}
use Rattle.record.specs.Lists.{opt_of, listed, anything}
use Rattle.record.specs.Steps.{structs_at, struct_found}
use Rattle.record.specs.Schema.{Struct}
use Rattle.record.specs.Owner.{struct_in_slot, with_name, roots_in}
use Rattle.record.specs.declared.command as D
use Rattle.record.specs.declared.versioned.Versioned.{Versioned}
use Rattle.record.specs.Commands.{Step}

-- the order in which the check takes the slots
unfoldable pub slot_order : List Str
slot_order = bytes "info" ∷ bytes "metadata" ∷ bytes "runtime" ∷ []

-- the names of the structures that fill them
unfoldable pub versioned : List Struct → List Str
versioned ss = roots_in ss slot_order

-- the commands of the structures from a place on
unfoldable pub struct_commands_at : Str → ℕ → List D.Struct.Struct
struct_commands_at s at = listed s anything 8 (λ at rest. struct_at (drop at s)) (commands_at s at)

-- the first with this slot text
unfoldable pub command_in_slot : Str → Str → List D.Struct.Struct → Option D.Struct.Struct
command_in_slot p slot l = find (λ (e : D.Struct.Struct). is_text (opt_of p e.generation_slot) slot) l

abbrev pub command_found : Step D.Struct.Struct → Option D.Struct.Struct
command_found None = None
command_found (Some (e, k)) = Some e

-- the answer is the first structure with this slot text, and its command is the first with it: the name's stretch is that command's
pub record InSlot (s p slot : Str) (r : Step D.Struct.Struct) : Type 0 where
  pub struct : struct_in_slot slot (structs_at s p 0) ≡ struct_found s p r
  pub command : command_in_slot p slot (struct_commands_at s 0) ≡ command_found r

-- each answer is the first structure with that slot text
pub record InSlots (s p : Str) (r : Versioned) : Type 0 where
  pub info : InSlot s p (bytes "info") r.info
  pub metadata : InSlot s p (bytes "metadata") r.metadata
  pub runtime : InSlot s p (bytes "runtime") r.runtime

-- the names of those that are there
abbrev pub versioned_names : Str → Str → Versioned → List Str
versioned_names s p r = with_name (struct_found s p r.info) (with_name (struct_found s p r.metadata) (with_name (struct_found s p r.runtime) []))

-- what fills a slot once one more structure is seen: the first with the slot text
unfoldable pub first_slotted : Str → Str → Step D.Struct.Struct → D.Struct.Struct → ℕ → Step D.Struct.Struct
first_slotted p slot (Some (first, from)) e k = Some (first, from)
first_slotted p slot None e k = cond (is_text (opt_of p e.generation_slot) slot) (Some (e, place k)) None

-- what fills the slots
unfoldable pub filled_by : Str → Versioned → D.Struct.Struct → ℕ → Versioned
filled_by p f e k = record {
  info = first_slotted p (bytes "info") f.info e k;
  metadata = first_slotted p (bytes "metadata") f.metadata e k;
  runtime = first_slotted p (bytes "runtime") f.runtime e k;
}
