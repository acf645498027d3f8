-- The marks of a record's three roots, the code's way to Owner, and the owner that the calls answer as a stretch (01, What a
-- check returns). Assumes nothing.
use Rattle.std.specs.Prelude.{◌≡◌, List, [], ◌∷◌, Bool, true, false, ◌⊎◌, ℕ, ◌+◌, ◌≤◌, ◌<◌, length, get_or, Option, Some, None}
use Rattle.record.specs.Base.{Str, bytes, eqs, find}
use Rattle.record.specs.Stretch.{text_of}
use Rattle.record.specs.Schema.{Struct}
use Rattle.record.specs.Steps.{structs_at}
use Rattle.record.specs.Index.{Indexed}
use Rattle.record.specs.Owner.{struct_in_slot, ownership_order, owner_of, Edge, Leads}
use Rattle.record.specs.References.{types_at}
use Rattle.record.specs.Versioned.{struct_commands_at, command_in_slot, InSlot, InSlots}
use Rattle.record.specs.Marks.{target_at, reference_at, Visited, Walked}
use Rattle.record.specs.Leads.{LeadsTo}
use Rattle.record.specs.declared.text.Text.{Text}
use Rattle.record.specs.declared.command as D
use Rattle.record.specs.declared.command.Cursor.{Cursor}
use Rattle.record.specs.declared.versioned.Versioned.{Versioned}
use Rattle.record.specs.declared.leads.Lead.{Lead}
use Rattle.record.specs.Commands.{Step}
use Rattle.record.specs.Lists.{opt_of}

-- marks ------------------------------------------------------------------------------------------------------------------

-- the root in a slot leads to the name
pub record Through (s p slot n : Str) : Type 0 where
  pub root : Struct
  pub fills : struct_in_slot slot (structs_at s p 0) ≡ Some root
  pub leads : Leads (types_at s p) root.name n

-- a root's walk: its own type was visited
pub record Claimed (s p : Str) (mark : ℕ) (slot : Str) (before after : List ℕ) : Type 0 where
  pub walked : Walked s p mark (Through s p slot) before after
  pub visited : (root : Struct) → struct_in_slot slot (structs_at s p 0) ≡ Some root → Visited s p after root.name

-- the walk of what is taken for the root in a slot, where it is that root and the index is the record's
pub record RootWalked (s p : Str) (x : List ℕ) (mark : ℕ) (filled : Step D.Struct.Struct) (before after : List ℕ) : Type 0 where
  pub by : (slot : Str) → InSlot s p slot filled → Indexed s p x → Claimed s p mark slot before after

-- a field that leads to the name has a mark, and none above this one
pub record Within (s p : Str) (m : List ℕ) (mark : ℕ) (n : Str) : Type 0 where
  pub place : ℕ
  pub leads : target_at s p place ≡ Some n
  pub marked : get_or m place 0 ≡ 0 → ⊥
  pub most : get_or m place 0 ≤ mark

-- the root in a slot leads to whatever a field with its mark leads to, and whatever a reference of its tree leads to has a mark of this or
-- an earlier root
pub record Resolved (s p : Str) (m : List ℕ) (mark : ℕ) (slot : Str) : Type 0 where
  pub sound : (q : ℕ) (n : Str) → get_or m q 0 ≡ mark → target_at s p q ≡ Some n → Through s p slot n
  pub complete : (x n : Str) → Through s p slot x → Edge (types_at s p) x n → Within s p m mark n

-- the marks of a record: its fields by the first root that leads to them
pub record OwnerMarks (s p : Str) (m : List ℕ) : Type 0 where
  pub metadata : Resolved s p m 1 (bytes "metadata")
  pub runtime : Resolved s p m 2 (bytes "runtime")
  pub info : Resolved s p m 3 (bytes "info")

-- what was lent to the walks: the marks and the index of the record
pub record Known (s p : Str) (m x : List ℕ) : Type 0 where
  pub marks : OwnerMarks s p m
  pub index : Indexed s p x

-- marks that were set by roots and an index: the record's, where both are the record's
pub record RootsMarked (s p : Str) (roots : Versioned) (x after : List ℕ) : Type 0 where
  pub by : InSlots s p roots → Indexed s p x → OwnerMarks s p after

-- the same where there is room for them; they stay as they were where there is none
pub record OwnersMarked (s p : Str) (roots : Versioned) (x before after : List ℕ) : Type 0 where
  pub within : length s ≤ length before → InSlots s p roots → Indexed s p x → OwnerMarks s p after
  pub beyond : length before < length s → after ≡ before

-- answers ----------------------------------------------------------------------------------------------------------------

-- eight marks from a place on are there, and none is set
pub record EightClear (m : List ℕ) (i : ℕ) (r : Bool) : Type 0 where
  pub room : r ≡ true → i + 8 ≤ length m
  pub clear : r ≡ true → (q : ℕ) → i ≤ q → q < i + 8 → get_or m q 0 ≡ 0

-- a field with this mark refers to the name
pub record Referred (s p : Str) (m : List ℕ) (mark : ℕ) (n : Str) : Type 0 where
  pub place : ℕ
  pub inside : place < length m
  pub is : get_or m place 0 ≡ mark
  pub name : reference_at s p place ≡ Some n

pub record MarkedName (s p : Str) (m : List ℕ) (n : Str) (mark : ℕ) (r : Bool) : Type 0 where
  pub yes : r ≡ true → Referred s p m mark n
  pub never : r ≡ false → Referred s p m mark n → ⊥

-- a field with this mark leads to the name
pub record NamedBy (s p : Str) (m : List ℕ) (mark : ℕ) (n : Str) : Type 0 where
  pub place : ℕ
  pub inside : place < length m
  pub is : get_or m place 0 ≡ mark
  pub leads : target_at s p place ≡ Some n

-- the root is the name's own, or a field with its mark leads to the name
abbrev pub Claims : Str → Str → List ℕ → Str → ℕ → D.Struct.Struct → Type 0
Claims s p m n mark root = (text_of p root.name ≡ n) ⊎ NamedBy s p m mark n

-- such a root stands in the slot, and its name's stretch is t
pub record Takes (s p : Str) (m : List ℕ) (n : Str) (mark : ℕ) (filled : Step D.Struct.Struct) (t : Text) : Type 0 where
  pub root : D.Struct.Struct
  pub after : Cursor
  pub stands : filled ≡ Some (root, after)
  pub stretch : root.name ≡ t
  pub claims : Claims s p m n mark root

-- what the marks say of the root in one slot
pub record OwnerIn (s p : Str) (m : List ℕ) (n slot : Str) (mark : ℕ) (r : Option Text) : Type 0 where
  pub filled : Step D.Struct.Struct
  pub fills : InSlot s p slot filled
  pub owned : (t : Text) → r ≡ Some t → Takes s p m n mark filled t
  pub nobody : r ≡ None → (root : D.Struct.Struct) (after : Cursor) → filled ≡ Some (root, after) → Claims s p m n mark root → ⊥

-- the answer of what is taken for the root in a slot, where it is that root, the index is the record's, and what is said of the
-- fields that refer to the name holds
pub record OwnerBy (s p : Str) (m x : List ℕ) (filled : Step D.Struct.Struct) (lead : Lead) (n : Str) (mark : ℕ) (r : Option Text) : Type 0 where
  pub by : (slot : Str) → InSlot s p slot filled → Indexed s p x → LeadsTo s p m n lead → OwnerIn s p m n slot mark r

-- the names of the structures that fill these slots, as the stretches that their commands give
unfoldable pub with_stretch : Option D.Struct.Struct → List Text → List Text
with_stretch None l = l
with_stretch (Some e) l = e.name ∷ l

unfoldable pub stretches_in : Str → List D.Struct.Struct → List Str → List Text
stretches_in p l [] = []
stretches_in p l (x ∷ xs) = with_stretch (command_in_slot p x l) (stretches_in p l xs)

-- the first of these stretches that reads so
unfoldable pub stretch_of : Str → List Text → Option Str → Option Text
stretch_of p l None = None
stretch_of p l (Some r) = find (λ (t : Text). eqs (text_of p t) r) l

-- the owner of a name, as the stretch that its root's command gives
unfoldable pub owner_at : Str → Str → Str → Option Text
owner_at s p n = stretch_of p (stretches_in p (struct_commands_at s 0) ownership_order) (owner_of (types_at s p) n)

-- the answer: the owner's name is the definition's, and its stretch is that of the root's own command
pub record IsOwner (s p n : Str) (r : Option Text) : Type 0 where
  pub owner : opt_of p r ≡ owner_of (types_at s p) n
  pub stretch : r ≡ owner_at s p n

-- the same of a stream with no more bytes than there is room for; in a longer one nothing is owned
pub record OwnerFound (room : ℕ) (s p n : Str) (r : Option Text) : Type 0 where
  pub within : length s ≤ room → IsOwner s p n r
  pub beyond : room < length s → r ≡ None
