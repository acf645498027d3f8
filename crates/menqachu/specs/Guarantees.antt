-- What every exported call promises, a line each, and demand 3. The contracts of src/lib.rt are these lines, said of what the call was lent, of the
-- buffer before and after, and of its answer; proofs/Guaranteed proves demand 3, proofs/Owners that the owner call goes by the schema. Assumes
-- nothing.
use Rattle.std.specs.Prelude.{◌≡◌, List, Bool, cond, ℕ, eqb, length, take, drop, Option, Some, None, Err}
use Rattle.record.specs.Base.{Str}
use Rattle.record.specs.Schema.{Schema}
use Rattle.record.specs.Scalars.{built_in}
use Rattle.record.specs.Reading.{Rec, rec, read, refuse, reading}
use Rattle.record.specs.Owner.{types_in, owner_of}
use Rattle.record.specs.declared.refusal.Refusal.{Refusal}
use Rattle.record.specs.declared.refusal.Side.TheVariants.{Current, Released}
use Rattle.layout.specs.Answer.{list, Answered}
use Rattle.layout.specs.OwnerCall.{owner_fields, owner_asked}
use Rattle.layout.specs.declared.answer.Answer.{Answer}
use Rattle.layout.specs.declared.owner.OwnerFields.{OwnerFields}
use Rattle.definition.specs.Answer.{check}
use Rattle.definition.specs.Offers.{Offer, Demand3}
use Rattle.pointers.specs.Pointers.{pointers, Answers}
use Rattle.load.specs.Load.{load}
use Rattle.drafts.specs.Edits.{count, adding, removing, edit}
use Rattle.drafts.specs.Answering.{edited_as}
use Rattle.drafts.specs.Shelf.{set_draft, back_draft}
use Rattle.drafts.specs.Shelving.{rows_of, new_shelf, shelved_as}
use Rattle.drafts.specs.declared.saying.DraftAnswer.{DraftAnswer}
use Rattle.drafts.specs.declared.shelved.Shelf.{Shelf}
use Rattle.drafts.specs.declared.shelved.ShelfAnswer.{ShelfAnswer}
use Rattle.texts.specs.Back.{pairs_compared}

-- a record as the calls read it: the stream and the pool that are lent, under the built-in scalar words
abbrev pub lent : Str → Str → Rec
lent stream pool = rec stream pool built_in

-- one record or two -----------------------------------------------------------------------------------------------------------------------

-- a current record against a released one: 01's answer, and its text in the buffer
abbrev pub CheckPromise : Rec → Rec → Str → Str → Answer → Type 0
CheckPromise cur rel out after r = Answered out after (check (length out) cur rel) r

-- the list of a record's layouts, read as released or as current: 01's answer, and the list in the buffer
abbrev pub ListPromise : Bool → Rec → Str → Str → Answer → Type 0
ListPromise released cur out after r = Answered out after (list (length out) (cond released Released Current) cur) r

-- the owner of a name in a current record: the five numbers of 01's answer
abbrev pub OwnerPromise : Rec → Str → OwnerFields → Type 0
OwnerPromise cur name r = r ≡ owner_fields (owner_asked cur name)

-- the pointers of a current record: 02's answer, without a text
abbrev pub PointersPromise : Rec → Answer → Type 0
PointersPromise cur r = Answers (pointers cur) r

-- a pair for an outcome and a seed: 02's answer, and the pair in the buffer
abbrev pub LoadPromise : ℕ → ℕ → Str → Str → Answer → Type 0
LoadPromise outcome seed out after r = Answered out after (load (length out) outcome seed) r

-- two names: how many pairs of bytes their comparison looks at
abbrev pub PairsComparedPromise : Str → Str → ℕ → Type 0
PairsComparedPromise a b r = r ≡ pairs_compared a b

-- drafts ----------------------------------------------------------------------------------------------------------------------------------

-- the layouts in which a draft and a released copy differ: 02's answer and count
abbrev pub DraftCountPromise : Rec → Str → DraftAnswer → Type 0
DraftCountPromise copy draft r = edited_as r draft ≡ count built_in copy draft

-- a type added to a draft: 02's answer, count and buffer
abbrev pub DraftAddPromise : Rec → ℕ → Rec → Str → Str → DraftAnswer → Type 0
DraftAddPromise copy changed more draft after r = edited_as r after ≡ edit built_in copy changed draft (adding more)

-- a type taken out of a draft by its name: likewise
abbrev pub DraftRemovePromise : Rec → ℕ → Str → Str → Str → DraftAnswer → Type 0
DraftRemovePromise copy changed name draft after r = edited_as r after ≡ edit built_in copy changed draft (removing name)

-- a new shelf: no name is held
abbrev pub ShelfNewPromise : Shelf → Type 0
ShelfNewPromise r = r ≡ new_shelf

-- a draft held under a name: 02's answer, shelf and buffer of held drafts
abbrev pub ShelfSetPromise : Shelf → Str → Str → Str → Str → ShelfAnswer → Type 0
ShelfSetPromise shelf name draft held after r = shelved_as r after ≡ set_draft built_in (rows_of shelf) name draft held

-- the draft of a name brought back: 02's answer, shelf and buffer of the draft
abbrev pub ShelfBackPromise : Rec → Shelf → Str → Str → Str → Str → ShelfAnswer → Type 0
ShelfBackPromise copy shelf name held draft after r = shelved_as r after ≡ back_draft built_in copy (rows_of shelf) name draft held

-- what follows of the answers -------------------------------------------------------------------------------------------------------------

-- the name that the five numbers of an owner give: the bytes of their stretch, or none
abbrev pub owner_name : Str → OwnerFields → Option Str
owner_name pool r = cond (eqb r.owned 0) None (Some (take r.len (drop r.start pool)))

-- the owner call goes by the schema that the reading gives, and by its refusal
pub record OwnerBySchema (cur : Rec) (name : Str) (r : OwnerFields) : Type 0 where
  pub number : (s : Schema) → reading Current cur ≡ read s → r.number ≡ 0
  pub owner : (s : Schema) → reading Current cur ≡ read s → owner_name cur.pool r ≡ owner_of (types_in s) name
  pub refused : (x : Refusal) (place : ℕ) → reading Current cur ≡ refuse x place → r ≡ owner_fields (Err (x, place))

abbrev pub OwnersBySchema : Type 0
OwnersBySchema = (cur : Rec) (name : Str) (r : OwnerFields) → OwnerPromise cur name r → OwnerBySchema cur name r

-- demand 3: every first record, and every list of records offered to the check after it
abbrev pub ChainPromise : Type 0
ChainPromise = (first : Rec) (os : List Offer) → Demand3 first os
