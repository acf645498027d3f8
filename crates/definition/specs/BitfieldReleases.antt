-- Bit-field releases: check_bitfield_releases and check_arrived of layout.rs, verdicts 31 and 32. Assumes nothing.
use Rattle.std.specs.Prelude.{List, Option, Some, None}
use Rattle.record.specs.Base.{Str, eqs, or_else, or_option, map_option}
use Rattle.record.specs.Schema.{BitField, Member}
use Rattle.record.specs.Steps.{bitfield_in, member_in}
use Rattle.definition.specs.Verdicts.{Verdict, pass, Item, a_bitfield, within, bits_late, bits_redated}
use Rattle.definition.specs.Pass.{◌then◌, ensure, required, each}

-- what the copy says, as in Shipped; the first released bit field of the name counts here
unfoldable pub bitfield_release : Option BitField → Option (Option Str)
bitfield_release was = map_option (λ (b : BitField). b.since) was

-- a member's own release, else its bit field's
unfoldable pub member_release : Option BitField → Str → Option (Option Str)
member_release None n = None
member_release (Some was) n = map_option (λ (m : Member). or_option m.since was.since) (member_in n was.members)

-- the current release
module _ (now : Str) where
  -- what it is, its release, and what the copy says of it
  unfoldable pub check_arrived : Item → Str → Option (Option Str) → Verdict
  check_arrived what release None = ensure (eqs release now) (bits_late what now release)
  check_arrived what release (Some (Some was)) = ensure (eqs release was) (bits_redated what was release)
  check_arrived what release (Some None) = pass

  -- the bit field's name and release, what it was, and one of its members
  unfoldable pub check_member_arrived : Str → Str → Option BitField → Member → Verdict
  check_member_arrived owner since was m = check_arrived (within owner m.name) (or_else m.since since) (member_release was m.name)

  unfoldable pub check_members_arrived : Str → Str → Option BitField → List Member → Verdict
  check_members_arrived owner since was ms = each (check_member_arrived owner since was) ms

  unfoldable pub check_bitfield_arrived : List BitField → BitField → Verdict
  check_bitfield_arrived was b =
      check_arrived (a_bitfield b.name) (required b.since) (bitfield_release (bitfield_in b.name was))
      then check_members_arrived b.name (required b.since) (bitfield_in b.name was) b.members

  -- every current bit field
  unfoldable pub check_bitfield_releases : List BitField → List BitField → Verdict
  check_bitfield_releases is was = each (check_bitfield_arrived was) is
