-- The verdicts: the words and numbers of 01, What a check returns, and the messages of layout.rs byte for byte. Written by tools/verdicts.py.
-- Assumes nothing.
use Rattle.std.specs.Prelude.{[], ◌∷◌, ◌++◌, Bool, true, false, ℕ, Option, Some, None}
use Rattle.record.specs.Base.{Str, bytes, decimal, signed}
use Rattle.record.specs.Fill.{joined}

-- 01's word for each verdict
pub data Word : Type 0 where
  w·described w·now-unreadable w·before-naming w·was-unreadable w·not-later w·value-undated w·late w·redated w·backdated w·constant-gone : Word
  w·constant-changed w·enum-gone w·renumbered w·renamed w·value-gone w·bit-field-gone w·member-renamed w·member-gone w·bit-moved : Word
  w·width-changed w·bits-late w·bits-redated w·type-gone w·field-gone w·moved w·resized w·redescribed w·standing-changed : Word
  w·shipped-family-changed w·uncovered w·no-constant w·no-generation w·unraised w·unlisted w·leapt w·fell : Word

-- and its number
unfoldable pub word_number : Word → ℕ
word_number w·described = 11
word_number w·now-unreadable = 12
word_number w·before-naming = 13
word_number w·was-unreadable = 14
word_number w·not-later = 15
word_number w·value-undated = 16
word_number w·late = 17
word_number w·redated = 18
word_number w·backdated = 19
word_number w·constant-gone = 20
word_number w·constant-changed = 21
word_number w·enum-gone = 22
word_number w·renumbered = 23
word_number w·renamed = 24
word_number w·value-gone = 25
word_number w·bit-field-gone = 26
word_number w·member-renamed = 27
word_number w·member-gone = 28
word_number w·bit-moved = 29
word_number w·width-changed = 30
word_number w·bits-late = 31
word_number w·bits-redated = 32
word_number w·type-gone = 33
word_number w·field-gone = 34
word_number w·moved = 35
word_number w·resized = 36
word_number w·redescribed = 37
word_number w·standing-changed = 38
word_number w·shipped-family-changed = 39
word_number w·uncovered = 40
word_number w·no-constant = 41
word_number w·no-generation = 42
word_number w·unraised = 43
word_number w·unlisted = 44
word_number w·leapt = 45
word_number w·fell = 46

-- what a pass answers: nothing found, or a verdict's word and its message
pub data Verdict : Type 0 where
  pass : Verdict
  stop : Word → Str → Verdict

unfoldable pub verdict_number : Verdict → ℕ
verdict_number pass = 0
verdict_number (stop w m) = word_number w

unfoldable pub message_of : Verdict → Str
message_of pass = []
message_of (stop w m) = m

-- what arrives in a release; within is a value of an enum or a member of a bit field
pub data Item : Type 0 where
  a_constant an_enum a_key a_bitfield : Str → Item
  within : Str → Str → Item

unfoldable pub item_text : Item → Str
item_text (a_constant n) = bytes "constant " ++ n
item_text (an_enum n) = bytes "enum " ++ n
item_text (a_key n) = bytes "plugin key " ++ n
item_text (a_bitfield n) = bytes "bit field " ++ n
item_text (within o n) = o ++ (bytes "::" ++ n)

-- the release that the copy is of
unfoldable pub copy_of : Option Str → Str
copy_of None = bytes "a release before 0.8.0"
copy_of (Some r) = r

unfoldable pub standing_of : Bool → Str
standing_of true = bytes "standalone"
standing_of false = bytes "not standalone"

-- the field that a layout gained, or none of a new name
unfoldable pub change_text : Option Str → Str
change_text None = bytes "changed"
change_text (Some f) = bytes "gained " ++ f

-- 11
unfoldable pub described : Verdict
described = stop w·described (joined (bytes "the released schema says unreleased and describes a layout - one release has shipped or none has" ∷ []))

-- 12
unfoldable pub now_unreadable : Str → Verdict
now_unreadable current =
    stop w·now-unreadable (joined (bytes "[schema] firmware_release is '" ∷ current ∷ bytes "', which is not a firmware release like 0.8.0" ∷ []))

-- 13
unfoldable pub before_naming : Str → Verdict
before_naming current =
    stop w·before-naming (joined (bytes "the released schema names no firmware_release, so it was taken before 0.8.0, and this schema says " ∷ current
    ∷ []))

-- 14
unfoldable pub was_unreadable : Str → Verdict
was_unreadable was =
    stop w·was-unreadable (joined (bytes "the released schema's firmware_release is '" ∷ was ∷ bytes "', which is not a firmware release like 0.8.0"
    ∷ []))

-- 15
unfoldable pub not_later : Str → Str → Verdict
not_later was current =
    stop w·not-later (joined (bytes "the released schema names " ∷ was ∷ bytes " and this schema names " ∷ current
    ∷ bytes ", so there is no released layout to compare against - raise [schema] firmware_release, or refresh the copy with ci/update-released-schema.sh"
    ∷ []))

-- 16
unfoldable pub value_undated : Str → Str → Str → Str → Verdict
value_undated owner name current release =
    stop w·value-undated (joined (owner ∷ bytes "::" ∷ name ∷ bytes " is not in the copy of the last release, so it reaches the plugin API in "
    ∷ current ∷ bytes " - it declares no first_release, and " ∷ owner ∷ bytes "'s is " ∷ release ∷ []))

-- 17
unfoldable pub late : Item → Str → Str → Verdict
late what current names =
    stop w·late (joined (item_text what ∷ bytes " is not in the copy of the last release, so it reaches the plugin API in " ∷ current
    ∷ bytes " - its first_release says " ∷ names ∷ []))

-- 18
unfoldable pub redated : Item → Str → Str → Verdict
redated what was names =
    stop w·redated (joined (item_text what ∷ bytes " named " ∷ was ∷ bytes " in the last release and names " ∷ names
    ∷ bytes " now - the release something reached the plugin API in is a fact about firmware already shipped, and a plugin built against it set its min_fw_version from that"
    ∷ []))

-- 19
unfoldable pub backdated : Item → Option Str → Str → Verdict
backdated what copy current =
    stop w·backdated (joined (item_text what ∷ bytes " was already in the plugin API of " ∷ copy_of copy ∷ bytes " and names " ∷ current
    ∷ bytes ", the release under development - it reached the plugin API before that, and the copy says no more of it than that it was there" ∷ []))

-- 20
unfoldable pub constant_gone : Str → Verdict
constant_gone name =
    stop w·constant-gone (joined (bytes "constant " ∷ name
    ∷ bytes " was in the last release and is gone - the firmware, its plugins and every host built against it name it still, so a constant is deprecated with deprecated_release rather than removed"
    ∷ []))

-- 21
unfoldable pub constant_changed : Str → Str → Str → Verdict
constant_changed name was is =
    stop w·constant-changed (joined (bytes "constant " ∷ name ∷ bytes " was " ∷ was ∷ bytes " in the last release and is " ∷ is
    ∷ bytes " now - a constant is a value the firmware, its plugins and every host agree on, and none of them rebuilds because this file changed"
    ∷ []))

-- 22
unfoldable pub enum_gone : Str → Verdict
enum_gone name =
    stop w·enum-gone (joined (bytes "enum " ∷ name ∷ bytes " was in the last release and is gone - devices and hosts hold its values still" ∷ []))

-- 23
unfoldable pub renumbered : Str → Str → ℕ → ℕ → Verdict
renumbered owner name was is =
    stop w·renumbered (joined (owner ∷ bytes "::" ∷ name ∷ bytes " was " ∷ signed was ∷ bytes " in the last release and is " ∷ signed is
    ∷ bytes " now - a released value keeps its number, because devices and hosts hold it" ∷ []))

-- 24
unfoldable pub renamed : Str → Str → Str → Verdict
renamed owner name is =
    stop w·renamed (joined (owner ∷ bytes "::" ∷ name ∷ bytes " is called " ∷ is
    ∷ bytes " now - a released value keeps its name, and an alias gives it another" ∷ []))

-- 25
unfoldable pub value_gone : Str → Str → Verdict
value_gone owner name =
    stop w·value-gone (joined (owner ∷ bytes "::" ∷ name
    ∷ bytes " was in the last release and is gone - a released value is deprecated with deprecated_release rather than removed" ∷ []))

-- 26
unfoldable pub bit_field_gone : Str → Verdict
bit_field_gone name =
    stop w·bit-field-gone (joined (bytes "bit field " ∷ name ∷ bytes " was in the last release and is gone - hosts read its bits still" ∷ []))

-- 27
unfoldable pub member_renamed : Str → Str → Str → Verdict
member_renamed owner name is =
    stop w·member-renamed (joined (owner ∷ bytes "::" ∷ name ∷ bytes " is called " ∷ is ∷ bytes " now - a released member keeps its name" ∷ []))

-- 28
unfoldable pub member_gone : Str → Str → Verdict
member_gone owner name =
    stop w·member-gone (joined (owner ∷ bytes "::" ∷ name
    ∷ bytes " was in the last release and is gone - a released member is deprecated with deprecated_release rather than removed" ∷ []))

-- 29
unfoldable pub bit_moved : Str → Str → ℕ → ℕ → Verdict
bit_moved owner name was is =
    stop w·bit-moved (joined (owner ∷ bytes "::" ∷ name ∷ bytes " was at bit " ∷ decimal was ∷ bytes " in the last release and is at bit "
    ∷ decimal is ∷ bytes " now - a released member keeps its bits, because hosts read them there" ∷ []))

-- 30
unfoldable pub width_changed : Str → Str → ℕ → ℕ → Verdict
width_changed owner name was is =
    stop w·width-changed (joined (owner ∷ bytes "::" ∷ name ∷ bytes " was " ∷ decimal was ∷ bytes " bit(s) wide in the last release and is "
    ∷ decimal is ∷ bytes " now - a released member keeps its bits, because hosts read them there" ∷ []))

-- 31
unfoldable pub bits_late : Item → Str → Str → Verdict
bits_late what current release =
    stop w·bits-late (joined (item_text what ∷ bytes " is not in the copy of the last release, so it arrives in " ∷ current
    ∷ bytes ", and its release is " ∷ release ∷ []))

-- 32
unfoldable pub bits_redated : Item → Str → Str → Verdict
bits_redated what was release =
    stop w·bits-redated (joined (item_text what ∷ bytes " arrived in " ∷ was ∷ bytes " according to the last release, not " ∷ release
    ∷ bytes " - the release something arrived in is a fact about firmware already shipped" ∷ []))

-- 33
unfoldable pub type_gone : Str → Verdict
type_gone name =
    stop w·type-gone (joined (name
    ∷ bytes " was in the last release and is no longer described - a shipped structure's bytes stay where a host that knows them can read them" ∷ []))

-- 34
unfoldable pub field_gone : Str → Str → Verdict
field_gone owner name =
    stop w·field-gone (joined (owner ∷ bytes "." ∷ name
    ∷ bytes " was in the last release and is gone - a shipped field is never moved, renamed or removed, only deprecated" ∷ []))

-- 35
unfoldable pub moved : Str → Str → ℕ → ℕ → Verdict
moved owner name was is =
    stop w·moved (joined (owner ∷ bytes "." ∷ name ∷ bytes " was at offset " ∷ decimal was ∷ bytes " in the last release and is at " ∷ decimal is
    ∷ bytes " now - a shipped field's bytes stay where they are" ∷ []))

-- 36
unfoldable pub resized : Str → Str → ℕ → ℕ → Verdict
resized owner name was is =
    stop w·resized (joined (owner ∷ bytes "." ∷ name ∷ bytes " was " ∷ decimal was ∷ bytes " byte(s) in the last release and is " ∷ decimal is
    ∷ bytes " now - a shipped field's bytes stay where they are" ∷ []))

-- 37
unfoldable pub redescribed : Str → Str → Str → Str → Verdict
redescribed owner name was is =
    stop w·redescribed (joined (owner ∷ bytes "." ∷ name ∷ bytes " was " ∷ was ∷ bytes " in the last release and is " ∷ is
    ∷ bytes " now - a shipped field is read the way it was written" ∷ []))

-- 38
unfoldable pub standing_changed : Str → Bool → Bool → Verdict
standing_changed name was is =
    stop w·standing-changed (joined (name ∷ bytes " was " ∷ standing_of was ∷ bytes " in the last release and is " ∷ standing_of is
    ∷ bytes " now - whether a family is standalone decides which rule its changes answer to" ∷ []))

-- 39
unfoldable pub shipped_family_changed : Str → Option Str → Verdict
shipped_family_changed name change =
    stop w·shipped-family-changed (joined (name ∷ bytes " has " ∷ change_text change
    ∷ bytes " since the last release, and its family is standalone - a shipped variant never changes, because a reader built against it reads its fields at fixed offsets"
    ∷ []))

-- 40
unfoldable pub uncovered : Str → Verdict
uncovered name =
    stop w·uncovered (joined (name
    ∷ bytes "'s layout has changed since the last release, and it sits under none of the versioned structures, so no generation number covers it"
    ∷ []))

-- 41
unfoldable pub no_constant : Str → Verdict
no_constant name = stop w·no-constant (joined (name ∷ bytes " carries a generation number and names no constant holding it" ∷ []))

-- 42
unfoldable pub no_generation : Str → ℕ → Verdict
no_generation constant was =
    stop w·no-generation (joined (constant ∷ bytes " was " ∷ signed was ∷ bytes " in the last release, which is not a generation number" ∷ []))

-- 43
unfoldable pub unraised : Str → ℕ → Str → Str → ℕ → Verdict
unraised name was what constant next =
    stop w·unraised (joined (name ∷ bytes " is still generation " ∷ decimal was ∷ bytes ", and " ∷ what
    ∷ bytes "'s layout has changed since the last release - raise " ∷ constant ∷ bytes " to " ∷ decimal next
    ∷ bytes ", and add a [[versions]] entry saying which release that generation ships in" ∷ []))

-- 44
unfoldable pub unlisted : Str → ℕ → Str → Verdict
unlisted constant is name =
    stop w·unlisted (joined (constant ∷ bytes " was raised to " ∷ decimal is ∷ bytes " with no [[versions]] entry for " ∷ name ∷ bytes " generation "
    ∷ decimal is ∷ bytes " - a generation says nothing until something says which release it ships in" ∷ []))

-- 45
unfoldable pub leapt : Str → ℕ → ℕ → Option Str → Str → Verdict
leapt constant was is copy current =
    stop w·leapt (joined (constant ∷ bytes " was " ∷ decimal was ∷ bytes " in the last release and is " ∷ decimal is
    ∷ bytes " now - a generation rises by one per release, so that a host holding a device's bytes can name every layout in between.  The copy compared against is of "
    ∷ copy_of copy ∷ bytes ", and this schema is " ∷ current
    ∷ bytes " - a copy left unrefreshed across a development cycle reads as a rise of more than one, and ci/update-released-schema.sh refreshes it"
    ∷ []))

-- 46
unfoldable pub fell : Str → ℕ → ℕ → Verdict
fell constant was is =
    stop w·fell (joined (constant ∷ bytes " was " ∷ decimal was ∷ bytes " in the last release and is " ∷ decimal is
    ∷ bytes " now - a generation rises by one per release, so that a host holding a device's bytes can name every layout in between" ∷ []))
