-- What the search for a type answers. Assumes nothing.
use Rattle.std.specs.Prelude.{◌≡◌, true, false, Option, Some, None, ℕ}
use Rattle.record.specs.Base.{Str, any}
use Rattle.record.specs.Commands.{commands_at}
use Rattle.drafts.specs.Edits.{named, without}
use Rattle.drafts.specs.Code.{chosen}

-- none of this name; or its place and the place after its parts: without them the record has the commands before the one and from the other on
abbrev pub TypeAt : Str → Str → Str → Option (ℕ × ℕ) → Type 0
TypeAt s p n None = any (named s p n) (commands_at s 0) ≡ false
TypeAt s p n (Some (a, k)) = (any (named s p n) (commands_at s 0) ≡ true) × (without s p n (commands_at s 0) ≡ chosen s a k)
