-- What the code reads off a record's head, whatever the pool: command 01 of 01, Record commands. Assumes nothing.
use Rattle.std.specs.Prelude.{◌≡◌, Bool, Option}
use Rattle.record.specs.Base.{Str, first}
use Rattle.record.specs.Lists.{opt_of}
use Rattle.record.specs.Steps.{heads_at}
use Rattle.record.specs.Reading.{release_of, unreleased_of}
use Rattle.record.specs.declared.text.Text.{Text}

pub record HeadRelease (s : Str) (r : Option Text) : Type 0 where
  pub this : (p : Str) → opt_of p r ≡ release_of (first (heads_at s p 0))

pub record HeadUnreleased (s : Str) (r : Bool) : Type 0 where
  pub this : (p : Str) → r ≡ unreleased_of (first (heads_at s p 0))
