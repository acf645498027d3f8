-- What the code hands on for a text that a current record must have ("!" of 01, Record commands), whatever the pool. Assumes nothing.
use Rattle.std.specs.Prelude.{◌≡◌, Option}
use Rattle.record.specs.Base.{Str}
use Rattle.record.specs.Stretch.{text_of}
use Rattle.record.specs.Lists.{opt_of}
use Rattle.record.specs.declared.text.Text.{Text}
use Rattle.definition.specs.Pass.{required}

pub record RequiredText (t : Option Text) (r : Text) : Type 0 where
  pub this : (p : Str) → text_of p r ≡ required (opt_of p t)
