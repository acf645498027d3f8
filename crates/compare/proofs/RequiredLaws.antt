-- A required text, whether it is given or not. Assumes nothing.
use Rattle.std.specs.Prelude.{Option, Some, None, unwrap_or}
use mathlib.Core.Path.{◌≡◌}
use Rattle.record.specs.Base.{or_else}
use Rattle.record.specs.Stretch.{text_of}
use Rattle.record.specs.declared.text.Text.{Text}
use Rattle.definition.specs.Pass.{required}
use Rattle.compare.specs.Required.{RequiredText}

pub required-or : (t : Option Text) (r : Text) → r ≡ unwrap_or t (record { start = 0; len = 0 }) → RequiredText t r
unfolding required or_else text_of
required-or None r e = record { this = λ p. rw e }
required-or (Some x) r e = record { this = λ p. rw e }
