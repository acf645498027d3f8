-- The two ways out of the release of a member. Assumes nothing.
use Rattle.std.specs.Prelude.{Option, Some, None}
use mathlib.Core.Path.{◌≡◌}
use Rattle.record.specs.Base.{or_option}
use Rattle.record.specs.declared.text.Text.{Text}
use Rattle.record.specs.Dates.{Dated}

module _ (own parent : Option Text) where
  pub dated-own : (t : Text) → own ≡ Some t → Dated own parent (Some t)
  unfolding or_option
  dated-own t e = record { release = λ p. rw e }

  pub dated-parent : own ≡ None → Dated own parent parent
  unfolding or_option
  dated-parent e = record { release = λ p. rw e }

pub ruleset date-laws = (dated-own, dated-parent)
