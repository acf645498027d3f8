-- What helpers of the passes answer, whatever the pools that they do not read: the definitions of definition, over the code's own values.
-- Assumes nothing.
use Rattle.std.specs.Prelude.{◌≡◌, Result, Err, ⊤, Bool, ◌&&◌, ◌||◌, ℕ, eqb, Option}
use Rattle.record.specs.Base.{Str, eqs, is_some, or_else}
use Rattle.record.specs.Stretch.{text_of}
use Rattle.record.specs.Lists.{opt_of, constant_of}
use Rattle.record.specs.Steps.{constants_at, aliases_at, values_at, enums_at, members_at, bitfields_at, structs_at, families_at}
use Rattle.record.specs.Steps.{value_found, member_found, bitfield_found}
use Rattle.record.specs.declared.text.Text.{Text}
use Rattle.record.specs.declared.command.Constant.{Constant}
use Rattle.record.specs.declared.command.Member.{Member}
use Rattle.definition.specs.Pass.{ensure}
use Rattle.verdicts.specs.Arguments.{value_meant}
use Rattle.definition.specs.Unreleased.{check_nothing_released}
use Rattle.compare.specs.Shipped.{shipped_of}
use Rattle.definition.specs.Enums.{number_in}
use Rattle.definition.specs.Bitfields.{span_in}
use Rattle.definition.specs.BitfieldReleases.{bitfield_release}
use Rattle.verdicts.specs.Meaning.{meaning}
use Rattle.verdicts.specs.declared.arguments.ConstantValue.{ConstantValue}
use Rattle.compare.specs.declared.shipped.Shipped.{Shipped}
use Rattle.verdicts.specs.declared.verdict.Verdict.{Verdict}
use Rattle.record.specs.Commands.{Step}
use Rattle.record.specs.declared.command as D

-- the test holds, or this verdict
pub record PassedIf (holds : Bool) (v : Verdict) (r : Result ⊤ Verdict) : Type 0 where
  pub this : (p q : Str) → meaning p q r ≡ ensure holds (meaning p q (Err v))

-- the verdict on an unreleased copy
pub record UnreleasedFrom (s : Str) (r : Result ⊤ Verdict) : Type 0 where
  pub this : (p q : Str) → meaning p q r
      ≡ check_nothing_released (structs_at s q 0) (constants_at s q 0) (enums_at s q 0) (bitfields_at s q 0) (aliases_at s q 0) (families_at s q 0)

-- a value is dated: the copy has it, or it names its own release, or its release is the current one
pub record ValueDated (p : Str) (now : Text) (was : Shipped) (own : Option Text) (release : Text) (r : Bool) : Type 0 where
  pub this : (q : Str) → r ≡ (is_some (shipped_of q was) || is_some (opt_of p own) || eqs (text_of p release) (text_of p now))

-- a value by its number
pub record NumberFrom (n : ℕ) (s : Str) (at : ℕ) (r : Step D.Value.Value) : Type 0 where
  pub this : (p : Str) → number_in n (values_at s p at) ≡ value_found s p r

unfoldable pub spans_of : Member → ℕ → ℕ → Bool
spans_of m bit width = eqb m.bit bit && eqb (or_else m.width 1) width

-- a member by its bit and width
pub record SpanFrom (bit width : ℕ) (s : Str) (at : ℕ) (r : Step D.Member.Member) : Type 0 where
  pub this : (p : Str) → span_in bit width (members_at s p at) ≡ member_found s p r

-- what the copy says of a bit field
pub record BitfieldShipped (was : Step D.Bitfield.Bitfield) (r : Shipped) : Type 0 where
  pub this : (s p : Str) → shipped_of p r ≡ bitfield_release (bitfield_found s p was)

-- what a constant holds
pub record HoldsValue (c : Constant) (r : ConstantValue) : Type 0 where
  pub this : (p : Str) → value_meant p r ≡ (constant_of p c).value
