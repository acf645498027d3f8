-- The put-together arguments of messages, as the code's branches put them. Assumes nothing.
use Rattle.std.specs.Prelude.{Option, Some, None}
use mathlib.Core.Path.{◌≡◌}
use mathlib.Core.List.{[], ◌++◌}
use mathlib.Core.Bool.{Bool, true, false}
use Prim.Native.Nat.{ℕ}
use Rattle.record.specs.Base.{Str, bytes, signed, or_else}
use Rattle.record.specs.Stretch.{text_of}
use Rattle.record.specs.Lists.{opt_of}
use Rattle.record.specs.Write.{Puts}
use Rattle.record.proofs.WriterLaws.{puts_then}
use Rattle.record.specs.declared.text.Text.{Text}
use Rattle.definition.specs.Verdicts.{item_text, copy_of, standing_of, change_text}
use Rattle.definition.specs.Constants.{constant_text}
use Rattle.verdicts.specs.Arguments.{item_of, value_meant}
use Rattle.verdicts.specs.declared.arguments.Item.{Item}
use Rattle.verdicts.specs.declared.arguments.Item.TheVariants.{Constant, Enum, Key, Bitfield, Within}
use Rattle.verdicts.specs.declared.arguments.ConstantValue.{ConstantValue}
use Rattle.verdicts.specs.declared.arguments.ConstantValue.TheVariants.{Integer, Words}

module _ (p : Str) {out after : Str} {at r : ℕ} where
  module _ (i : Item) where
    pub put-constant : (n : Text) → i ≡ Constant n → Puts out at (bytes "constant " ++ text_of p n) after r → Puts out at (item_text (item_of p i)) after r
    unfolding item_text
    put-constant n e a = rw e a

    pub put-enum : (n : Text) → i ≡ Enum n → Puts out at (bytes "enum " ++ text_of p n) after r → Puts out at (item_text (item_of p i)) after r
    unfolding item_text
    put-enum n e a = rw e a

    pub put-key : (n : Text) → i ≡ Key n → Puts out at (bytes "plugin key " ++ text_of p n) after r → Puts out at (item_text (item_of p i)) after r
    unfolding item_text
    put-key n e a = rw e a

    pub put-bitfield : (n : Text) → i ≡ Bitfield n → Puts out at (bytes "bit field " ++ text_of p n) after r → Puts out at (item_text (item_of p i)) after r
    unfolding item_text
    put-bitfield n e a = rw e a

    pub put-within : (o n : Text) {mid : Str} {q : ℕ} → i ≡ Within o n → Puts out at (text_of p o) mid q → Puts mid q (bytes "::" ++ text_of p n) after r
        → Puts out at (item_text (item_of p i)) after r
    unfolding item_text
    put-within o n e a b = rw e (puts_then a b)

  module _ (o : Option Text) where
    pub copy-none : o ≡ None → Puts out at (bytes "a release before 0.8.0") after r → Puts out at (copy_of (opt_of p o)) after r
    unfolding copy_of
    copy-none e a = rw e a

    pub copy_some : (t : Text) → o ≡ Some t → Puts out at (text_of p t) after r → Puts out at (copy_of (opt_of p o)) after r
    unfolding copy_of
    copy_some t e a = rw e a

    pub change-none : o ≡ None → Puts out at (bytes "changed") after r → Puts out at (change_text (opt_of p o)) after r
    unfolding change_text
    change-none e a = rw e a

    pub change-some : (t : Text) → o ≡ Some t → Puts out at (bytes "gained " ++ text_of p t) after r → Puts out at (change_text (opt_of p o)) after r
    unfolding change_text
    change-some t e a = rw e a

  module _ (v : ConstantValue) where
    pub value-integer : (n : ℕ) → v ≡ Integer n → Puts out at (signed n) after r → Puts out at (constant_text (value_meant p v)) after r
    unfolding constant_text
    value-integer n e a = rw e a

    pub value_none : (o : Option Text) → v ≡ Words o → o ≡ None → Puts out at [] after r → Puts out at (constant_text (value_meant p v)) after r
    unfolding constant_text or_else
    value_none o e f a = rw (e, f) a

    pub value-words : (o : Option Text) (t : Text) → v ≡ Words o → o ≡ Some t → Puts out at (text_of p t) after r → Puts out at (constant_text (value_meant p v)) after r
    unfolding constant_text or_else
    value-words o t e f a = rw (e, f) a

module _ {out after : Str} {at r : ℕ} (b : Bool) where
  pub standing-true : b ≡ true → Puts out at (bytes "standalone") after r → Puts out at (standing_of b) after r
  unfolding standing_of
  standing-true e a = rw e a

  pub standing-false : b ≡ false → Puts out at (bytes "not standalone") after r → Puts out at (standing_of b) after r
  unfolding standing_of
  standing-false e a = rw e a
