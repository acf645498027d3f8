-- No verdict has the number of an acceptance or of a refusal. Written by tools/verdicts.py. Assumes nothing.
use Prim.Native.Nat.{◌≤◌}
use lib.Dec.{lit≤}
use Rattle.definition.specs.Verdicts.{Word, word_number, w·described, w·now-unreadable, w·before-naming, w·was-unreadable, w·not-later, w·value-undated, w·late, w·redated, w·backdated, w·constant-gone, w·constant-changed, w·enum-gone, w·renumbered, w·renamed, w·value-gone, w·bit-field-gone, w·member-renamed, w·member-gone, w·bit-moved, w·width-changed, w·bits-late, w·bits-redated, w·type-gone, w·field-gone, w·moved, w·resized, w·redescribed, w·standing-changed, w·shipped-family-changed, w·uncovered, w·no-constant, w·no-generation, w·unraised, w·unlisted, w·leapt, w·fell}

pub word-large : (w : Word) → 11 ≤ word_number w
unfolding word_number
word-large w·described = lit≤ tt
word-large w·now-unreadable = lit≤ tt
word-large w·before-naming = lit≤ tt
word-large w·was-unreadable = lit≤ tt
word-large w·not-later = lit≤ tt
word-large w·value-undated = lit≤ tt
word-large w·late = lit≤ tt
word-large w·redated = lit≤ tt
word-large w·backdated = lit≤ tt
word-large w·constant-gone = lit≤ tt
word-large w·constant-changed = lit≤ tt
word-large w·enum-gone = lit≤ tt
word-large w·renumbered = lit≤ tt
word-large w·renamed = lit≤ tt
word-large w·value-gone = lit≤ tt
word-large w·bit-field-gone = lit≤ tt
word-large w·member-renamed = lit≤ tt
word-large w·member-gone = lit≤ tt
word-large w·bit-moved = lit≤ tt
word-large w·width-changed = lit≤ tt
word-large w·bits-late = lit≤ tt
word-large w·bits-redated = lit≤ tt
word-large w·type-gone = lit≤ tt
word-large w·field-gone = lit≤ tt
word-large w·moved = lit≤ tt
word-large w·resized = lit≤ tt
word-large w·redescribed = lit≤ tt
word-large w·standing-changed = lit≤ tt
word-large w·shipped-family-changed = lit≤ tt
word-large w·uncovered = lit≤ tt
word-large w·no-constant = lit≤ tt
word-large w·no-generation = lit≤ tt
word-large w·unraised = lit≤ tt
word-large w·unlisted = lit≤ tt
word-large w·leapt = lit≤ tt
word-large w·fell = lit≤ tt
