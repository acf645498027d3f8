-- The roots of two records held to their numbers, over the tables of the current types and of what covers them. Assumes nothing.
use Rattle.std.specs.Prelude.{List, ℕ, Option}
use Rattle.record.specs.Base.{Str}
use Rattle.record.specs.Stretch.{text_of}
use Rattle.record.specs.Lists.{opt_of}
use Rattle.record.specs.Reading.{Rec}
use Rattle.record.specs.declared.text.Text.{Text}
use Rattle.definition.specs.Verdicts.{Verdict}
use Rattle.definition.specs.Generations.{check_roots}
use Rattle.compare.specs.Records.{constant_list, struct_list, version_list}
use Rattle.compare.specs.CoverTable.{touched_by}

-- the roots of these names, by the releases that a verdict gives
abbrev pub roots_checked : Rec → Rec → Text → Option Text → List ℕ → List ℕ → List Str → Verdict
roots_checked cur rel current copy types cover roots =
    check_roots (text_of cur.pool current) (opt_of rel.pool copy) (version_list cur) (struct_list cur) (constant_list cur) (constant_list rel)
    (touched_by cur.stream cur.pool types cover) roots
