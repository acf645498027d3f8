-- The release order: check_release_order of layout.rs, verdicts 12 to 15. Releases compare as numbers. Assumes nothing.
use Rattle.std.specs.Prelude.{not, Option, Some, None}
use Rattle.record.specs.Base.{Str}
use Rattle.record.specs.Release.{release_parts, earlier, first_naming}
use Rattle.record.specs.declared.release.Release.{Release}
use Rattle.definition.specs.Verdicts.{Verdict, now_unreadable, before_naming, was_unreadable, not_later}
use Rattle.definition.specs.Pass.{ensure}

-- the copy's release, read as numbers, is below the current one
unfoldable pub check_earlier : Str → Release → Str → Option Release → Verdict
check_earlier now n was None = was_unreadable was
check_earlier now n was (Some w) = ensure (earlier w n) (not_later was now)

unfoldable pub check_copy : Str → Option Str → Option Release → Verdict
check_copy now copy None = now_unreadable now
check_copy now None (Some n) = ensure (not (earlier n first_naming)) (before_naming now)
check_copy now (Some was) (Some n) = check_earlier now n was (release_parts was)

-- the current record's release, and the copy's if it names one
unfoldable pub check_release_order : Str → Option Str → Verdict
check_release_order now copy = check_copy now copy (release_parts now)
