use Rattle.record.proofs.ReleaseLaws.{parts_none, parts-major, parts-minor, parts-patch, parts_whole}
use Rattle.record.proofs.release.release_parts.Goals as goal

pub returns-then-not-is_release : goal.returns-then-not-is_release
returns-then-not-is_release c = search parts_none

pub returns-in_default : goal.returns-in_default
returns-in_default c = search parts-major

pub returns-in_default-parse : goal.returns-in_default-parse
returns-in_default-parse c = search parts-minor

pub returns-in_default-parse-2 : goal.returns-in_default-parse-2
returns-in_default-parse-2 c = search parts-patch

pub returns : goal.returns
returns c = search parts_whole
