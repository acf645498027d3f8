use Rattle.compare.proofs.AlikeLaws.{alike-here, alike-bodies}
use Rattle.compare.proofs.KeptLaws.{noted-front, kept_here, kept-body}
use borrow.Author.Rules.{rules}
use Rattle.compare.proofs.kept.pass_kept.Goals as goal

pub returns-in_default : goal.returns-in_default
returns-in_default c = record { kept = search kept_here; alike = search alike-here }

pub returns-in_default-ahead : goal.returns-in_default-ahead
returns-in_default-ahead c = record { kept = search kept_here; alike = search alike-here }

pub returns-then-is-was : goal.returns-then-is-was
returns-then-is-was c = record { kept = search kept_here; alike = search alike-here }

pub pass_kept_fields-requires : goal.pass_kept_fields-requires
pass_kept_fields-requires c = (search noted-front, search rules)

pub returns : goal.returns
returns c = record { kept = search kept-body; alike = search alike-bodies }
