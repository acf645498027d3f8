use Rattle.std.proofs.Common.{rules}
use Rattle.std.proofs.lemmas.Result.{err_from_is_err_and}
use Rattle.layout.proofs.OwnerCallLaws.{owner-refused, owner-found}
use Rattle.layout.proofs.owner.ask_owner.Goals as goal

pub returns-in_err-read_record : goal.returns-in_err-read_record
returns-in_err-read_record c = let p = err_from_is_err_and c.from_residual.result c.from_residual.ensures.1 in rw (p.1, p.2) (owner-refused _ _ _ _ c.read_record.result (search rules) c.read_record.ensures _ c.in_err-read_record.was)

pub returns : goal.returns
returns c = search (rules, owner-found)
