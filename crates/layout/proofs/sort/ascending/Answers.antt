use Rattle.std.proofs.Common.{rules}
use Rattle.std.proofs.lemmas.Fn.{always_returns_same}
use Rattle.record.specs.Base.{before}
use Rattle.layout.specs.Handles.{type_name}
use Rattle.layout.proofs.SortLaws.{ascends-asked}
use Rattle.layout.proofs.sort.ascending.Goals as goal

pub returns : goal.returns
returns c =
    let key = type_name c.args.stream.now c.args.pool.now in
    ascends-asked key c.args.handles.now c.is_sorted_by.result
    (c.is_sorted_by.ensures.cases (λ x y. before (key x) (key y)) (always_returns_same _ _ _ (λ a r f k. search rules)))
