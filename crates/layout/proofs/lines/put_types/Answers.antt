use native.Mathlib.Omega.{arith}
use Rattle.layout.proofs.LineLaws.{listing_start, listing-next, listing-end, type-premise}
use borrow.Author.Rules.{rules}
use Rattle.layout.proofs.lines.put_types.Goals as goal

pub loop-handle-init : goal.loop-handle-init
loop-handle-init c = search listing_start

pub put_type-end-requires : goal.put_type-end-requires
put_type-end-requires c = type-premise _ _ _ _ c.requires (search rules)

pub loop-handle-preserved : goal.loop-handle-preserved
loop-handle-preserved c = search listing-next

pub returns : goal.returns
returns c = listing-end _ _ _ c.requires c.loop-handle.invariant (omega arith) (omega arith)
