-- Demand 3 as the page of guarantees states it. Assumes nothing.
use Rattle.definition.proofs.Bytes.{demand-3}
use Rattle.menqachu.specs.Guarantees.{ChainPromise}

pub chain-kept : ChainPromise
chain-kept = demand-3
