use Rattle.layout.proofs.TableLaws.{found_here, found-parts}
use Rattle.layout.proofs.table.find_same.Goals as goal

pub returns-then-type_has : goal.returns-then-type_has
returns-then-type_has c = search (found-parts, found_here)

pub returns : goal.returns
returns c = search found-parts
