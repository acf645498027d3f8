use Rattle.layout.proofs.TableLaws.{found-whole}
use Rattle.layout.proofs.table.find_type.Goals as goal

pub returns : goal.returns
returns c = search found-whole
