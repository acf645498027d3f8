use Rattle.std.proofs.Common.{rules, length, take}
use Rattle.record.proofs.IndexLaws.{headless_filled}
use Rattle.record.proofs.index.clear.Goals as goal

pub returns : goal.returns
returns c = headless_filled _ _ (length (take 256 c.args.index.now)) (search rules) c.requires (search rules)
