use Rattle.std.proofs.Common.{rules}
use Rattle.record.proofs.TextLaws.{kept, ended}
use Rattle.record.proofs.ReadLaws.{commands-laws, commands-nearer}
use Rattle.record.proofs.read.read_commands.Goals as goal

pub loop-after-init : goal.loop-after-init
loop-after-init c = rw c.new-cursor.ensures

pub returns-in_err-after : goal.returns-in_err-after
returns-in_err-after c = search (rules, ended, commands-laws)

pub loop-after-smaller : goal.loop-after-smaller
loop-after-smaller c = search (rules, commands-nearer)

pub loop-after-preserved : goal.loop-after-preserved
loop-after-preserved c = search (rules, kept, commands-laws)

pub returns : goal.returns
returns c = search (rules, ended, commands-laws)
