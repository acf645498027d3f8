use Rattle.verdicts.proofs.TemplateLaws.{write-none, write-whole}
use Rattle.verdicts.proofs.template.write.Goals as goal

pub returns-then-out-n : goal.returns-then-out-n
returns-then-out-n c = search write-none

pub returns : goal.returns
returns c = search write-whole
