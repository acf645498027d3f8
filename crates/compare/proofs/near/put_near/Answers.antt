use Rattle.compare.proofs.NearLaws.{put-kept, put_refused, put-new}
use Rattle.compare.proofs.near.put_near.Goals as goal

pub returns-then-table-key-ne0 : goal.returns-then-table-key-ne0
returns-then-table-key-ne0 c = search put-kept

pub returns-then-at-ge65536 : goal.returns-then-at-ge65536
returns-then-at-ge65536 c = search put_refused

pub returns-then-offset-gt4294967296 : goal.returns-then-offset-gt4294967296
returns-then-offset-gt4294967296 c = search put_refused

pub returns : goal.returns
returns c = search put-new
