use Rattle.record.proofs.ReadLaws.{read-long, read_wide, read-letter, read-refused, read-vast, read_whole}
use Rattle.record.proofs.read.read_record.Goals as goal

pub returns-then-stream-gt-STREAM_LIMIT : goal.returns-then-stream-gt-STREAM_LIMIT
returns-then-stream-gt-STREAM_LIMIT c = search read-long

pub returns-then-pool-gt-POOL_LIMIT : goal.returns-then-pool-gt-POOL_LIMIT
returns-then-pool-gt-POOL_LIMIT c = search read_wide

pub returns-in-Some : goal.returns-in-Some
returns-in-Some c = search read-letter

pub returns-in-Err : goal.returns-in-Err
returns-in-Err c = search read-refused

pub returns-in-Some-vast_type : goal.returns-in-Some-vast_type
returns-in-Some-vast_type c = search read-vast

pub returns : goal.returns
returns c = search read_whole
