use Rattle.record.proofs.SeekLaws.{sought-nearer}
use Rattle.compare.proofs.NearLaws.{nearing-start, nearing-end, key-inside, nearing-put, nearing-on}
use Rattle.compare.proofs.near.fill_fields.Goals as goal

pub loop-here-init : goal.loop-here-init
loop-here-init c = search nearing-start

pub returns : goal.returns
returns c = search nearing-end

pub put_near-requires : goal.put_near-requires
put_near-requires c = search key-inside

pub loop-here-smaller : goal.loop-here-smaller
loop-here-smaller c = search sought-nearer

pub loop-here-preserved : goal.loop-here-preserved
loop-here-preserved c = search nearing-on

pub returns-then-not-put_near : goal.returns-then-not-put_near
returns-then-not-put_near c = search nearing-put
