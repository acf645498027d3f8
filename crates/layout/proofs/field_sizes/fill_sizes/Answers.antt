use Rattle.record.proofs.SeekLaws.{sought-nearer}
use Rattle.layout.proofs.FieldSizeLaws.{sizing-start, sizing-end, sizing-field}
use Rattle.layout.proofs.field_sizes.fill_sizes.Goals as goal

pub loop-place-init : goal.loop-place-init
loop-place-init c = search sizing-start

pub returns : goal.returns
returns c = search sizing-end

pub loop-place-smaller : goal.loop-place-smaller
loop-place-smaller c = search sought-nearer

pub loop-place-preserved : goal.loop-place-preserved
loop-place-preserved c = search sizing-field
