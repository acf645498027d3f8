use Rattle.load.specs.Bytes.{shared_bytes, commands_bytes}
use Rattle.load.specs.Generator.{integer_bytes, vendor_bytes, shared_commands}
use Rattle.load.proofs.streams.put_shared.Goals as goal

pub returns : goal.returns
unfolding shared_bytes integer_bytes vendor_bytes commands_bytes shared_commands
returns c = c.put.ensures
