use Rattle.std.specs.Prelude.{◌≤◌, length}
use native.Mathlib.Omega.{arith}
use Rattle.layout.proofs.Readable.{read_short}
use Rattle.pointers.proofs.PointerLaws.{pointers-refused, pointers-read}
use Rattle.pointers.proofs.check.check_pointers.Goals as goal

pub returns-in-Err : goal.returns-in-Err
returns-in-Err c = search pointers-refused

pub returns-then-stream-le2048 : goal.returns-then-stream-le2048
returns-then-stream-le2048 c = search pointers-read

pub check_sized-requires-2 : goal.check_sized-requires-2
check_sized-requires-2 c =
    let h : length c.args.stream.now ≤ 32768 = search read_short in
    (h, omega arith, omega arith)

pub returns : goal.returns
returns c = search pointers-read
