-- A record put as its two parts. Assumes nothing.
use mathlib.Core.Path.{◌≡◌}
use mathlib.Core.List.{List, [], ◌++◌}
use Prim.Native.Nat.{ℕ, ◌+◌}
use native.Mathlib.Omega.{arith}
use lib.ListN.{length, length-append}
use Rattle.record.specs.Base.{Str}
use Rattle.record.specs.Scalars.{Scalar}
use Rattle.record.specs.Write.{Puts}
use Rattle.record.specs.Reading.{rec}
use Rattle.record.proofs.WriterLaws.{puts_then}
use Rattle.drafts.specs.Parts.{le4, parts_of}

pub parts-put : {s p out a b c d : Str} {i j k r : ℕ} → Puts out 0 (le4 (length s)) a i → Puts a i s b j → Puts b j (le4 (length p)) c k → Puts c k p d r → Puts out 0 (parts_of (rec s p [])) d r
unfolding parts_of
parts-put w x y z = puts_then w (puts_then x (puts_then y z))

pub parts-long : (s p : Str) (w : List Scalar) → length (parts_of (rec s p w)) ≡ length s + length p + 8
unfolding parts_of le4
parts-long s p w =
    let a = length-append s (le4 (length p) ++ p) in
    simp length-append (omega arith)
