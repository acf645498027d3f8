use native.Mathlib.Omega.{arith}
use Rattle.record.proofs.WriterLaws.{text-short}
use Rattle.layout.proofs.TableLaws.{found-alone, found-variant}
use Rattle.layout.proofs.table.find_named.Goals as goal

pub returns-in_default : goal.returns-in_default
returns-in_default c = search found-alone

pub find_parts-requires : goal.find_parts-requires
find_parts-requires c = record { few = omega arith; fits = omega (arith, text-short) }

pub returns : goal.returns
returns c = search found-variant
