-- What becomes of a built result. Assumes nothing.
use Rattle.std.specs.Prelude.{ℕ, ◌≤◌, List, cond, take, ltb}
use Rattle.record.specs.Base.{Str}
use Rattle.record.specs.Scalars.{Scalar}
use Rattle.record.specs.Schema.{Schema}
use Rattle.record.specs.Commands.{commands_at}
use Rattle.record.specs.Reading.{rec, reading}
use Rattle.record.specs.declared.refusal.Side.TheVariants.{Current}
use Rattle.record.specs.declared.refusal.Refusal.TheVariants as R
use Rattle.drafts.specs.Parts.{part, after_part}
use Rattle.drafts.specs.Edits.{Edited, refused, settled}
use Rattle.drafts.specs.Packed.{front, Packed}
use Rattle.drafts.specs.declared.pack.Ends.{Ends}

-- 8 where it was longer than its buffers, else what stands in them read and written
unfoldable pub finished : ℕ → Str → Schema → List Scalar → Str → Str → Ends → Edited
finished k b was w out words e =
    cond (ltb 32768 e.stream) (refused 0 R.Long 0 k b)
    (cond (ltb 16384 e.pool) (refused 0 R.Long 0 k b)
    (settled k b was (rec (take e.stream out) (take e.pool words) w) (reading Current (rec (take e.stream out) (take e.pool words) w))))

-- all commands of a draft, packed
pub record HeldPacked (b out after words left : Str) (r : Ends) : Type 0 where
  pub packed : Packed (part b) (part (after_part b)) (commands_at (part b) 0) front out after words left r
  pub low : r.pool ≤ 16384
