-- 01's premise of the chain that needs no asking: "each record gives one layout and the same bit widths read as current and as released". It holds of
-- every record that can be read both ways, without exception. Assumes nothing.
use mathlib.Core.Path.{◌≡◌, sym, ap, ◌∙◌}
use Rattle.record.specs.Schema.{Schema}
use Rattle.record.specs.Reading.{Rec, read, reading}
use Rattle.record.specs.declared.refusal.Side.TheVariants.{Current, Released}
use Rattle.record.proofs.Sides.{one-reading}
use Rattle.layout.specs.Layout.{types}

pub same-both-ways : (r : Rec) (now was : Schema) → reading Current r ≡ read now → reading Released r ≡ read was
    → (types now ≡ types was) × (now.bitfields ≡ was.bitfields)
same-both-ways r now was a b =
    let e : read now ≡ read was = sym (one-reading r now a) ∙ b in
    let f : now ≡ was = cc in
    (ap types f, ap (λ (s : Schema). s.bitfields) f)
