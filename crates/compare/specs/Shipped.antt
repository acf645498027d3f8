-- What the code's answers on an item of the plugin API mean, over the released pool: Shipped of layout.rs. Assumes nothing.
use Rattle.std.specs.Prelude.{◌≡◌, Option, Some, None}
use Rattle.record.specs.Base.{Str}
use Rattle.record.specs.Stretch.{text_of}
use Rattle.record.specs.Lists.{opt_of}
use Rattle.record.specs.Steps.{enum_found}
use Rattle.definition.specs.FirstReleases.{enum_release}
use Rattle.compare.specs.declared.shipped.Shipped.{Shipped}
use Rattle.compare.specs.declared.shipped.Shipped.TheVariants.{Absent, Named, Unstated}
use Rattle.record.specs.declared.text.Text.{Text}
use Rattle.record.specs.Commands.{Step}
use Rattle.record.specs.declared.command as D

abbrev pub shipped_of : Str → Shipped → Option (Option Str)
shipped_of q Absent = None
shipped_of q (Named t) = Some (Some (text_of q t))
shipped_of q Unstated = Some None

-- the copy has the item, and this is the release that it gives or does not, whatever the pool
pub record ShippedWith (t : Option Text) (r : Shipped) : Type 0 where
  pub this : (q : Str) → shipped_of q r ≡ Some (opt_of q t)

-- what the copy says of an enum, whatever the stream and the pool
pub record EnumShipped (e : Step D.Enum.Enum) (r : Shipped) : Type 0 where
  pub this : (s q : Str) → shipped_of q r ≡ enum_release (enum_found s q e)
