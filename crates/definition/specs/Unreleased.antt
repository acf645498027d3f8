-- The unreleased copy: check_nothing_released of layout.rs, verdict 11. Assumes nothing.
use Rattle.std.specs.Prelude.{List, ◌&&◌}
use Rattle.record.specs.Schema.{Const, Alias, Enum, BitField, Struct, Family}
use Rattle.definition.specs.Verdicts.{Verdict, described}
use Rattle.definition.specs.Pass.{ensure, empty}

-- 01's "describes a layout": any of these lists; plugin keys and version entries do not count
unfoldable pub check_nothing_released : List Struct → List Const → List Enum → List BitField → List Alias → List Family → Verdict
check_nothing_released ss cs es bs ls ms =
    ensure (empty ss && empty cs && empty es && empty bs && empty ls && empty ms) described
