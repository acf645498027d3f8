-- The lists of a record, one by one, as the passes over them read them. Assumes nothing.
use Rattle.std.specs.Prelude.{List}
use Rattle.record.specs.Schema.{Const, Enum, BitField, Struct, Family, Key, Version}
use Rattle.record.specs.Steps.{constants_at, enums_at, bitfields_at, structs_at, families_at, unstored_at, versions_at}
use Rattle.record.specs.Keys.{plugin_keys}
use Rattle.record.specs.Owner.{Types}
use Rattle.record.specs.References.{types_at}
use Rattle.record.specs.Reading.{Rec}

abbrev pub constant_list : Rec → List Const
constant_list r = constants_at r.stream r.pool 0

abbrev pub enum_list : Rec → List Enum
enum_list r = enums_at r.stream r.pool 0

abbrev pub bitfield_list : Rec → List BitField
bitfield_list r = bitfields_at r.stream r.pool 0

abbrev pub struct_list : Rec → List Struct
struct_list r = structs_at r.stream r.pool 0

abbrev pub family_list : Rec → List Family
family_list r = families_at r.stream r.pool 0

abbrev pub version_list : Rec → List Version
version_list r = versions_at r.stream r.pool 0

abbrev pub key_list : Rec → List Key
key_list r = plugin_keys (structs_at r.stream r.pool 0) (unstored_at r.stream r.pool 0)

-- the lists that say who owns a name
abbrev pub type_lists : Rec → Types
type_lists r = types_at r.stream r.pool
