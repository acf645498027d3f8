-- Enums: check_enums of layout.rs, verdicts 22 to 25. Assumes nothing.
use Rattle.std.specs.Prelude.{List, ℕ, eqb, Option}
use Rattle.record.specs.Base.{Str, find}
use Rattle.record.specs.Schema.{Enum, EnumValue}
use Rattle.record.specs.Steps.{enum_in, value_in}
use Rattle.definition.specs.Verdicts.{Verdict, enum_gone, renumbered, renamed, value_gone}
use Rattle.definition.specs.Pass.{ensure, each, on_found, empty}

-- the first value with this number
unfoldable pub number_in : ℕ → List EnumValue → Option EnumValue
number_in n l = find (λ (v : EnumValue). eqb v.number n) l

-- the enum's name, the values that are now, and one that was
unfoldable pub check_value : Str → List EnumValue → EnumValue → Verdict
check_value owner is old =
    on_found (value_in old.name is)
    (on_found (number_in old.number is) (value_gone owner old.name) (λ (new : EnumValue). renamed owner old.name new.name))
    (λ (new : EnumValue). ensure (eqb new.number old.number) (renumbered owner old.name old.number new.number))

unfoldable pub check_values : Str → List EnumValue → List EnumValue → Verdict
check_values owner is was = each (check_value owner is) was

-- an enum without values is passed over: it may go
unfoldable pub check_enum : List Enum → Enum → Verdict
check_enum is was =
    ensure (empty was.values)
    (on_found (enum_in was.name is) (enum_gone was.name) (λ (new : Enum). check_values was.name new.values was.values))

-- every released enum against the first current one of its name
unfoldable pub check_enums : List Enum → List Enum → Verdict
check_enums is was = each (check_enum is) was
