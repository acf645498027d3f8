-- The constants, enums and unstored keys of a record by their names, where the index is the record's. Assumes nothing.
use Rattle.std.specs.Prelude.{◌≡◌, List, ◌&&◌, ℕ, Option, Some, None}
use Rattle.record.specs.Base.{Str, eqs, find_last}
use Rattle.record.specs.Schema.{Const, Enum, Key}
use Rattle.record.specs.Lists.{key_of}
use Rattle.record.specs.Steps.{constants_at, enums_at, unstored_at, constant_in, enum_in, constant_found, enum_found}
use Rattle.record.specs.Index.{Indexed, constant_placed, enum_placed}
use Rattle.record.specs.Commands.{Step}
use Rattle.record.specs.declared.command as D

-- what is declared at a place, whatever the pool
pub record ConstantThere (s : Str) (t : Option (ℕ × ℕ)) (r : Step D.Constant.Constant) : Type 0 where
  pub this : (p : Str) → constant_placed s p t ≡ constant_found s p r

pub record EnumThere (s : Str) (t : Option (ℕ × ℕ)) (r : Step D.Enum.Enum) : Type 0 where
  pub this : (p : Str) → enum_placed s p t ≡ enum_found s p r

-- an unstored key alone
abbrev pub unstored_found : Str → Step D.PluginKey.PluginKey → Option Key
unstored_found p None = None
unstored_found p (Some (e, k)) = Some (key_of p e)

module _ (s p : Str) (x : List ℕ) (n : Str) where
  -- constants: the first of the name, the last, and the last in the plugin API
  pub record FirstConstant (r : Step D.Constant.Constant) : Type 0 where
    pub this : Indexed s p x → constant_in n (constants_at s p 0) ≡ constant_found s p r

  pub record LastConstant (r : Step D.Constant.Constant) : Type 0 where
    pub this : Indexed s p x → find_last (λ (c : Const). eqs c.name n) (constants_at s p 0) ≡ constant_found s p r

  pub record ApiConstant (r : Step D.Constant.Constant) : Type 0 where
    pub this : Indexed s p x → find_last (λ (c : Const). c.api && eqs c.name n) (constants_at s p 0) ≡ constant_found s p r

  -- enums: the first of the name, and the last in the plugin API
  pub record FirstEnum (r : Step D.Enum.Enum) : Type 0 where
    pub this : Indexed s p x → enum_in n (enums_at s p 0) ≡ enum_found s p r

  pub record ApiEnum (r : Step D.Enum.Enum) : Type 0 where
    pub this : Indexed s p x → find_last (λ (e : Enum). e.api && eqs e.name n) (enums_at s p 0) ≡ enum_found s p r

  -- unstored keys: the last of the name
  pub record LastUnstored (r : Step D.PluginKey.PluginKey) : Type 0 where
    pub this : Indexed s p x → find_last (λ (k : Key). eqs k.name n) (unstored_at s p 0) ≡ unstored_found p r
