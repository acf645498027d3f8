-- A record's model: what the commands of 01, Record commands, give of Schema in schema.rs and Released in released.rs. Assumes nothing.
use Rattle.std.specs.Prelude.{List, Bool, ℕ, Option}
use Rattle.record.specs.Base.{Str}
use Rattle.record.specs.Scalars.{Scalar}

pub record Heading : Type 0 where
  pub release : Option Str
  pub unreleased : Bool

pub data Value : Type 0 where
  integer : ℕ → Value
  words : Str → Value

pub record Const : Type 0 where
  pub name : Str
  pub value : Value
  pub api : Bool
  pub since : Option Str

pub record Alias : Type 0 where
  pub name : Str
  pub underlying : Str

pub record EnumValue : Type 0 where
  pub name : Str
  pub number : ℕ
  pub since : Option Str

pub record Enum : Type 0 where
  pub name : Str
  pub size : ℕ
  pub api : Bool
  pub since : Option Str
  pub values : List EnumValue

pub record Member : Type 0 where
  pub name : Str
  pub bit : ℕ
  pub width : Option ℕ
  pub since : Option Str

pub record BitField : Type 0 where
  pub name : Str
  pub size : ℕ
  pub since : Option Str
  pub members : List Member

pub record Key : Type 0 where
  pub name : Str
  pub since : Option Str

pub record Field : Type 0 where
  pub name : Str
  pub kind : Str
  pub typ : Option Str
  pub element : Option Str
  pub count : Option ℕ
  pub rows : Option ℕ
  pub cols : Option ℕ
  pub size : Option ℕ
  pub key : Option Key

pub record Struct : Type 0 where
  pub name : Str
  pub slot : Option Str
  pub version : Option Str
  pub fields : List Field

pub record Variant : Type 0 where
  pub disc : Str
  pub fields : List Field

pub record Family : Type 0 where
  pub name : Str
  pub disc_field : Str
  pub disc_type : Str
  pub len_field : Str
  pub len_type : Option Str
  pub standalone : Bool
  pub common : List Field
  pub variants : List Variant

pub record Version : Type 0 where
  pub struct : Str
  pub version : ℕ

pub record Schema : Type 0 where
  -- the table of scalar words under which the record is read
  pub scalars : List Scalar
  pub release : Option Str
  pub unreleased : Bool
  pub constants : List Const
  pub aliases : List Alias
  pub enums : List Enum
  pub bitfields : List BitField
  pub structs : List Struct
  pub families : List Family
  pub unstored : List Key
  pub versions : List Version
