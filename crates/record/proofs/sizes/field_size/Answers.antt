use Rattle.record.proofs.SizeLaws.{shape-scalar, shape-enum, shape-alias, shape-bitfield, shape-array, shape-array2d, shape-CstrPtr, shape-StructPtr, shape-StructArrayPtr, shape-StructPtrArrayPtr, shape-TaggedFamPtr, shape-SimpleFamPtr, shape-OpaquePtr, shape-FnPtr, shape-padding, shape-Text, shape-Other}
use Rattle.record.proofs.sizes.field_size.Goals as goal

pub returns-in-Scalar : goal.returns-in-Scalar
returns-in-Scalar c = λ f. search shape-scalar

pub returns-in-Enum : goal.returns-in-Enum
returns-in-Enum c = λ f. search (shape-enum, c.enum_bytes.ensures f)

pub returns-in-TypeAlias : goal.returns-in-TypeAlias
returns-in-TypeAlias c = λ f. search (shape-alias, c.alias_bytes.ensures f)

pub returns-in-Bitfield : goal.returns-in-Bitfield
returns-in-Bitfield c = λ f. search (shape-bitfield, c.bitfield_bytes.ensures f)

pub returns-in-InlineArray : goal.returns-in-InlineArray
returns-in-InlineArray c = λ f. search shape-array

pub returns-in-InlineArray2d : goal.returns-in-InlineArray2d
returns-in-InlineArray2d c = λ f. search shape-array2d

pub returns-in-CstrPtr : goal.returns-in-CstrPtr
returns-in-CstrPtr c = λ f. search shape-CstrPtr

pub returns-in-StructPtr : goal.returns-in-StructPtr
returns-in-StructPtr c = λ f. search shape-StructPtr

pub returns-in-StructArrayPtr : goal.returns-in-StructArrayPtr
returns-in-StructArrayPtr c = λ f. search shape-StructArrayPtr

pub returns-in-StructPtrArrayPtr : goal.returns-in-StructPtrArrayPtr
returns-in-StructPtrArrayPtr c = λ f. search shape-StructPtrArrayPtr

pub returns-in-TaggedFamPtr : goal.returns-in-TaggedFamPtr
returns-in-TaggedFamPtr c = λ f. search shape-TaggedFamPtr

pub returns-in-SimpleFamPtr : goal.returns-in-SimpleFamPtr
returns-in-SimpleFamPtr c = λ f. search shape-SimpleFamPtr

pub returns-in-OpaquePtr : goal.returns-in-OpaquePtr
returns-in-OpaquePtr c = λ f. search shape-OpaquePtr

pub returns-in-FnPtr : goal.returns-in-FnPtr
returns-in-FnPtr c = λ f. search shape-FnPtr

pub returns-in-Padding : goal.returns-in-Padding
returns-in-Padding c = λ f. search shape-padding

pub returns-in-Text : goal.returns-in-Text
returns-in-Text c = λ f. search shape-Text

pub returns-in-Other : goal.returns-in-Other
returns-in-Other c = λ f. search shape-Other
