-- The draws, and what each decides: docs/LOAD.md has them as a table. Assumes nothing.
use Rattle.std.specs.Prelude.{List, [], ◌∷◌, ℕ, zero, suc, ◌+◌, ◌-◌, ◌*◌, ◌/◌, ◌%◌, cond, eqb, get_or}
use Rattle.record.specs.declared.text.Text.{Text}
use Rattle.record.specs.declared.kind.Kind.{Kind}
use Rattle.record.specs.declared.kind.Kind.TheVariants as K
use Rattle.load.specs.Pool as W
use Rattle.load.specs.Commands.{no, number, StructCommand}
use Rattle.load.specs.declared.settings.Setting.{Setting}
use Rattle.load.specs.declared.commands.FieldCommand.{FieldCommand}

-- 02: "The next seed is (seed times 1103515245 plus 12345) modulo 2147483648"
unfoldable pub next_seed : ℕ → ℕ
next_seed s = (s * 1103515245 + 12345) % 2147483648

-- the seed after so many draws
unfoldable pub seed_after : ℕ → ℕ → ℕ
seed_after zero s = s
seed_after (suc k) s = seed_after k (next_seed s)

-- 02: "a draw below n (n from 1 to 32,768) is the new seed divided by 65,536, rounded down, modulo n"; this is the k-th from a seed
unfoldable pub draw : ℕ → ℕ → ℕ → ℕ
draw s k n = seed_after k s / 65536 % n

-- 02: "The first draw, below 8, plus one is the number of structures, the second, below 16, plus two the fields of each, in the released record";
-- "The team writes down which other draw decides what"
unfoldable pub setting_of : ℕ → Setting
setting_of s = record {
  structs = draw s 1 8 + 1;
  fields = draw s 2 16 + 2;
  releases = draw s 3 4;
  slot = draw s 4 3;
  lengths = draw s 5 14;
  generation = draw s 6 32768;
  spare = draw s 7 32768;
  root = draw s 8 (draw s 1 8 + 1);
  target = draw s 9 (draw s 2 16 + 2);
  word = draw s 10 4;
  fresh = draw s 11 4;
  seed = seed_after 11 s;
}

-- the texts that a small draw picks; a number beyond picks the last
unfoldable pub scalar_text : ℕ → Text
scalar_text n = cond (eqb n 0) W.t·u8 (cond (eqb n 1) W.t·u16 (cond (eqb n 2) W.t·u32 W.t·char))

-- for 36, a scalar word of another size
unfoldable pub retyped_text : ℕ → Text
retyped_text n = cond (eqb n 0) W.t·u16 (cond (eqb n 1) W.t·u32 (cond (eqb n 2) W.t·char W.t·u32))

-- the released record's release, and the current one's
unfoldable pub was_text : ℕ → Text
was_text n = cond (eqb n 0) W.t·0·8·0 (cond (eqb n 1) W.t·0·9·0 (cond (eqb n 2) W.t·0·10·0 W.t·1·9·9))

unfoldable pub now_text : ℕ → Text
now_text n = cond (eqb n 0) W.t·0·9·0 (cond (eqb n 1) W.t·0·10·0 (cond (eqb n 2) W.t·1·0·0 W.t·1·10·0))

unfoldable pub slot_text : ℕ → Text
slot_text n = cond (eqb n 0) W.t·metadata (cond (eqb n 1) W.t·runtime W.t·info)

unfoldable pub enum_text : ℕ → Text
enum_text n = cond (eqb n 0) W.t·filter W.t·mode

unfoldable pub alias_text : ℕ → Text
alias_text n = cond (eqb n 0) W.t·ticks W.t·well

-- the kinds in 01's order
unfoldable pub kind_at : ℕ → Kind
kind_at n =
    get_or (K.Scalar ∷ K.Enum ∷ K.TypeAlias ∷ K.Bitfield ∷ K.InlineArray ∷ K.InlineArray2d ∷ K.CstrPtr ∷ K.StructPtr ∷ K.StructArrayPtr
    ∷ K.StructPtrArrayPtr ∷ K.TaggedFamPtr ∷ K.SimpleFamPtr ∷ K.OpaquePtr ∷ K.FnPtr ∷ K.Padding ∷ []) n K.Text

-- fields -------------------------------------------------------------------------------------------------------------------------------------

abbrev pub plain_field : Text → Text → Text → Text → FieldCommand
plain_field n k ty el = record { name = n; kind = k; typ = ty; element = el; count = no; rows = no; cols = no; size = no }

abbrev pub array_field : Text → Text → Text → ℕ → FieldCommand
array_field n k el c = record { name = n; kind = k; typ = W.absent; element = el; count = number c; rows = no; cols = no; size = no }

abbrev pub grid_field : Text → Text → Text → ℕ → ℕ → FieldCommand
grid_field n k el r c = record { name = n; kind = k; typ = W.absent; element = el; count = no; rows = number r; cols = number c; size = no }

abbrev pub padding_field : Text → Text → ℕ → FieldCommand
padding_field n k s = record { name = n; kind = k; typ = W.absent; element = W.absent; count = no; rows = no; cols = no; size = number s }

-- a field of a kind: l has the lengths of names, a the number of structures, nm the field's name, n and t are its second and third draw.
-- No draw gives K.Other, a kind that is none of the sixteen
unfoldable pub field_as : Kind → ℕ → ℕ → Text → ℕ → ℕ → FieldCommand
field_as K.Scalar l a nm n t = plain_field nm W.k·scalar (scalar_text (t % 4)) W.absent
field_as K.Enum l a nm n t = plain_field nm W.k·enum (enum_text (t % 2)) W.absent
field_as K.TypeAlias l a nm n t = plain_field nm W.k·type-alias (alias_text (t % 2)) W.absent
field_as K.Bitfield l a nm n t = plain_field nm W.k·bitfield W.t·flags W.absent
field_as K.InlineArray l a nm n t = array_field nm W.k·inline-array (scalar_text (t % 4)) (n + 1)
field_as K.InlineArray2d l a nm n t = grid_field nm W.k·inline-array2d (scalar_text (t % 4)) (n + 1) (t + 1)
field_as K.CstrPtr l a nm n t = plain_field nm W.k·cstr-ptr W.absent W.absent
field_as K.StructPtr l a nm n t = plain_field nm W.k·struct-ptr (W.struct_text l (t % a)) W.absent
field_as K.StructArrayPtr l a nm n t = plain_field nm W.k·struct-array-ptr W.absent (W.struct_text l (t % a))
field_as K.StructPtrArrayPtr l a nm n t = plain_field nm W.k·struct-ptr-array-ptr W.absent (W.struct_text l (t % a))
field_as K.TaggedFamPtr l a nm n t = plain_field nm W.k·tagged-fam-ptr W.t·frame W.absent
field_as K.SimpleFamPtr l a nm n t = plain_field nm W.k·simple-fam-ptr W.t·legacy W.absent
field_as K.OpaquePtr l a nm n t = plain_field nm W.k·opaque-ptr W.absent W.absent
field_as K.FnPtr l a nm n t = plain_field nm W.k·fn-ptr W.absent W.absent
field_as K.Padding l a nm n t = padding_field nm W.k·padding (n + 1)
field_as K.Text l a nm n t = plain_field nm W.k·string W.absent W.absent
field_as K.Other l a nm n t = plain_field nm W.k·string W.absent W.absent

module _ (g : Setting) where
  unfoldable pub field_name : ℕ → Text
  field_name j = W.field_text g.lengths j

  unfoldable pub struct_name : ℕ → Text
  struct_name i = W.struct_text g.lengths i

  -- the field of an index, from a seed
  unfoldable pub field_drawn : ℕ → ℕ → FieldCommand
  field_drawn s j = field_as (kind_at (draw s 1 16)) g.lengths g.structs (field_name j) (draw s 2 8) (draw s 3 8)

  -- so many fields, from a seed and an index on: three draws each
  unfoldable pub fields_from : ℕ → ℕ → ℕ → List FieldCommand
  fields_from s j zero = []
  fields_from s j (suc n) = field_drawn s j ∷ fields_from (seed_after 3 s) (j + 1) n

  -- structures without a slot
  unfoldable pub plain_struct : ℕ → ℕ → StructCommand
  plain_struct s i = record { name = struct_name i; slot = W.absent; version = W.absent; fields = fields_from s 0 g.fields }

  unfoldable pub structs_from : ℕ → ℕ → ℕ → List StructCommand
  structs_from s i zero = []
  structs_from s i (suc n) = plain_struct s i ∷ structs_from (seed_after (3 * g.fields) s) (i + 1) n

  -- the root's own fields: none is drawn for the target
  unfoldable pub root_seed : ℕ
  root_seed = seed_after (3 * g.fields * g.root) g.seed

  unfoldable pub front_fields : List FieldCommand
  front_fields = fields_from root_seed 0 g.target

  unfoldable pub back_fields : List FieldCommand
  back_fields = fields_from (seed_after (3 * g.target) root_seed) (g.target + 1) (g.fields - (g.target + 1))

  unfoldable pub target_field : FieldCommand
  target_field = plain_field (field_name g.target) W.k·scalar (scalar_text g.word) W.absent

  unfoldable pub retyped_field : FieldCommand
  retyped_field = plain_field (field_name g.target) W.k·scalar (retyped_text g.word) W.absent

  unfoldable pub inserted_field : FieldCommand
  inserted_field = plain_field (field_name 17) W.k·scalar (scalar_text g.fresh) W.absent

  unfoldable pub added_field : FieldCommand
  added_field = plain_field (field_name 18) W.k·scalar (scalar_text g.fresh) W.absent

  unfoldable pub before_structs : List StructCommand
  before_structs = structs_from g.seed 0 g.root

  unfoldable pub after_structs : List StructCommand
  after_structs = structs_from (seed_after (3 * (g.fields - 1)) root_seed) (g.root + 1) (g.structs - (g.root + 1))
