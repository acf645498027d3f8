-- The pool of every record, and where its texts are: names of 16 bytes each, which their first three bytes tell apart, the kinds, 20 bytes each,
-- then the words. Assumes nothing.
use Rattle.std.specs.Prelude.{◌++◌, ℕ, ◌+◌, ◌*◌, ◌%◌}
use Rattle.record.specs.Base.{Str, bytes}
use Rattle.record.specs.declared.text.Text.{Text}

unfoldable pub struct_names : Str
struct_names = bytes "s00stage_originss01optics_state_s02tile_table_hds03plate_barcodes04lamp_schedules05focus_profiles06camera_setup_s07run_statistic"

unfoldable pub field_names : Str
field_names =
    bytes "f00exposure_timef01gain_setting_f02well_row_markf03well_col_markf04lens_positionf05filter_selectf06lamp_intensit"
    ++ (bytes "f07encoder_ticksf08tile_checksumf09overlap_widthf10stitch_offsetf11operator_notef12serial_numberf13firmware_hash"
    ++ bytes "f14temperature_cf15pressure_mbarf16humidity_percf17spare_byte_inf18spare_byte_at")

unfoldable pub kind_texts : Str
kind_texts =
    bytes "scalar..............enum................type_alias..........bitfield............inline_array........inline_array2d......"
    ++ (bytes "cstr_ptr............struct_ptr..........struct_array_ptr....struct_ptr_array_ptrtagged_fam_ptr......simple_fam_ptr......"
    ++ bytes "opaque_ptr..........fn_ptr..............padding.............string..............")

unfoldable pub word_texts : Str
word_texts =
    bytes "0.8.00.9.00.10.01.0.01.9.91.10.0metadataruntimeinfo"
    ++ (bytes "GENERATIONTILE_LIMITPLUGIN_APIVENDORmenqachutickswellfilterdarkdapifitcmodeidlescanfault"
    ++ bytes "flagslampzoomframetaglenseqAgaingapBposlegacysortsizeoldCtxtplaterowu8u16u32char")

unfoldable pub pool : Str
pool = struct_names ++ (field_names ++ (kind_texts ++ word_texts))

abbrev pub at : ℕ → ℕ → Text
at s n = record { start = s; len = n }

-- 01's absent text
abbrev pub absent : Text
absent = at 65535 0

-- the name of a structure and of a field: by its index, its length by the lengths drawn
unfoldable pub struct_text : ℕ → ℕ → Text
struct_text l i = at (16 * i) (3 + (l + i) % 14)

unfoldable pub field_text : ℕ → ℕ → Text
field_text l i = at (128 + 16 * i) (3 + (l + i) % 14)

-- kinds
abbrev pub k·scalar : Text
k·scalar = at 432 6

abbrev pub k·enum : Text
k·enum = at 452 4

abbrev pub k·type-alias : Text
k·type-alias = at 472 10

abbrev pub k·bitfield : Text
k·bitfield = at 492 8

abbrev pub k·inline-array : Text
k·inline-array = at 512 12

abbrev pub k·inline-array2d : Text
k·inline-array2d = at 532 14

abbrev pub k·cstr-ptr : Text
k·cstr-ptr = at 552 8

abbrev pub k·struct-ptr : Text
k·struct-ptr = at 572 10

abbrev pub k·struct-array-ptr : Text
k·struct-array-ptr = at 592 16

abbrev pub k·struct-ptr-array-ptr : Text
k·struct-ptr-array-ptr = at 612 20

abbrev pub k·tagged-fam-ptr : Text
k·tagged-fam-ptr = at 632 14

abbrev pub k·simple-fam-ptr : Text
k·simple-fam-ptr = at 652 14

abbrev pub k·opaque-ptr : Text
k·opaque-ptr = at 672 10

abbrev pub k·fn-ptr : Text
k·fn-ptr = at 692 6

abbrev pub k·padding : Text
k·padding = at 712 7

abbrev pub k·string : Text
k·string = at 732 6

-- words
abbrev pub t·0·8·0 : Text
t·0·8·0 = at 752 5

abbrev pub t·0·9·0 : Text
t·0·9·0 = at 757 5

abbrev pub t·0·10·0 : Text
t·0·10·0 = at 762 6

abbrev pub t·1·0·0 : Text
t·1·0·0 = at 768 5

abbrev pub t·1·9·9 : Text
t·1·9·9 = at 773 5

abbrev pub t·1·10·0 : Text
t·1·10·0 = at 778 6

abbrev pub t·metadata : Text
t·metadata = at 784 8

abbrev pub t·runtime : Text
t·runtime = at 792 7

abbrev pub t·info : Text
t·info = at 799 4

abbrev pub t·GENERATION : Text
t·GENERATION = at 803 10

abbrev pub t·TILE-LIMIT : Text
t·TILE-LIMIT = at 813 10

abbrev pub t·PLUGIN-API : Text
t·PLUGIN-API = at 823 10

abbrev pub t·VENDOR : Text
t·VENDOR = at 833 6

abbrev pub t·menqachu : Text
t·menqachu = at 839 8

abbrev pub t·ticks : Text
t·ticks = at 847 5

abbrev pub t·well : Text
t·well = at 852 4

abbrev pub t·filter : Text
t·filter = at 856 6

abbrev pub t·dark : Text
t·dark = at 862 4

abbrev pub t·dapi : Text
t·dapi = at 866 4

abbrev pub t·fitc : Text
t·fitc = at 870 4

abbrev pub t·mode : Text
t·mode = at 874 4

abbrev pub t·idle : Text
t·idle = at 878 4

abbrev pub t·scan : Text
t·scan = at 882 4

abbrev pub t·fault : Text
t·fault = at 886 5

abbrev pub t·flags : Text
t·flags = at 891 5

abbrev pub t·lamp : Text
t·lamp = at 896 4

abbrev pub t·zoom : Text
t·zoom = at 900 4

abbrev pub t·frame : Text
t·frame = at 904 5

abbrev pub t·tag : Text
t·tag = at 909 3

abbrev pub t·len : Text
t·len = at 912 3

abbrev pub t·seq : Text
t·seq = at 915 3

abbrev pub t·A : Text
t·A = at 918 1

abbrev pub t·gain : Text
t·gain = at 919 4

abbrev pub t·gap : Text
t·gap = at 923 3

abbrev pub t·B : Text
t·B = at 926 1

abbrev pub t·pos : Text
t·pos = at 927 3

abbrev pub t·legacy : Text
t·legacy = at 930 6

abbrev pub t·sort : Text
t·sort = at 936 4

abbrev pub t·size : Text
t·size = at 940 4

abbrev pub t·old : Text
t·old = at 944 3

abbrev pub t·C : Text
t·C = at 947 1

abbrev pub t·txt : Text
t·txt = at 948 3

abbrev pub t·plate : Text
t·plate = at 951 5

abbrev pub t·row : Text
t·row = at 956 3

abbrev pub t·u8 : Text
t·u8 = at 959 2

abbrev pub t·u16 : Text
t·u16 = at 961 3

abbrev pub t·u32 : Text
t·u32 = at 964 3

abbrev pub t·char : Text
t·char = at 967 4
