-- A setting in range gives a feasible plan. Assumes nothing.
use Rattle.std.specs.Prelude.{None}
use mathlib.Core.Path.{◌≡◌, refl, sym, ◌∙◌, ap, subst}
use mathlib.Core.List.Memᴰ
use mathlib.Core.List.{List, [], ◌∷◌, ◌++◌, map, Memᴰ}
use mathlib.Core.Bool.{Bool, true, false, ◌&&◌, not, false≢true}
use Prim.Native.Nat.{ℕ, zero, suc, ◌+◌, ◌-◌, ◌*◌, ◌/◌, ◌%◌, ◌<◌, ◌≤◌}
use native.Mathlib.Omega.{arith}
use lib.Dec.{eqb, ltb, lit<}
use native.Mathlib.Nat.{mod-lt}
use lib.ListN.{length, length-append}
use borrow.Author.Tests.{not-true, eqb-false, ltb-true}
use Rattle.record.specs.Base.{Str, bytes, eqs, any, find, or_else}
use Rattle.record.specs.Stretch.{text_of}
use Rattle.record.specs.Operands.{opt_text}
use Rattle.record.specs.Schema.{Field, Struct, Family}
use Rattle.record.specs.Steps.{family_in}
use Rattle.record.specs.Scalars.{built_in, scalar_in, prim_size}
use Rattle.record.specs.Kind.{kind_of, is_padding, words, kind_among}
use Rattle.record.specs.Shapes.{FieldLayout, size_as, scalar_size, shape_size, place_of, places, plain, fam_prefix}
use Rattle.record.specs.declared.text.Text.{Text}
use Rattle.record.specs.declared.kind.Kind.{Kind}
use Rattle.record.specs.declared.kind.Kind.TheVariants as K
use Rattle.record.proofs.Basics.{both, eqs-refl, any_none}
use Rattle.layout.specs.Layout.{TypeLayout, variant_name, lay_family, lay_variant, lay_families}
use Rattle.definition.specs.Verdicts.{pass}
use Rattle.definition.specs.Compare.{compare}
use Rattle.load.proofs.Outcome.{outcome-is}
use Rattle.definition.specs.Pass.{ensure, on_found, all_of}
use Rattle.definition.specs.Standalone.{variant_names, layouts_of, check_standing}
use Rattle.definition.specs.Coverage.{stands_alone}
use Rattle.definition.specs.Chain.{NoDup}
use Rattle.definition.proofs.Lists.{all-of}
use Rattle.load.specs.Plan.{whole, generation_at, constants_with, constants_without, schema_with, released, current}
use Rattle.load.specs.Wanted.{wanted}
use Rattle.load.specs.Feasible.{Feasible, Other, Apart, Stands, Keyless, field_names}
use Rattle.load.specs.Pool as W
use Rattle.load.specs.Commands.{meant_text, field_meant, fields_meant, struct_meant, structs_meant}
use Rattle.load.specs.Draws
use Rattle.load.specs.Range.{InRange}
use Rattle.load.specs.Generator.{plan_of, family_list, spare_at}
use Rattle.load.proofs.Names.{field_spelt, struct_spelt, struct_rest, fields-apart, structs-apart, struct-starts, struct-colons}
use Rattle.load.proofs.Shared.{four, now_spelt, was_spelt, generation_const, order-releases, dated-releases, dated-without-releases, enums-pass, bits-pass, bits-dated-releases, kept-constants, gone-constant, slot-known}
use Rattle.load.specs.declared.outcomes.Outcome.{Outcome}
use Rattle.load.specs.declared.settings.Setting.{Setting}
use Rattle.load.specs.declared.commands.FieldCommand.{FieldCommand}

-- fields named by rising indices ------------------------------------------------------------------------------------------------------------------------

abbrev Indexed : ℕ → ℕ → List Field → Type 0
Indexed l j [] = Unit {0}
Indexed l j (f ∷ fs) = (f.name ≡ field_spelt l j) × Indexed l (j + 1) fs

command-name : (k : Kind) (l a : ℕ) (nm : Text) (n t : ℕ) → (Draws.field_as k l a nm n t).name ≡ nm
unfolding Draws.field_as
command-name K.Scalar l a nm n t = refl
command-name K.Enum l a nm n t = refl
command-name K.TypeAlias l a nm n t = refl
command-name K.Bitfield l a nm n t = refl
command-name K.InlineArray l a nm n t = refl
command-name K.InlineArray2d l a nm n t = refl
command-name K.CstrPtr l a nm n t = refl
command-name K.StructPtr l a nm n t = refl
command-name K.StructArrayPtr l a nm n t = refl
command-name K.StructPtrArrayPtr l a nm n t = refl
command-name K.TaggedFamPtr l a nm n t = refl
command-name K.SimpleFamPtr l a nm n t = refl
command-name K.OpaquePtr l a nm n t = refl
command-name K.FnPtr l a nm n t = refl
command-name K.Padding l a nm n t = refl
command-name K.Text l a nm n t = refl
command-name K.Other l a nm n t = refl

module _ (l : ℕ) where
  indexed-append : (j : ℕ) (xs ys : List Field) → Indexed l j xs → Indexed l (j + length xs) ys → Indexed l j (xs ++ ys)
  indexed-append j [] ys a b = subst (λ (k : ℕ). Indexed l k ys) (omega arith) b
  indexed-append j (x ∷ xs) ys a b = (a.0, indexed-append (j + 1) xs ys a.1 (subst (λ (k : ℕ). Indexed l k ys) (omega arith) b))

  -- a later index has another name
  later : l < 14 → (i j : ℕ) (fs : List Field) → i < j → j + length fs ≤ 19 → Indexed l j fs → Memᴰ (field_spelt l i) (field_names fs) → ⊥
  later h i j [] a b d m = Memᴰ.not-nil m
  later h i j (f ∷ fs) a b d (Memᴰ.head e) =
      false≢true (sym (fields-apart l h i j (omega arith) (omega arith) (λ q. omega arith)) ∙ ap (λ (x : Str). eqs (field_spelt l i) x) (sym d.0) ∙ ap (λ (x : Str). eqs (field_spelt l i) x) (sym e) ∙ eqs-refl (field_spelt l i))
  later h i j (f ∷ fs) a b d (Memᴰ.tail m) = later h i (j + 1) fs (omega arith) (omega arith) d.1 m

  indexed-once : l < 14 → (j : ℕ) (fs : List Field) → j + length fs ≤ 19 → Indexed l j fs → NoDup (field_names fs)
  indexed-once h j [] b d = tt
  indexed-once h j (f ∷ fs) b d =
      (λ m. later h j (j + 1) fs (omega arith) (omega arith) d.1 (subst (λ (x : Str). Memᴰ x (field_names fs)) d.0 m), indexed-once h (j + 1) fs (omega arith) d.1)

module _ (g : Setting) where
  fields-indexed : (s j n : ℕ) → Indexed g.lengths j (fields_meant (Draws.fields_from g s j n))
  unfolding Draws.fields_from fields_meant field_meant Draws.field_drawn Draws.field_name field_spelt
  fields-indexed s j zero = tt
  fields-indexed s j (suc n) = (named, fields-indexed (Draws.seed_after 3 s) (j + 1) n)
    where
      named : (field_meant (Draws.field_drawn g s j)).name ≡ field_spelt g.lengths j
      named = ap (text_of W.pool) (command-name (Draws.kind_at (Draws.draw s 1 16)) g.lengths g.structs (Draws.field_name g j) (Draws.draw s 2 8) (Draws.draw s 3 8))

  fields-counted : (s j n : ℕ) → length (fields_meant (Draws.fields_from g s j n)) ≡ n
  unfolding Draws.fields_from fields_meant
  fields-counted s j zero = refl
  fields-counted s j (suc n) = ap suc (fields-counted (Draws.seed_after 3 s) (j + 1) n)

  fields-keyless : (l : List FieldCommand) → Keyless (fields_meant l)
  unfolding fields_meant field_meant
  fields-keyless [] f m = absurd (Memᴰ.not-nil m)
  fields-keyless (x ∷ l) f (Memᴰ.head e) = ap (λ (y : Field). y.key) e
  fields-keyless (x ∷ l) f (Memᴰ.tail m) = fields-keyless l f m

  -- structures that are not the root ---------------------------------------------------------------------------------------------------------------------

  module _ (r : InRange g) where
    plain_other : (s i : ℕ) → i < 8 → (i ≡ g.root → ⊥) → Other (struct_spelt g.lengths g.root) (struct_meant (Draws.plain_struct g s i))
    unfolding struct_meant Draws.plain_struct Draws.struct_name struct_spelt meant_text opt_text
    plain_other s i h n =
        let rt = r.root in
        let st = r.structs in
        record {
          named = structs-apart g.lengths r.lengths i g.root h (omega arith) n;
          free = refl;
          once = indexed-once g.lengths r.lengths 0 (fields_meant (Draws.fields_from g s 0 g.fields)) (fits (fields-counted s 0 g.fields) r.fields) (fields-indexed s 0 g.fields);
          keyless = fields-keyless (Draws.fields_from g s 0 g.fields);
        }
      where
        fits : length (fields_meant (Draws.fields_from g s 0 g.fields)) ≡ g.fields → g.fields ≤ 17 → 0 + length (fields_meant (Draws.fields_from g s 0 g.fields)) ≤ 19
        fits e l = omega arith

    structs-other : (s i n : ℕ) → i + n ≤ 8 → ((k : ℕ) → i ≤ k → k < i + n → k ≡ g.root → ⊥) → (t : Struct) → Memᴰ t (structs_meant (Draws.structs_from g s i n)) → Other (struct_spelt g.lengths g.root) t
    unfolding structs_meant Draws.structs_from
    structs-other s i zero h a t m = absurd (Memᴰ.not-nil m)
    structs-other s i (suc n) h a t (Memᴰ.head e) =
        subst (Other (struct_spelt g.lengths g.root)) (sym e) (plain_other s i (omega arith) (a i (omega arith) (omega arith)))
    structs-other s i (suc n) h a t (Memᴰ.tail m) =
        structs-other (Draws.seed_after (3 * g.fields) s) (i + 1) n (omega arith) (λ k b c. a k (omega arith) (omega arith)) t m

    -- the root's fields ------------------------------------------------------------------------------------------------------------------------------------

    whole-once : NoDup (field_names (whole (plan_of g)))
    unfolding whole plan_of Draws.front_fields Draws.back_fields Draws.target_field Draws.field_name field_meant field_spelt
    whole-once =
        indexed-once g.lengths r.lengths 0 (F ++ (field_meant (Draws.target_field g) ∷ B)) (fits (fields-counted (Draws.root_seed g) 0 g.target) (fields-counted (Draws.seed_after (3 * g.target) (Draws.root_seed g)) (g.target + 1) (g.fields - (g.target + 1))) (length-append F (field_meant (Draws.target_field g) ∷ B)) r.fields r.target)
        (indexed-append g.lengths 0 F (field_meant (Draws.target_field g) ∷ B) (fields-indexed (Draws.root_seed g) 0 g.target)
        (subst (λ (j : ℕ). Indexed g.lengths j (field_meant (Draws.target_field g) ∷ B)) (from-target (fields-counted (Draws.root_seed g) 0 g.target)) (refl, fields-indexed (Draws.seed_after (3 * g.target) (Draws.root_seed g)) (g.target + 1) (g.fields - (g.target + 1)))))
      where
        F : List Field
        F = fields_meant (Draws.fields_from g (Draws.root_seed g) 0 g.target)

        B : List Field
        B = fields_meant (Draws.fields_from g (Draws.seed_after (3 * g.target) (Draws.root_seed g)) (g.target + 1) (g.fields - (g.target + 1)))

        fits : length F ≡ g.target → length B ≡ g.fields - (g.target + 1) → length (F ++ (field_meant (Draws.target_field g) ∷ B)) ≡ length F + suc (length B) → g.fields ≤ 17 → g.target < g.fields
            → 0 + length (F ++ (field_meant (Draws.target_field g) ∷ B)) ≤ 19
        fits a b c d e = omega arith

        from-target : length F ≡ g.target → g.target ≡ 0 + length F
        from-target e = omega arith

  -- the size of a scalar field
  pub scalar_size-drawn : (nm t : Text) → shape_size (released (plan_of g)) (field_meant (Draws.plain_field nm W.k·scalar t W.absent)) ≡ prim_size built_in (or_else (meant_text t) (bytes "u8"))
  unfolding shape_size size_as scalar_size kind_of kind_among words eqs field_meant text_of W.pool W.struct_names W.field_names W.kind_texts W.word_texts bytes released schema_with
  scalar_size-drawn nm t = refl

-- sizes of words -------------------------------------------------------------------------------------------------------------------------------------------

word_size : Text → ℕ
word_size t = prim_size built_in (or_else (meant_text t) (bytes "u8"))

other-size : (n : ℕ) → n < 4 → eqb (word_size (Draws.retyped_text n)) (word_size (Draws.scalar_text n)) ≡ false
unfolding word_size Draws.retyped_text Draws.scalar_text prim_size scalar_in find built_in or_else meant_text opt_text text_of W.pool W.struct_names W.field_names W.kind_texts W.word_texts bytes eqs
other-size = four (λ (n : ℕ). eqb (word_size (Draws.retyped_text n)) (word_size (Draws.scalar_text n)) ≡ false) refl refl refl refl

some_size : (n : ℕ) → n < 4 → ltb 0 (word_size (Draws.scalar_text n)) ≡ true
unfolding word_size Draws.scalar_text prim_size scalar_in find built_in or_else meant_text opt_text text_of W.pool W.struct_names W.field_names W.kind_texts W.word_texts bytes eqs
some_size = four (λ (n : ℕ). ltb 0 (word_size (Draws.scalar_text n)) ≡ true) refl refl refl refl

keyless-field : (f : FieldCommand) → (field_meant f).key ≡ None
unfolding field_meant
keyless-field f = refl

module _ (g : Setting) where
  real-scalar : is_padding (kind_of (field_meant (Draws.target_field g)).kind) ≡ false
  unfolding kind_of kind_among words eqs field_meant text_of W.pool W.struct_names W.field_names W.kind_texts W.word_texts bytes Draws.target_field
  real-scalar = refl

  same_name : (field_meant (Draws.retyped_field g)).name ≡ (field_meant (Draws.target_field g)).name
  unfolding field_meant Draws.retyped_field Draws.target_field
  same_name = refl

-- families: their layouts have other names than a structure, and no field twice ------------------------------------------------------------------------------

once_b : List Str → Bool
once_b [] = true
once_b (x ∷ xs) = not (any (λ (y : Str). eqs y x) xs) && once_b xs

once_b-is : (l : List Str) → once_b l ≡ true → NoDup l
unfolding once_b
once_b-is [] h = tt
once_b-is (x ∷ xs) h =
    let k = both (not (any (λ (y : Str). eqs y x) xs)) (once_b xs) h in
    (λ m. any_none (λ (y : Str). eqs y x) xs (not-true (any (λ (y : Str). eqs y x) xs) k.0) m (eqs-refl x), once_b-is xs k.1)

apart_b : Str → TypeLayout → Bool
apart_b n t = not (eqs t.name n) && once_b (map (λ (f : FieldLayout). f.name) t.fields)

module _ (g : Setting) (r : InRange g) where
  root-low : g.root < 8
  root-low = let a = r.root in let b = r.structs in omega arith

  starts : struct_spelt g.lengths g.root ≡ 115 ∷ struct_rest g.lengths g.root
  starts = struct-starts g.lengths r.lengths g.root root-low

  families-test : (x : Str) → all_of (apart_b (115 ∷ x)) (lay_families (released (plan_of g)) family_list) ≡ true
  unfolding all_of apart_b once_b any family_list lay_families lay_family lay_variant variant_name fam_prefix plain places place_of eqs bytes
  families-test x = refl

  apart : (t : TypeLayout) → Memᴰ t (lay_families (released (plan_of g)) family_list) → Apart (struct_spelt g.lengths g.root) t
  unfolding apart_b
  apart t m =
      let a = all-of (apart_b (115 ∷ struct_rest g.lengths g.root)) (lay_families (released (plan_of g)) family_list) (families-test (struct_rest g.lengths g.root)) m in
      let k = both (not (eqs t.name (115 ∷ struct_rest g.lengths g.root))) (once_b (map (λ (f : FieldLayout). f.name) t.fields)) a in
      record {
        named = ap (eqs t.name) starts ∙ not-true (eqs t.name (115 ∷ struct_rest g.lengths g.root)) k.0;
        once = once_b-is (map (λ (f : FieldLayout). f.name) t.fields) k.1;
      }

  apart-test : (x : Str) → all_of (λ (m : Family). all_of (λ (k : Str). not (eqs (115 ∷ x) k)) (layouts_of m)) family_list ≡ true
  unfolding all_of family_list layouts_of variant_names variant_name eqs bytes
  apart-test x = refl

  standing-is : (m : Family) → Memᴰ m family_list → check_standing family_list m.name m.standalone ≡ pass
  unfolding family_list check_standing family_in find on_found ensure eqs bytes
  standing-is m (Memᴰ.head e) = ap (λ (m : Family). check_standing family_list m.name m.standalone) e
  standing-is m (Memᴰ.tail (Memᴰ.head e)) = ap (λ (m : Family). check_standing family_list m.name m.standalone) e
  standing-is m (Memᴰ.tail (Memᴰ.tail n)) = absurd (Memᴰ.not-nil n)

  stands : (m : Family) → Memᴰ m family_list → Stands (plan_of g) m
  unfolding plan_of Draws.struct_name struct_spelt
  stands m i = record {
    standing = standing-is m i;
    apart = λ k j. ap (λ (x : Str). eqs x k) starts
        ∙ not-true (eqs (115 ∷ struct_rest g.lengths g.root) k)
        (all-of (λ (k : Str). not (eqs (115 ∷ struct_rest g.lengths g.root) k)) (layouts_of m)
        (all-of (λ (m : Family). all_of (λ (k : Str). not (eqs (115 ∷ struct_rest g.lengths g.root) k)) (layouts_of m)) family_list (apart-test (struct_rest g.lengths g.root)) i) j);
  }

  alone-test : (x : Str) → stands_alone family_list (115 ∷ x) ≡ false
  unfolding stands_alone any family_list eqs bytes
  alone-test x = refl

  -- a setting in range gives a feasible plan
  pub feasible : Feasible (plan_of g)
  unfolding plan_of generation_at constants_with constants_without generation_const now_spelt was_spelt Draws.struct_name struct_spelt Draws.front_fields Draws.back_fields
      Draws.before_structs Draws.after_structs Draws.target_field Draws.retyped_field Draws.inserted_field Draws.added_field Draws.field_name field_spelt word_size field_meant spare_at
  feasible = record {
    order = order-releases g.releases r.releases;
    dated = λ m n. dated-releases g.releases r.releases m n g.spare;
    dated-without = λ m n. dated-without-releases g.releases r.releases m n g.spare;
    constants-kept = λ ss m n h. kept-constants ss m n g.spare h;
    spare-gone = λ ss n. gone-constant ss n n g.spare;
    enums-kept = enums-pass;
    bits-kept = bits-pass;
    bits-dated = bits-dated-releases g.releases r.releases;
    families-stand = stands;
    families-apart = apart;
    none-alone = ap (stands_alone family_list) starts ∙ alone-test (struct_rest g.lengths g.root);
    small = (let a = r.generation in omega arith);
    in-slot = slot-known g.slot r.slot;
    no-colon = struct-colons g.lengths r.lengths g.root root-low;
    before-other = structs-other g r g.seed 0 g.root (let a = root-low in omega arith) (λ k a b e. omega arith);
    after-other = structs-other g r (Draws.seed_after (3 * (g.fields - 1)) (Draws.root_seed g)) (g.root + 1) (g.structs - (g.root + 1)) (let a = r.structs in let b = r.root in omega arith) (λ k a b e. omega arith);
    once = whole-once g r;
    front-keyless = fields-keyless g (Draws.front_fields g);
    back-keyless = fields-keyless g (Draws.back_fields g);
    target-keyless = keyless-field (Draws.target_field g);
    retyped-keyless = keyless-field (Draws.retyped_field g);
    inserted-keyless = keyless-field (Draws.inserted_field g);
    added-keyless = keyless-field (Draws.added_field g);
    target_real = real-scalar g;
    retyped-named = same_name g;
    retyped-sized = λ e. eqb-false (word_size (Draws.retyped_text g.word)) (word_size (Draws.scalar_text g.word)) (other-size g.word r.word)
        (sym (scalar_size-drawn g (Draws.field_name g g.target) (Draws.retyped_text g.word)) ∙ e ∙ scalar_size-drawn g (Draws.field_name g g.target) (Draws.scalar_text g.word));
    inserted-named = fields-apart g.lengths r.lengths 17 g.target (omega arith) (let a = r.target in let b = r.fields in omega arith) (λ e. (let a = r.target in let b = r.fields in omega arith));
    inserted-sized = subst (λ (n : ℕ). 0 < n) (sym (scalar_size-drawn g (Draws.field_name g 17) (Draws.scalar_text g.fresh))) (ltb-true 0 (word_size (Draws.scalar_text g.fresh)) (some_size g.fresh r.fresh));
  }

-- every seed gives a setting in range
pub in-range : (seed : ℕ) → InRange (Draws.setting_of seed)
unfolding Draws.setting_of Draws.draw
in-range seed = record {
  structs = (let a : Draws.seed_after 1 seed / 65536 % 8 < 8 = mod-lt (Draws.seed_after 1 seed / 65536) (lit< tt) in omega arith);
  fields = (let a : Draws.seed_after 2 seed / 65536 % 16 < 16 = mod-lt (Draws.seed_after 2 seed / 65536) (lit< tt) in omega arith);
  releases = mod-lt (Draws.seed_after 3 seed / 65536) (lit< tt);
  slot = mod-lt (Draws.seed_after 4 seed / 65536) (lit< tt);
  lengths = mod-lt (Draws.seed_after 5 seed / 65536) (lit< tt);
  generation = mod-lt (Draws.seed_after 6 seed / 65536) (lit< tt);
  spare = mod-lt (Draws.seed_after 7 seed / 65536) (lit< tt);
  root = mod-lt (Draws.seed_after 8 seed / 65536) (omega arith);
  target = mod-lt (Draws.seed_after 9 seed / 65536) (omega arith);
  word = mod-lt (Draws.seed_after 10 seed / 65536) (lit< tt);
  fresh = mod-lt (Draws.seed_after 11 seed / 65536) (lit< tt);
}

-- the outcome of every seed, over schemas
pub met : (seed : ℕ) (o : Outcome) → compare (current o (plan_of (Draws.setting_of seed))) (released (plan_of (Draws.setting_of seed))) ≡ wanted o (plan_of (Draws.setting_of seed))
met seed o = outcome-is (plan_of (Draws.setting_of seed)) (feasible (Draws.setting_of seed) (in-range seed)) o
