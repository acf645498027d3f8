-- The schema of a stream whose sections stand in another order is the stream's, its lists permuted. Assumes nothing.
use mathlib.Core.Path.{◌≡◌, refl, sym, ◌∙◌, ap}
use mathlib.Core.List.{List, [], ◌∷◌, flatten, flat_map, Forall₂, Permᴰ}
use mathlib.Core.Bool.{true, false}
use Prim.Native.Nat.{ℕ}
use lib.Dec.{eqb}
use Rattle.record.specs.Base.{Str, first}
use Rattle.record.specs.Scalars.{Scalar}
use Rattle.record.specs.Lists.{head_of, anything}
use Rattle.record.specs.Commands.{head_at}
use Rattle.record.specs.Reading.{release_of, unreleased_of}
use Rattle.definition.specs.Pass.{all_of}
use Rattle.definition.specs.Sections.{number, is_command, is_section, Part, value, member, variant, section_number, part_number, field_numbers, PartsMoved, Shuffled}
use Rattle.definition.proofs.Lists.{perm-eq, perm-by, shuffled-flat_map, shuffled-over, shuffled-by}
use Rattle.definition.proofs.PermutedSchemas.{Permuted}
use Rattle.definition.proofs.CommandStreams.{is_number, listed_in, the_heads, the_constants, the_aliases, the_enums, the_bitfields, the_structs, the_families, the_unstored, the_versions, the_schema}
use Rattle.definition.proofs.SectionLists.{Without, each_part, own_numbers, listed-hit, listed-skip, moved-equal, moved-enums, moved-bitfields, moved-families, moved-opened, Splits, by-section, opened-split, the_opened, constants-split, aliases-split, enums-split, bitfields-split, structs-split, families-split, unstored-split, versions-split}

-- the numbers of a section with parts are none of a list that no part is in
in-no-part : (b : ℕ) → Without b (own_numbers value) → Without b (own_numbers member) → Without b (own_numbers variant) → (k : Part)
    → Without b (own_numbers k)
in-no-part b = each_part (λ (k : Part). Without b (own_numbers k))

module _ (p : Str) (head : Str) (is-head : is_command (1 ∷ []) head ≡ true) where
  skip : (b : ℕ) → eqb 1 b ≡ false → eqb (number head) b ≡ false
  skip b h = ap (λ (n : ℕ). eqb n b) (is_number 1 head is-head) ∙ h

  head-alone : (xs : List Str) → first (the_heads p (head ∷ xs)) ≡ first (head_of p (head_at head) ∷ [])
  unfolding the_heads first
  head-alone xs = ap first (listed-hit anything 1 (λ x rest. head_of p (head_at x)) head xs (is_number 1 head is-head))

  -- a list of the stream is its sections' lists, one after the other
  all_listed : {A : Type 0} (b : ℕ) (g : Str → List Str → A) → eqb 1 b ≡ false → Splits p (listed_in anything b g) → (secs : List (List Str))
      → all_of is_section secs ≡ true → listed_in anything b g (head ∷ flatten secs) ≡ flat_map (listed_in anything b g) secs
  unfolding listed_in
  all_listed b g h split secs are-secs = listed-skip b g head (flatten secs) (skip b h) ∙ by-section p (listed_in anything b g) refl split secs are-secs

  module _ (secs : List (List Str)) (are-secs : all_of is_section secs ≡ true) where
    all-opened : the_opened p (head ∷ flatten secs) ≡ flat_map (the_opened p) secs
    unfolding the_opened
    all-opened = past ∙ by-section p (the_opened p) refl (opened-split p) secs are-secs
      where
        past : the_opened p (head ∷ flatten secs) ≡ the_opened p (flatten secs)
        past = rw (skip 9 refl, skip 8 refl, skip 10 refl)

  module _ (secs others : List (List Str)) (are-secs : all_of is_section secs ≡ true) (are-others : all_of is_section others ≡ true) (s : Shuffled PartsMoved secs others) where
    pub opened-perm : Permᴰ (the_opened p (head ∷ flatten secs)) (the_opened p (head ∷ flatten others))
    opened-perm = perm-by (all-opened secs are-secs) (all-opened others are-others) (shuffled-flat_map (the_opened p) (the_opened p) (moved-opened p) s)

    -- a list that no part is in is permuted
    equal-perm : {A : Type 0} (b : ℕ) (g : Str → List Str → A) → eqb 1 b ≡ false → Splits p (listed_in anything b g) → ((k : Part) → Without b (own_numbers k))
        → Permᴰ (listed_in anything b g (head ∷ flatten secs)) (listed_in anything b g (head ∷ flatten others))
    equal-perm b g h split none =
        perm-by (all_listed b g h split secs are-secs) (all_listed b g h split others are-others)
        (shuffled-flat_map (listed_in anything b g) (listed_in anything b g) (λ x y m. perm-eq (moved-equal b g none x y m)) s)

    -- the elements of any other are related, and in some order
    related-shuffled : {A : Type 0} {R : A → A → Type 0} (b : ℕ) (g : Str → List Str → A) → eqb 1 b ≡ false → Splits p (listed_in anything b g)
        → ((x y : List Str) → PartsMoved x y → Forall₂ R (listed_in anything b g x) (listed_in anything b g y))
        → Shuffled R (listed_in anything b g (head ∷ flatten secs)) (listed_in anything b g (head ∷ flatten others))
    related-shuffled b g h split moved =
        shuffled-by (all_listed b g h split secs are-secs) (all_listed b g h split others are-others) (shuffled-over (listed_in anything b g) moved s)

    pub schema-permuted : (w : List Scalar) → Permuted (the_schema p w (head ∷ flatten secs)) (the_schema p w (head ∷ flatten others))
    unfolding the_schema the_constants the_aliases the_enums the_bitfields the_structs the_families the_unstored the_versions
        all_of own_numbers section_number part_number field_numbers
    schema-permuted w = record {
      scalars = refl;
      release = ap release_of (head-alone (flatten secs) ∙ sym (head-alone (flatten others)));
      unreleased = ap unreleased_of (head-alone (flatten secs) ∙ sym (head-alone (flatten others)));
      constants = equal-perm 2 _ refl (constants-split p) (in-no-part 2 refl refl refl);
      aliases = equal-perm 3 _ refl (aliases-split p) (in-no-part 3 refl refl refl);
      enums = related-shuffled 4 _ refl (enums-split p) (moved-enums p);
      bitfields = related-shuffled 6 _ refl (bitfields-split p) (moved-bitfields p);
      structs = equal-perm 8 _ refl (structs-split p) (in-no-part 8 refl refl refl);
      families = related-shuffled 9 _ refl (families-split p) (moved-families p);
      unstored = equal-perm 13 _ refl (unstored-split p) (in-no-part 13 refl refl refl);
      versions = equal-perm 14 _ refl (versions-split p) (in-no-part 14 refl refl refl);
    }
