-- The sections that both records of a pair share pass beside themselves. Computed, for each pair of releases. Assumes nothing.
use Rattle.std.specs.Prelude.{Some, None}
use mathlib.Core.Path.{◌≡◌, refl, ◌∙◌, ap}
use mathlib.Core.List.{List, [], ◌∷◌, Memᴰ}
use mathlib.Core.Bool.{Bool, true, false, ◌||◌}
use Prim.Native.Nat.{ℕ, zero, suc, ◌<◌}
use native.Mathlib.Omega.{arith}
use Rattle.record.specs.Base.{Str, bytes, eqs, before, is_some, or_else, or_option, map_option, find, last_or, find_last}
use Rattle.record.specs.Stretch.{text_of}
use Rattle.record.specs.Schema
use Rattle.record.specs.Schema.{integer, Const, Struct}
use Rattle.record.specs.Steps.{enum_in, value_in, bitfield_in, member_in}
use Rattle.record.specs.Release.{onto_head, parts, digit, all_digits, is_decimal, all_decimal, is_release, number, as_u32, parsed_part, release_parts, earlier}
use Rattle.record.specs.Versioned.{slot_order}
use Rattle.record.proofs.Basics.{eqs-refl}
use Rattle.layout.specs.Sorted.{insert, insert_all, sorted}
use Rattle.definition.specs.Verdicts.{Verdict, pass, constant_gone}
use Rattle.definition.specs.Pass.{◌then◌, ensure, required, each, on_found, empty}
use Rattle.definition.specs.ReleaseOrder.{check_earlier, check_copy, check_release_order}
use Rattle.definition.specs.FirstReleases.{constant_release, api_enum, enum_release, value_release, key_release, check_arrival, check_constant_arrival, check_constant_arrivals, check_value_arrival, check_value_arrivals, check_enum_arrival, check_enum_arrivals, check_key_arrival, check_key_arrivals, check_first_releases}
use Rattle.definition.specs.Constants.{constant_text, last_constant, is_generation, check_constant, check_constants_in, check_constants}
use Rattle.definition.specs.Enums.{number_in, check_value, check_values, check_enum, check_enums}
use Rattle.definition.specs.Bitfields.{member_width, span_in, check_member, check_members, check_bitfield, check_bitfields}
use Rattle.definition.specs.BitfieldReleases.{bitfield_release, member_release, check_arrived, check_member_arrived, check_members_arrived, check_bitfield_arrived, check_bitfield_releases}
use Rattle.load.specs.Pool as W
use Rattle.load.specs.Draws.{now_text, was_text, slot_text}
use Rattle.load.specs.Generator.{spare_at, other_constants, enum_list, bitfield_list, unstored_list}

pub four : (P : ℕ → Type 0) → P 0 → P 1 → P 2 → P 3 → (n : ℕ) → n < 4 → P n
four P a b c d zero h = a
four P a b c d (suc zero) h = b
four P a b c d (suc (suc zero)) h = c
four P a b c d (suc (suc (suc zero))) h = d
four P a b c d (suc (suc (suc (suc n)))) h = absurd (omega arith)

unfoldable pub now_spelt : ℕ → Str
now_spelt e = text_of W.pool (now_text e)

unfoldable pub was_spelt : ℕ → Str
was_spelt e = text_of W.pool (was_text e)

unfoldable pub generation_const : ℕ → Const
generation_const n = record { name = bytes "GENERATION"; value = integer n; api = false; since = None }

OrderAt : ℕ → Type 0
OrderAt e = check_release_order (now_spelt e) (Some (was_spelt e)) ≡ pass

pub order-releases : (e : ℕ) → e < 4 → check_release_order (now_spelt e) (Some (was_spelt e)) ≡ pass
unfolding OrderAt now_spelt was_spelt now_text was_text text_of W.pool W.struct_names W.field_names W.kind_texts W.word_texts bytes
    check_release_order check_copy check_earlier ensure release_parts is_release parts onto_head all_decimal is_decimal all_digits digit eqs number as_u32 parsed_part earlier
order-releases = four OrderAt refl refl refl refl

-- the released and the current constants, with the spare one or without
DatedAt : ℕ → Type 0
DatedAt e =
    (m n v : ℕ) → check_first_releases (now_spelt e) (Some (was_spelt e)) (generation_const m ∷ spare_at v ∷ other_constants) (generation_const n ∷ spare_at v ∷ other_constants)
    enum_list enum_list unstored_list unstored_list ≡ pass

pub dated-releases : (e : ℕ) → e < 4 → (m n v : ℕ) → check_first_releases (now_spelt e) (Some (was_spelt e)) (generation_const m ∷ spare_at v ∷ other_constants) (generation_const n ∷ spare_at v ∷ other_constants)
    enum_list enum_list unstored_list unstored_list ≡ pass
unfolding DatedAt now_spelt was_spelt now_text was_text text_of W.pool W.struct_names W.field_names W.kind_texts W.word_texts bytes generation_const spare_at other_constants enum_list unstored_list
    check_first_releases check_constant_arrivals check_constant_arrival check_enum_arrivals check_enum_arrival check_value_arrivals check_value_arrival check_key_arrivals check_key_arrival check_arrival
    constant_release api_enum enum_release value_release key_release find_last last_or map_option or_option is_some required or_else value_in find ensure each on_found ◌then◌ eqs
dated-releases = four DatedAt (λ m n v. refl) (λ m n v. refl) (λ m n v. refl) (λ m n v. refl)

DatedWithoutAt : ℕ → Type 0
DatedWithoutAt e =
    (m n v : ℕ) → check_first_releases (now_spelt e) (Some (was_spelt e)) (generation_const m ∷ other_constants) (generation_const n ∷ spare_at v ∷ other_constants)
    enum_list enum_list unstored_list unstored_list ≡ pass

pub dated-without-releases : (e : ℕ) → e < 4 → (m n v : ℕ) → check_first_releases (now_spelt e) (Some (was_spelt e)) (generation_const m ∷ other_constants) (generation_const n ∷ spare_at v ∷ other_constants)
    enum_list enum_list unstored_list unstored_list ≡ pass
unfolding DatedWithoutAt now_spelt was_spelt now_text was_text text_of W.pool W.struct_names W.field_names W.kind_texts W.word_texts bytes generation_const spare_at other_constants enum_list unstored_list
    check_first_releases check_constant_arrivals check_constant_arrival check_enum_arrivals check_enum_arrival check_value_arrivals check_value_arrival check_key_arrivals check_key_arrival check_arrival
    constant_release api_enum enum_release value_release key_release find_last last_or map_option or_option is_some required or_else value_in find ensure each on_found ◌then◌ eqs
dated-without-releases = four DatedWithoutAt (λ m n v. refl) (λ m n v. refl) (λ m n v. refl) (λ m n v. refl)

pub enums-pass : check_enums enum_list enum_list ≡ pass
unfolding enum_list check_enums check_enum check_values check_value number_in enum_in value_in find ensure each on_found ◌then◌ eqs bytes empty
enums-pass = refl

pub bits-pass : check_bitfields bitfield_list bitfield_list ≡ pass
unfolding bitfield_list check_bitfields check_bitfield check_members check_member span_in member_width bitfield_in member_in find ensure each on_found ◌then◌ eqs bytes or_else
bits-pass = refl

BitsDatedAt : ℕ → Type 0
BitsDatedAt e = check_bitfield_releases (now_spelt e) bitfield_list bitfield_list ≡ pass

pub bits-dated-releases : (e : ℕ) → e < 4 → check_bitfield_releases (now_spelt e) bitfield_list bitfield_list ≡ pass
unfolding BitsDatedAt now_spelt now_text text_of W.pool W.struct_names W.field_names W.kind_texts W.word_texts bytes bitfield_list check_bitfield_releases check_bitfield_arrived check_members_arrived
    check_member_arrived check_arrived member_release bitfield_release bitfield_in member_in find map_option or_option or_else required ensure each ◌then◌ eqs
bits-dated-releases = four BitsDatedAt refl refl refl refl

-- constants ------------------------------------------------------------------------------------------------------------------------------------------

same-value : (b : Bool) (t : Str) (v : Verdict) → ensure (b || eqs t t) v ≡ pass
unfolding ensure
same-value true t v = refl
same-value false t v = rw (eqs-refl t)

four-pass : (a b c d : Verdict) → a ≡ pass → b ≡ pass → c ≡ pass → d ≡ pass → (a then (b then (c then (d then pass)))) ≡ pass
unfolding ◌then◌
four-pass a b c d p q r s = rw (p, q, r, s)

third : (a b c d : Verdict) → a ≡ pass → b ≡ pass → (a then (b then (c then d))) ≡ (c then d)
unfolding ◌then◌
third a b c d p q = rw (p, q)

abbrev plugin : Const
plugin = record { name = bytes "PLUGIN_API"; value = integer 4; api = true; since = None }

abbrev vendor : Const
vendor = record { name = bytes "VENDOR"; value = Schema.words (bytes "menqachu"); api = false; since = None }

in_order : (n v : ℕ) → sorted (λ (c : Const). c.name) (generation_const n ∷ spare_at v ∷ other_constants) ≡ generation_const n ∷ plugin ∷ spare_at v ∷ vendor ∷ []
unfolding generation_const spare_at other_constants sorted insert_all insert before eqs bytes
in_order n v = refl

-- a constant that is found, with a value that is the same
module _ (ss : List Struct) (cs : List Const) (c d : Const) (found : last_constant c.name cs ≡ Some d) where
  stays : constant_text d.value ≡ constant_text c.value → check_constant ss cs c ≡ pass
  unfolding check_constant on_found
  stays e = rw (found, e) (same-value (is_generation ss cs c.name) (constant_text c.value) _)

  rises : is_generation ss cs c.name ≡ true → check_constant ss cs c ≡ pass
  unfolding check_constant on_found ensure
  rises e = rw (found, e)

module _ (ss : List Struct) (m n v : ℕ) where
  abbrev pub is : List Const
  is = generation_const m ∷ spare_at v ∷ other_constants

  abbrev pub was : List Const
  was = generation_const n ∷ spare_at v ∷ other_constants

  pub kept-constants : is_generation ss is (bytes "GENERATION") ≡ true → check_constants ss is was ≡ pass
  unfolding generation_const spare_at other_constants check_constants check_constants_in last_constant eqs find_last last_or each bytes
  kept-constants h =
      ap (each (check_constant ss is)) (in_order n v)
      ∙ four-pass (check_constant ss is (generation_const n)) (check_constant ss is plugin) (check_constant ss is (spare_at v)) (check_constant ss is vendor)
      (rises ss is (generation_const n) (generation_const m) refl h) (stays ss is plugin plugin refl refl) (stays ss is (spare_at v) (spare_at v) refl refl) (stays ss is vendor vendor refl refl)

  abbrev pub less : List Const
  less = generation_const n ∷ other_constants

  missing : check_constant ss less (spare_at v) ≡ constant_gone (bytes "TILE_LIMIT")
  unfolding generation_const spare_at other_constants check_constant on_found last_constant eqs find_last last_or bytes
  missing = refl

  pub gone-constant : check_constants ss less was ≡ constant_gone (bytes "TILE_LIMIT")
  unfolding generation_const spare_at other_constants check_constants check_constants_in last_constant eqs find_last last_or each bytes constant_gone ◌then◌
  gone-constant =
      ap (each (check_constant ss less)) (in_order n v)
      ∙ third (check_constant ss less (generation_const n)) (check_constant ss less plugin) (check_constant ss less (spare_at v)) (each (check_constant ss less) (vendor ∷ []))
      (stays ss less (generation_const n) (generation_const n) refl refl) (stays ss less plugin plugin refl refl)
      ∙ ap (λ (w : Verdict). w then each (check_constant ss less) (vendor ∷ [])) missing

SlotAt : ℕ → Type 0
SlotAt n = Memᴰ (text_of W.pool (slot_text n)) slot_order

pub slot-known : (n : ℕ) → n < 3 → Memᴰ (text_of W.pool (slot_text n)) slot_order
unfolding SlotAt slot_text slot_order text_of W.pool W.struct_names W.field_names W.kind_texts W.word_texts bytes
slot-known n h = four SlotAt (Memᴰ.tail (Memᴰ.head refl)) (Memᴰ.tail (Memᴰ.tail (Memᴰ.head refl))) (Memᴰ.head refl) (Memᴰ.head refl) n (omega arith)
