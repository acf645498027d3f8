-- A stream of whole commands: the places of its commands, and its lists read off the commands themselves, wherever they stand. Assumes nothing.
use Rattle.std.specs.Prelude.{Some, None}
use mathlib.Core.Path.{◌≡◌, refl, sym, ◌∙◌, ap, ap₂, subst}
use mathlib.Core.List.Memᴰ
use mathlib.Core.List.{List, [], ◌∷◌, ◌++◌, flatten, Memᴰ}
use mathlib.Core.Bool.{Bool, true, false, ◌||◌, not, cond, false≢true, or-false}
use Prim.Native.Nat.{ℕ, zero, suc, ◌+◌, ◌-◌, ◌≤◌, ◌<◌}
use native.Mathlib.Omega.{arith}
use lib.Dec.{eqb, leb}
use lib.ListN.{length, get_or, drop, length-append, length-drop, get_or-append}
use lib.Seq.{drop-append_seam, drop-drop, get_or-drop}
use borrow.Author.Tests.{eqb-true, ne_eqb, eq-eqb, lt-ltb, le-ltb, leb-true, not-true}
use Rattle.record.specs.Base.{Str, any, first, bytes}
use Rattle.record.specs.Le.{u16_at, u32_at, u64_at}
use Rattle.record.specs.Operands.{text_at, opt_text, opt_text_at, opt_number_at, flag_at}
use Rattle.record.specs.Scalars.{Scalar}
use Rattle.record.specs.Schema.{Schema, Heading, Const, Alias, Enum, EnumValue, BitField, Member, Key, Field, Struct, Variant, Family, Version}
use Rattle.record.specs.Commands.{operands, wide, widths, width_with, width_of, command_of, place, step_at, commands_at, head_at, constant_at, alias_at, enum_at, value_at, bitfield_at, member_at, struct_at, family_at, variant_at, field_at, key_at, version_at}
use Rattle.record.specs.Lists.{head_of, constant_of, alias_of, enum_of, value_of, bitfield_of, member_of, struct_of, family_of, variant_of, field_of, key_of, version_of, listed, anything, nothing, a_key, a_field, heads, constants, aliases, values, enums, members, bitfields, keys, fields, structs, variants, families, unstored, versions}
use Rattle.record.specs.Reading.{rec, release_of, unreleased_of, schema_from}
use Rattle.record.proofs.Basics.{both, any_some}
use Rattle.record.proofs.Stream.{commands-stop, commands-next}
use Rattle.definition.specs.Pass.{all_of}
use Rattle.definition.specs.Sections.{number, stream_of, is_command, are_commands, openers, insiders, is_section}
use Rattle.definition.proofs.Lists.{all-of, mem-flatten}

-- numbers -------------------------------------------------------------------------------------------------------------------------

-- what holds of each of these numbers holds of a number that is one of them
pub one_of : (t : ℕ → Bool) (l : List ℕ) → all_of t l ≡ true → (b : ℕ) → any (eqb b) l ≡ true → t b ≡ true
one_of t l h b e = let w = any_some (eqb b) l e in ap t (eqb-true b w.0 w.2) ∙ all-of t l h w.1

-- a proof for each of these numbers, where no test says it
pub data EachNumber (P : ℕ → Type 0) : List ℕ → Type 0 where
  no_number : EachNumber P []
  and_one : {b : ℕ} {bs : List ℕ} → P b → EachNumber P bs → EachNumber P (b ∷ bs)

pub each-one : (P : ℕ → Type 0) (l : List ℕ) → EachNumber P l → (b : ℕ) → any (eqb b) l ≡ true → P b
unfolding any
each-one P l no_number b e = absurd (false≢true e)
each-one P l (and_one {b = k} {bs = ks} p ps) b e = go (eqb b k) refl e (each-one P ks ps b)
  where
    go : (t : Bool) → eqb b k ≡ t → (t || any (eqb b) ks) ≡ true → (any (eqb b) ks ≡ true → P b) → P b
    go true q f r = subst P (sym (eqb-true b k q)) p
    go false q f r = r f

-- a number of a list of one is that one
pub only : (b k : ℕ) → any (eqb k) (b ∷ []) ≡ true → k ≡ b
unfolding any
only b k h = eqb-true k b (sym (or-false (eqb k b)) ∙ h)

-- a command that is one of these has one of their numbers
pub its-number : (l : List ℕ) (x : Str) → is_command l x ≡ true → any (eqb (number x)) l ≡ true
unfolding is_command
its-number l x h = (both (eqb (length x) (width_of (number x))) _ h).1

pub is_number : (b : ℕ) (x : Str) → is_command (b ∷ []) x ≡ true → number x ≡ b
is_number b x h = only b (number x) (its-number (b ∷ []) x h)

-- the numbers of commands but the end's
unfoldable pub command_numbers : List ℕ
command_numbers = 1 ∷ 2 ∷ 3 ∷ 4 ∷ 5 ∷ 6 ∷ 7 ∷ 8 ∷ 9 ∷ 10 ∷ 11 ∷ 12 ∷ 13 ∷ 14 ∷ []

-- a command that is no end, as long as its number says
pub record Whole (x : Str) : Type 0 where
  pub wide : length x ≡ width_of (number x)
  pub known : any (eqb (number x)) command_numbers ≡ true

pub whole : (l : List ℕ) (x : Str) → all_of (λ (b : ℕ). any (eqb b) command_numbers) l ≡ true → is_command l x ≡ true → Whole x
unfolding is_command
whole l x g h =
    let k = both (eqb (length x) (width_of (number x))) _ h in
    record { wide = eqb-true (length x) (width_of (number x)) k.0; known = one_of (λ (b : ℕ). any (eqb b) command_numbers) l g (number x) k.1 }

module _ {x : Str} (c : Whole x) where
  pub some_bytes : 1 ≤ length x
  unfolding command_numbers all_of width_of width_with widths wide operands bytes
  some_bytes =
      let h = leb-true 1 (width_of (number x)) (one_of (λ (b : ℕ). leb 1 (width_of b)) command_numbers refl (number x) c.known) in
      let w = c.wide in
      omega arith

  pub no_end : number x ≡ 15 → ⊥
  unfolding command_numbers all_of
  no_end e = false≢true (sym (ap not (eq-eqb (number x) 15 e)) ∙ one_of (λ (b : ℕ). not (eqb b 15)) command_numbers refl (number x) c.known)

  pub not-zero : eqb (number x) 0 ≡ false
  unfolding command_numbers all_of
  not-zero = not-true (eqb (number x) 0) (one_of (λ (b : ℕ). not (eqb b 0)) command_numbers refl (number x) c.known)

abbrev pub AllWhole : List Str → Type 0
AllWhole xs = (x : Str) → Memᴰ x xs → Whole x

pub section-whole : (s : List Str) → is_section s ≡ true → AllWhole s
unfolding is_section are_commands openers insiders command_numbers all_of any
section-whole [] h x m = absurd (Memᴰ.not-nil m)
section-whole (y ∷ ys) h x (Memᴰ.head e) = subst Whole (sym e) (whole openers y refl (both (is_command openers y) _ h).0)
section-whole (y ∷ ys) h x (Memᴰ.tail m) = whole insiders x refl (all-of (is_command insiders) ys (both (is_command openers y) _ h).1 m)

pub stream-whole : (head : Str) (secs : List (List Str)) → is_command (1 ∷ []) head ≡ true → all_of is_section secs ≡ true → AllWhole (head ∷ flatten secs)
unfolding all_of command_numbers any
stream-whole head secs i j x (Memᴰ.head e) = subst Whole (sym e) (whole (1 ∷ []) head refl i)
stream-whole head secs i j x (Memᴰ.tail m) = let w = mem-flatten secs m in section-whole w.0 (all-of is_section secs j w.1) x w.2

-- places --------------------------------------------------------------------------------------------------------------------------

unfoldable pub command_places : ℕ → List Str → List ℕ
command_places at [] = []
command_places at (x ∷ xs) = at ∷ command_places (at + length x) xs

-- from this place on the stream is these commands and the end
abbrev pub CommandsFrom : Str → ℕ → List Str → Type 0
CommandsFrom s at xs = drop at s ≡ stream_of xs

module _ (s : Str) (at : ℕ) (x : Str) (xs : List Str) (h : CommandsFrom s at (x ∷ xs)) (c : Whole x) where
  byte-here : (i : ℕ) → i < length x → get_or (drop at s) i 0 ≡ get_or x i 0
  unfolding stream_of
  byte-here i p = ap (λ (l : Str). get_or l i 0) h ∙ get_or-append x (stream_of xs) 0 i p

  pub number-here : get_or s at 0 ≡ number x
  number-here =
      let e : at + 0 ≡ at = omega arith in
      sym (ap (λ (i : ℕ). get_or s i 0) e) ∙ sym (get_or-drop at s 0 0) ∙ byte-here 0 (some_bytes c)

  pub next_here : CommandsFrom s (at + length x) xs
  unfolding stream_of
  next_here = sym (drop-drop (length x) at s) ∙ ap (drop (length x)) h ∙ drop-append_seam x (stream_of xs)

  pub length-here : length s - at ≡ length x + length (stream_of xs)
  unfolding stream_of
  length-here = sym (length-drop at s) ∙ ap (λ (l : Str). length l) h ∙ length-append x (stream_of xs)

  step-here : step_at s at ≡ Some (command_of (number x) (drop at s), place (at + length x))
  unfolding step_at
  step-here =
      let l = length-here in
      let w = c.wide in
      let y = some_bytes c in
      let z : width_of (number x) ≡ 0 → ⊥ = λ q. omega arith in
      rw (
        number-here,
        lt-ltb at (length s) (omega arith),
        ne_eqb (number x) 15 (no_end c),
        ne_eqb (width_of (number x)) 0 z,
        le-ltb (length s - at) (width_of (number x)) (omega arith),
        ← w,
      )

-- at the end
step_end : (s : Str) (at : ℕ) → CommandsFrom s at [] → step_at s at ≡ None
unfolding step_at stream_of
step_end s at h =
    let l : length s - at ≡ 1 = sym (length-drop at s) ∙ ap (λ (y : Str). length y) h in
    let e : at + 0 ≡ at = omega arith in
    let b : get_or s at 0 ≡ 15 = sym (ap (λ (i : ℕ). get_or s i 0) e) ∙ sym (get_or-drop at s 0 0) ∙ ap (λ (y : Str). get_or y 0 0) h in
    rw (lt-ltb at (length s) (omega arith), b)

pub commands-run : (s : Str) (at : ℕ) (xs : List Str) → CommandsFrom s at xs → AllWhole xs → commands_at s at ≡ command_places at xs
unfolding command_places
commands-run s at [] h c = commands-stop s at (step_end s at h)
commands-run s at (x ∷ xs) h c =
    let y = c x (Memᴰ.head refl) in
    commands-next s at (command_of (number x) (drop at s)) (place (at + length x)) (step-here s at x xs h y)
    ∙ ap (λ (l : List ℕ). at ∷ l) (commands-run s (at + length x) xs (next_here s at x xs h y) (λ z m. c z (Memᴰ.tail m)))

-- lists ---------------------------------------------------------------------------------------------------------------------------

-- `listed` of record/specs/Lists over the commands themselves
unfoldable pub listed_in : {A : Type 0} → (ℕ → Bool) → ℕ → (Str → List Str → A) → List Str → List A
listed_in over b g [] = []
listed_in over b g (x ∷ xs) = cond (eqb (number x) b) (g x xs ∷ listed_in over b g xs) (cond (over (number x)) (listed_in over b g xs) [])

module _ {A : Type 0} (s : Str) (over : ℕ → Bool) (b : ℕ) (f : ℕ → List ℕ → A) (g : Str → List Str → A)
    (same : (at : ℕ) (x : Str) (xs : List Str) → CommandsFrom s at (x ∷ xs) → Whole x → AllWhole xs
    → number x ≡ b → f at (command_places (at + length x) xs) ≡ g x xs) where
  listed-run : (at : ℕ) (xs : List Str) → CommandsFrom s at xs → AllWhole xs → listed s over b f (command_places at xs) ≡ listed_in over b g xs
  unfolding listed listed_in command_places
  listed-run at [] h c = refl
  listed-run at (x ∷ xs) h c =
      ap (λ (k : ℕ). cond (eqb k b) (f at ps ∷ listed s over b f ps) (cond (over k) (listed s over b f ps) [])) (number-here s at x xs h y)
      ∙ hit (eqb (number x) b) refl (listed-run (at + length x) xs (next_here s at x xs h y) (λ z m. c z (Memᴰ.tail m)))
    where
      y : Whole x
      y = c x (Memᴰ.head refl)

      ps : List ℕ
      ps = command_places (at + length x) xs

      hit : (t : Bool) → eqb (number x) b ≡ t → listed s over b f ps ≡ listed_in over b g xs
          → cond t (f at ps ∷ listed s over b f ps) (cond (over (number x)) (listed s over b f ps) [])
          ≡ cond t (g x xs ∷ listed_in over b g xs) (cond (over (number x)) (listed_in over b g xs) [])
      hit true q r = ap₂ ◌∷◌ (same at x xs h y (λ z m. c z (Memᴰ.tail m)) (eqb-true (number x) b q)) r
      hit false q r = ap (λ (l : List A). cond (over (number x)) l []) r

-- the lists of a record, over its commands and its pool
module _ (p : Str) where
  unfoldable pub the_heads : List Str → List Heading
  the_heads = listed_in anything 1 (λ x rest. head_of p (head_at x))

  unfoldable pub the_constants : List Str → List Const
  the_constants = listed_in anything 2 (λ x rest. constant_of p (constant_at x))

  unfoldable pub the_aliases : List Str → List Alias
  the_aliases = listed_in anything 3 (λ x rest. alias_of p (alias_at x))

  unfoldable pub the_values : List Str → List EnumValue
  the_values = listed_in nothing 5 (λ x rest. value_of p (value_at x))

  unfoldable pub the_enums : List Str → List Enum
  the_enums = listed_in anything 4 (λ x rest. enum_of p (enum_at x) (the_values rest))

  unfoldable pub the_members : List Str → List Member
  the_members = listed_in nothing 7 (λ x rest. member_of p (member_at x))

  unfoldable pub the_bitfields : List Str → List BitField
  the_bitfields = listed_in anything 6 (λ x rest. bitfield_of p (bitfield_at x) (the_members rest))

  unfoldable pub the_keys : List Str → List Key
  the_keys = listed_in nothing 12 (λ x rest. key_of p (key_at x))

  unfoldable pub the_fields : List Str → List Field
  the_fields = listed_in a_key 11 (λ x rest. field_of p (field_at x) (first (the_keys rest)))

  unfoldable pub the_structs : List Str → List Struct
  the_structs = listed_in anything 8 (λ x rest. struct_of p (struct_at x) (the_fields rest))

  unfoldable pub the_variants : List Str → List Variant
  the_variants = listed_in a_field 10 (λ x rest. variant_of p (variant_at x) (the_fields rest))

  unfoldable pub the_families : List Str → List Family
  the_families = listed_in anything 9 (λ x rest. family_of p (family_at x) (the_fields rest) (the_variants rest))

  unfoldable pub the_unstored : List Str → List Key
  the_unstored = listed_in anything 13 (λ x rest. key_of p (key_at x))

  unfoldable pub the_versions : List Str → List Version
  the_versions = listed_in anything 14 (λ x rest. version_of p (version_at x))

  unfoldable pub the_schema : List Scalar → List Str → Schema
  the_schema w xs = record {
    scalars = w;
    release = release_of (first (the_heads xs));
    unreleased = unreleased_of (first (the_heads xs));
    constants = the_constants xs;
    aliases = the_aliases xs;
    enums = the_enums xs;
    bitfields = the_bitfields xs;
    structs = the_structs xs;
    families = the_families xs;
    unstored = the_unstored xs;
    versions = the_versions xs;
  }

-- one command ---------------------------------------------------------------------------------------------------------------------

-- so many bytes, one after the other
unfoldable pub cells : ℕ → (ℕ → ℕ) → Str
cells zero f = []
cells (suc w) f = f 0 ∷ cells w (λ i. f (suc i))

cells_of : (w : ℕ) (x : Str) → length x ≡ w → cells w (λ i. get_or x i 0) ≡ x
unfolding cells
cells_of zero [] e = refl
cells_of zero (b ∷ x) e = absurd (omega arith)
cells_of (suc w) [] e = absurd (omega arith)
cells_of (suc w) (b ∷ x) e = ap (λ (l : Str). b ∷ l) (cells_of w x (omega arith))

-- what is read of a command is read of its own bytes, whatever stands behind it
module _ {C : Type 0} (b w : ℕ) (is-wide : width_of b ≡ w) (reads : Str → C) (own : (f : ℕ → ℕ) (t : Str) → reads (cells w f ++ t) ≡ reads (cells w f)) where
  pub own-bytes : (s : Str) (at : ℕ) (x : Str) (xs : List Str) → CommandsFrom s at (x ∷ xs) → Whole x → number x ≡ b → reads (drop at s) ≡ reads x
  unfolding stream_of
  own-bytes s at x xs h c e =
      let l : length x ≡ w = c.wide ∙ ap width_of e ∙ is-wide in
      let spelled = cells_of w x l in
      ap reads h ∙ sym (ap (λ (y : Str). reads (y ++ stream_of xs)) spelled) ∙ own (λ i. get_or x i 0) (stream_of xs) ∙ ap reads spelled

module _ (s p : Str) where
  -- a list read off the places of commands, and off the commands
  abbrev Agree : {A : Type 0} → (List ℕ → List A) → (List Str → List A) → Type 0
  Agree f g = (at : ℕ) (xs : List Str) → CommandsFrom s at xs → AllWhole xs → f (command_places at xs) ≡ g xs

  -- and of what stands behind a command
  after-command : {A : Type 0} (f : List ℕ → List A) (g : List Str → List A) → Agree f g → (at : ℕ) (x : Str) (xs : List Str)
      → CommandsFrom s at (x ∷ xs) → Whole x → AllWhole xs
      → f (command_places (at + length x) xs) ≡ g xs
  after-command f g same at x xs h c r = same (at + length x) xs (next_here s at x xs h c) r

  heads-agree : Agree (heads s p) (the_heads p)
  unfolding heads the_heads cells text_at opt_text opt_text_at flag_at opt_number_at u16_at u32_at u64_at width_of width_with widths wide operands bytes
  heads-agree = listed-run s anything 1 _ _ (λ at x xs h c r e. ap (head_of p) (own-bytes 1 5 refl head_at (λ f t. refl) s at x xs h c e))

  constants-agree : Agree (constants s p) (the_constants p)
  unfolding constants the_constants cells text_at opt_text opt_text_at flag_at opt_number_at u16_at u32_at u64_at width_of width_with widths wide operands bytes
  constants-agree = listed-run s anything 2 _ _ (λ at x xs h c r e. ap (constant_of p) (own-bytes 2 20 refl constant_at (λ f t. refl) s at x xs h c e))

  aliases-agree : Agree (aliases s p) (the_aliases p)
  unfolding aliases the_aliases cells text_at opt_text opt_text_at flag_at opt_number_at u16_at u32_at u64_at width_of width_with widths wide operands bytes
  aliases-agree = listed-run s anything 3 _ _ (λ at x xs h c r e. ap (alias_of p) (own-bytes 3 7 refl alias_at (λ f t. refl) s at x xs h c e))

  values_agree : Agree (values s p) (the_values p)
  unfolding values the_values cells text_at opt_text opt_text_at flag_at opt_number_at u16_at u32_at u64_at width_of width_with widths wide operands bytes
  values_agree = listed-run s nothing 5 _ _ (λ at x xs h c r e. ap (value_of p) (own-bytes 5 15 refl value_at (λ f t. refl) s at x xs h c e))

  members-agree : Agree (members s p) (the_members p)
  unfolding members the_members cells text_at opt_text opt_text_at flag_at opt_number_at u16_at u32_at u64_at width_of width_with widths wide operands bytes
  members-agree = listed-run s nothing 7 _ _ (λ at x xs h c r e. ap (member_of p) (own-bytes 7 16 refl member_at (λ f t. refl) s at x xs h c e))

  keys-agree : Agree (keys s p) (the_keys p)
  unfolding keys the_keys cells text_at opt_text opt_text_at flag_at opt_number_at u16_at u32_at u64_at width_of width_with widths wide operands bytes
  keys-agree = listed-run s nothing 12 _ _ (λ at x xs h c r e. ap (key_of p) (own-bytes 12 7 refl key_at (λ f t. refl) s at x xs h c e))

  unstored-agree : Agree (unstored s p) (the_unstored p)
  unfolding unstored the_unstored cells text_at opt_text opt_text_at flag_at opt_number_at u16_at u32_at u64_at width_of width_with widths wide operands bytes
  unstored-agree = listed-run s anything 13 _ _ (λ at x xs h c r e. ap (key_of p) (own-bytes 13 7 refl key_at (λ f t. refl) s at x xs h c e))

  versions-agree : Agree (versions s p) (the_versions p)
  unfolding versions the_versions cells text_at opt_text opt_text_at flag_at opt_number_at u16_at u32_at u64_at width_of width_with widths wide operands bytes
  versions-agree = listed-run s anything 14 _ _ (λ at x xs h c r e. ap (version_of p) (own-bytes 14 8 refl version_at (λ f t. refl) s at x xs h c e))

  enums-agree : Agree (enums s p) (the_enums p)
  unfolding enums the_enums cells text_at opt_text opt_text_at flag_at opt_number_at u16_at u32_at u64_at width_of width_with widths wide operands bytes
  enums-agree = listed-run s anything 4 _ _ (λ at x xs h c r e.
      λ i. enum_of p (own-bytes 4 12 refl enum_at (λ f t. refl) s at x xs h c e i) (after-command (values s p) (the_values p) values_agree at x xs h c r i))

  bitfields-agree : Agree (bitfields s p) (the_bitfields p)
  unfolding bitfields the_bitfields cells text_at opt_text opt_text_at flag_at opt_number_at u16_at u32_at u64_at width_of width_with widths wide operands bytes
  bitfields-agree = listed-run s anything 6 _ _ (λ at x xs h c r e.
      λ i. bitfield_of p (own-bytes 6 11 refl bitfield_at (λ f t. refl) s at x xs h c e i) (after-command (members s p) (the_members p) members-agree at x xs h c r i))

  pub fields-agree : Agree (fields s p) (the_fields p)
  unfolding fields the_fields cells text_at opt_text opt_text_at flag_at opt_number_at u16_at u32_at u64_at width_of width_with widths wide operands bytes
  fields-agree = listed-run s a_key 11 _ _ (λ at x xs h c r e.
      λ i. field_of p (own-bytes 11 33 refl field_at (λ f t. refl) s at x xs h c e i) (first (after-command (keys s p) (the_keys p) keys-agree at x xs h c r i)))

  structs-agree : Agree (structs s p) (the_structs p)
  unfolding structs the_structs cells text_at opt_text opt_text_at flag_at opt_number_at u16_at u32_at u64_at width_of width_with widths wide operands bytes
  structs-agree = listed-run s anything 8 _ _ (λ at x xs h c r e.
      λ i. struct_of p (own-bytes 8 10 refl struct_at (λ f t. refl) s at x xs h c e i) (after-command (fields s p) (the_fields p) fields-agree at x xs h c r i))

  variants-agree : Agree (variants s p) (the_variants p)
  unfolding variants the_variants cells text_at opt_text opt_text_at flag_at opt_number_at u16_at u32_at u64_at width_of width_with widths wide operands bytes
  variants-agree = listed-run s a_field 10 _ _ (λ at x xs h c r e.
      λ i. variant_of p (own-bytes 10 4 refl variant_at (λ f t. refl) s at x xs h c e i) (after-command (fields s p) (the_fields p) fields-agree at x xs h c r i))

  families-agree : Agree (families s p) (the_families p)
  unfolding families the_families cells text_at opt_text opt_text_at flag_at opt_number_at u16_at u32_at u64_at width_of width_with widths wide operands bytes
  families-agree = listed-run s anything 9 _ _ (λ at x xs h c r e.
      λ i. family_of p (own-bytes 9 17 refl family_at (λ f t. refl) s at x xs h c e i)
      (after-command (fields s p) (the_fields p) fields-agree at x xs h c r i) (after-command (variants s p) (the_variants p) variants-agree at x xs h c r i))

  pub schema-run : (w : List Scalar) (at : ℕ) (xs : List Str) → CommandsFrom s at xs → AllWhole xs
      → schema_from (rec s p w) (command_places at xs) ≡ the_schema p w xs
  unfolding schema_from the_schema
  schema-run w at xs h c = λ i. record {
    scalars = w;
    release = release_of (first (heads-agree at xs h c i));
    unreleased = unreleased_of (first (heads-agree at xs h c i));
    constants = constants-agree at xs h c i;
    aliases = aliases-agree at xs h c i;
    enums = enums-agree at xs h c i;
    bitfields = bitfields-agree at xs h c i;
    structs = structs-agree at xs h c i;
    families = families-agree at xs h c i;
    unstored = unstored-agree at xs h c i;
    versions = versions-agree at xs h c i;
  }
