-- The cases of the pass over the constants. s and p are the current stream and pool, b and q the released ones. Assumes nothing.
use mathlib.Core.Path.{◌≡◌, refl, sym, ap, ◌∙◌}
use mathlib.Core.List.{List, [], ◌∷◌, map}
use mathlib.Core.Bool.{Bool, true, false, ◌||◌, false≢true}
use Prim.Native.Nat.{ℕ, ◌+◌, ◌≤◌, ◌<◌}
use native.Mathlib.Numerals.{add-one}
use native.Mathlib.Omega.{arith}
use lib.ListN.{length, take, drop, get_or, drop_of_length-le}
use lib.Seq.{take_at, drop-cons}
use Rattle.std.specs.Prelude.{Result, Ok, Err, ⊤, Option, Some, None}
use Rattle.record.specs.Base.{Str, eqs, signed, any, find_last}
use Rattle.record.specs.Schema.{Const, Struct}
use Rattle.record.specs.Stretch.{text_of}
use Rattle.record.specs.Fill.{fronted}
use Rattle.record.specs.Write.{Puts}
use Rattle.record.specs.Commands.{constant_at}
use Rattle.record.specs.Lists.{constant_of}
use Rattle.record.specs.Steps.{structs_at, struct_found, constants_at, constant_found}
use Rattle.record.specs.Owner.{with_name}
use Rattle.record.specs.Versioned.{InSlots}
use Rattle.record.specs.Generation.{generation_of, held_as}
use Rattle.record.specs.declared.text.Text.{Text}
use Rattle.record.specs.declared.command.Cursor.{Cursor}
use Rattle.record.specs.declared.command as C
use Rattle.record.specs.declared.versioned.Versioned.{Versioned}
use Rattle.record.proofs.Basics.{eqs→eq, eqs-refl}
use Rattle.record.proofs.VersionedLaws.{versioned-are-roots}
use Rattle.record.proofs.WriterLaws.{puts-exact, puts-front}
use Rattle.layout.specs.Room.{Room}
use Rattle.layout.specs.Constants.{placed_constant, ConstantsTable}
use Rattle.definition.specs.Verdicts as D
use Rattle.definition.specs.Pass.{ensure, required, on_found}
use Rattle.definition.specs.Constants.{constant_text}
use Rattle.verdicts.specs.Arguments.{value_meant}
use Rattle.definition.specs.Constants.{last_constant, holds_in, held_by_any, is_generation, check_constant, check_constants_in, check_constants}
use Rattle.compare.specs.Required.{RequiredText}
use Rattle.compare.specs.Sought.{HoldsValue}
use Rattle.verdicts.specs.Meaning.{violation, meaning}
use Rattle.verdicts.specs.declared.arguments.ConstantValue.{ConstantValue}
use Rattle.verdicts.specs.declared.arguments.ConstantValue.TheVariants.{Integer, Words}
use Rattle.verdicts.specs.declared.verdict.Verdict.{Verdict}
use Rattle.verdicts.specs.declared.verdict.Verdict.TheVariants.{ConstantGone, ConstantChanged}
use Rattle.verdicts.proofs.PassLaws.{HandedOn}
use Rattle.verdicts.proofs.Each.{each-end, each_on, each-stop}
use Rattle.record.specs.Commands.{Step}

-- what a constant holds
module _ (c : C.Constant.Constant) where
  pub holds-words : c.is_text ≡ true → HoldsValue c (Words c.text)
  holds-words e = record { this = λ p. rw e }

  pub holds-integer : c.is_text ≡ false → HoldsValue c (Integer c.integer)
  holds-integer e = record { this = λ p. rw e }

pub ruleset holds-laws = (holds-words, holds-integer)

-- the texts of two values ------------------------------------------------------------------------------------------------

-- digits that were put at the front of a buffer
pub integer-put : (n end : ℕ) (out after x y : Str) (b : Bool) → length out ≡ 21 → Puts out 0 (signed n) after end → end ≤ 0 + 21 → y ≡ take end after → b ≡ eqs y x
    → b ≡ eqs (signed n) x
unfolding fronted
integer-put n end out after x y b l p h i j =
    let e = puts-exact p (omega arith) in
    let f : after ≡ fronted out (signed n) = puts-front p (omega arith) in
    j ∙ ap (λ (z : Str). eqs z x) (i ∙ ap (take end) f ∙ take_at (signed n) (drop (length (signed n)) out) end (omega arith))

turned : (a b : Str) → eqs a b ≡ eqs b a
turned a b = go (eqs a b) (eqs b a) refl refl
  where
    go : (t u : Bool) → eqs a b ≡ t → eqs b a ≡ u → t ≡ u
    go true u e f = sym (eqs-refl a) ∙ ap (λ (z : Str). eqs z a) (eqs→eq a b e) ∙ f
    go false true e f = absurd (false≢true (sym e ∙ ap (λ (z : Str). eqs z b) (sym (eqs→eq b a f)) ∙ eqs-refl b))
    go false false e f = refl

module _ (p : Str) (v : ConstantValue) where
  -- the words of a constant
  module _ (o : Option Text) (t : Text) (z : Str) (m : v ≡ Words o) (r : RequiredText o t) (y : z ≡ text_of p t) where
    words-text : constant_text (value_meant p v) ≡ z
    unfolding constant_text required
    words-text = rw m (sym (r.this p)) ∙ sym y

    pub words_same : (x : Str) (b : Bool) → b ≡ eqs x z → b ≡ eqs x (constant_text (value_meant p v))
    words_same x b h = h ∙ ap (eqs x) (sym words-text)

    pub words-with : (x : Str) (b : Bool) → b ≡ eqs z x → b ≡ eqs (constant_text (value_meant p v)) x
    words-with x b h = h ∙ ap (λ (a : Str). eqs a x) (sym words-text)

  -- an integer of a constant
  module _ (n : ℕ) (m : v ≡ Integer n) where
    integer-text : constant_text (value_meant p v) ≡ signed n
    unfolding constant_text
    integer-text = rw m

    pub integer-same : (x : Str) (b : Bool) → b ≡ eqs x (signed n) → b ≡ eqs x (constant_text (value_meant p v))
    integer-same x b h = h ∙ ap (eqs x) (sym integer-text)

    pub integer-turned : (x : Str) (b : Bool) → b ≡ eqs (signed n) x → b ≡ eqs x (constant_text (value_meant p v))
    integer-turned x b h = integer-same x b (h ∙ turned (signed n) x)

    pub integer-with : (x : Str) (b : Bool) → b ≡ eqs (signed n) x → b ≡ eqs (constant_text (value_meant p v)) x
    integer-with x b h = h ∙ ap (λ (a : Str). eqs a x) (sym integer-text)

pub ruleset other-value-laws = (words_same, integer-same, integer-turned)

pub ruleset own-value-laws = (words-with, integer-with)

-- the constants that hold generations -------------------------------------------------------------------------------------

or-false : (b : Bool) → (b || false) ≡ b
or-false true = refl
or-false false = refl

or-true : (b : Bool) → (b || true) ≡ true
or-true true = refl
or-true false = refl

module _ (s p n : Str) where
  abbrev held : List Str → Bool
  held roots = held_by_any (structs_at s p 0) (constants_at s p 0) roots n

  module _ (r : Step C.Struct.Struct) where
    pub slot-none : r ≡ None → false ≡ held (with_name (struct_found s p r) [])
    unfolding held_by_any with_name any
    slot-none m = rw m

    module _ (e : C.Struct.Struct) (k : Cursor) (x : Str) (g : Option (Text × ℕ)) (m : r ≡ Some (e, k)) (i : x ≡ text_of p e.name)
        (h : held_as p g ≡ generation_of (structs_at s p 0) (constants_at s p 0) x) where
      of-root : held (with_name (struct_found s p r) []) ≡ holds_in n (held_as p g)
      unfolding held_by_any with_name any
      of-root = rw (m, ← i, ← h) (or-false (holds_in n (held_as p g)))

      pub slot-without : g ≡ None → false ≡ held (with_name (struct_found s p r) [])
      unfolding holds_in
      slot-without o = rw (of-root, o)

      pub slot-with : (t : Text) (w : ℕ) (z : Str) (b : Bool) → g ≡ Some (t, w) → z ≡ text_of p t → b ≡ eqs z n → b ≡ held (with_name (struct_found s p r) [])
      unfolding holds_in
      slot-with t w z b o u v = rw (of-root, o, ← u) v

  -- one more structure
  held_first : (o : Option Struct) (l : List Str) → held (with_name o l) ≡ (held (with_name o []) || held l)
  unfolding held_by_any with_name any
  held_first None l = refl
  held_first (Some t) l = ap (λ (b : Bool). b || held l) (sym (or-false (holds_in n (generation_of (structs_at s p 0) (constants_at s p 0) t.name))))

  module _ (r : Versioned) (i : InSlots s p r) (x : Bool) (h : x ≡ held (with_name (struct_found s p r.info) [])) where
    in-slots : is_generation (structs_at s p 0) (constants_at s p 0) n ≡ (x || held (with_name (struct_found s p r.metadata) (with_name (struct_found s p r.runtime) [])))
    unfolding is_generation
    in-slots = ap held (sym (versioned-are-roots s p r i)) ∙ held_first (struct_found s p r.info) _ ∙ ap (λ (b : Bool). b || held (with_name (struct_found s p r.metadata) (with_name (struct_found s p r.runtime) []))) (sym h)

    pub generation-info : x ≡ true → true ≡ is_generation (structs_at s p 0) (constants_at s p 0) n
    generation-info g = rw (in-slots, g)

    module _ (g : x ≡ false) (y : Bool) (k : y ≡ held (with_name (struct_found s p r.metadata) [])) where
      in_rest : is_generation (structs_at s p 0) (constants_at s p 0) n ≡ (y || held (with_name (struct_found s p r.runtime) []))
      in_rest = in-slots ∙ rw (g, k) (held_first (struct_found s p r.metadata) _)

      pub generation-metadata : y ≡ true → true ≡ is_generation (structs_at s p 0) (constants_at s p 0) n
      generation-metadata j = rw (in_rest, j)

      pub generation-runtime : (z : Bool) → y ≡ false → z ≡ held (with_name (struct_found s p r.runtime) []) → z ≡ is_generation (structs_at s p 0) (constants_at s p 0) n
      generation-runtime z j l = rw (in_rest, j) l

pub ruleset slot_laws = (slot-none, slot-without, slot-with)

pub ruleset generation-laws = (generation-info, generation-metadata, generation-runtime)

-- one constant ------------------------------------------------------------------------------------------------------------

module _ (s p q x : Str) (w : C.Constant.Constant) (r : Step C.Constant.Constant) (t : x ≡ text_of q w.name)
    (h : find_last (λ (c : Const). eqs c.name x) (constants_at s p 0) ≡ constant_found s p r) where
  abbrev asked : D.Verdict
  asked = check_constant (structs_at s p 0) (constants_at s p 0) (constant_of q w)

  found : last_constant (text_of q w.name) (constants_at s p 0) ≡ constant_found s p r
  unfolding last_constant
  found = ap (λ (y : Str). last_constant y (constants_at s p 0)) (sym t) ∙ h

  pub constant-gone : r ≡ None → meaning p q (Err (ConstantGone w.name)) ≡ asked
  unfolding meaning violation check_constant on_found
  constant-gone m = rw (found, m)

  module _ (c : C.Constant.Constant) (k : Cursor) (m : r ≡ Some (c, k)) (u v : ConstantValue) (i : HoldsValue w u) (j : HoldsValue c v) (b : Bool)
      (l : b ≡ eqs (constant_text (value_meant p v)) (constant_text (value_meant q u))) where
    abbrev changed : D.Verdict
    changed = D.constant_changed (text_of q w.name) (constant_text (value_meant q u)) (constant_text (value_meant p v))

    in_parts : asked ≡ ensure (is_generation (structs_at s p 0) (constants_at s p 0) (text_of q w.name) || b) changed
    unfolding check_constant on_found
    in_parts = rw (found, m, ← i.this q, ← j.this p, ← l)

    pub constant-same : b ≡ true → meaning p q (Ok tt) ≡ asked
    unfolding meaning ensure
    constant-same g = rw (in_parts, g, or-true)

    module _ (g : b ≡ false) (y : Str) (a : Bool) (n : y ≡ text_of q w.name) (o : a ≡ is_generation (structs_at s p 0) (constants_at s p 0) y) where
      pub constant-exempt : a ≡ true → meaning p q (Ok tt) ≡ asked
      unfolding meaning ensure
      constant-exempt e = rw (in_parts, ← n, ← o, e)

      pub constant-changed : a ≡ false → meaning p q (Err (ConstantChanged w.name u v)) ≡ asked
      unfolding meaning violation ensure
      constant-changed e = rw (in_parts, g, ← ap (is_generation (structs_at s p 0) (constants_at s p 0)) n, ← o, e)

-- the constants of the table ----------------------------------------------------------------------------------------------

module _ (s p b q : Str) (t : List ℕ) (i : ℕ) where
  abbrev left : ℕ → D.Verdict
  left n = check_constants_in (structs_at s p 0) (constants_at s p 0) (map (placed_constant b q) (drop n t))

  pub placed_end : length t ≤ i → left i ≡ meaning p q (Ok tt)
  unfolding check_constants_in
  placed_end h = each-end _ _ p q (ap (map (placed_constant b q)) (drop_of_length-le t h))

  module _ (h : i < length t) (c : C.Constant.Constant) (v : Result ⊤ Verdict) (e : c ≡ constant_at (drop (get_or t i 0) b))
      (l : meaning p q v ≡ check_constant (structs_at s p 0) (constants_at s p 0) (constant_of q c)) where
    next-placed : map (placed_constant b q) (drop i t) ≡ placed_constant b q (get_or t i 0) ∷ map (placed_constant b q) (drop (i + 1) t)
    next-placed = rw (add-one, drop-cons t i 0)

    asked-placed : meaning p q v ≡ check_constant (structs_at s p 0) (constants_at s p 0) (placed_constant b q (get_or t i 0))
    unfolding placed_constant
    asked-placed = l ∙ ap (λ (d : C.Constant.Constant). check_constant (structs_at s p 0) (constants_at s p 0) (constant_of q d)) e

    pub placed_on : v ≡ Ok tt → left i ≡ left (i + 1)
    unfolding check_constants_in
    placed_on g = each_on _ _ p q _ _ v next-placed asked-placed g

    pub placed-stop : (z : Result ⊤ Verdict) → HandedOn v z → left i ≡ meaning p q z
    unfolding check_constants_in
    placed-stop z g = each-stop _ _ p q _ _ v next-placed asked-placed z g

pub ruleset placed-laws = (placed_end, placed_on, placed-stop)

-- the table holds the released constants in byte order of their names
pub table-checked : (s p b q : Str) (t x y : List ℕ) (v : Result ⊤ Verdict) → length b ≤ 32768 → Room b x → Room b y
    → (length b ≤ 32768 → Room b x → Room b y → ConstantsTable b q t)
    → meaning p q v ≡ check_constants_in (structs_at s p 0) (constants_at s p 0) (map (placed_constant b q) t) → meaning p q v ≡ check_constants (structs_at s p 0) (constants_at s p 0) (constants_at b q 0)
unfolding check_constants
table-checked s p b q t x y v i j k h e = e ∙ ap (check_constants_in (structs_at s p 0) (constants_at s p 0)) (h i j k).constants
