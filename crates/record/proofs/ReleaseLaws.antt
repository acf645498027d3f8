-- Releases: digits and numbers one byte at a time, the parts between the dots one cut at a time.
use Rattle.std.specs.Prelude.{Option, Some, None}
use Prim.Native.Nat.{ℕ, suc, ◌+◌, ◌-◌, ◌*◌, ◌^◌, ◌≤◌, ◌<◌}
use mathlib.Core.List.{List, [], ◌∷◌}
use mathlib.Core.Bool.{Bool, true, false, ◌&&◌, not, and-true, and-false, false≢true}
use mathlib.Core.Logic.{◌⊎◌, inl, inr}
use mathlib.Core.Path.{◌≡◌, refl, sym, ap, ◌∙◌}
use Rattle.std.specs.List.{list_all}
use native.Mathlib.Numerals.{add-one}
use native.Mathlib.Omega.{arith}
use lib.ListN.{length, drop, get_or, drop_of_length-le}
use lib.Seq.{drop-cons}
use lib.Dec.{eqb}
use borrow.Author.Tests.{lt-ltb, le-ltb, ne_eqb, eqb-true, not-true, not-false}
use Rattle.record.specs.Base.{Str}
use Rattle.record.specs.Cut.{place_of, before_byte, after_byte}
use Rattle.record.specs.Release.{onto_head, parts, digit, all_digits, is_decimal, all_decimal, is_release, number, as_u32, parsed_part, of_numbers, release_parts}

pub digits_all : (s : Str) → list_all digit s ≡ all_digits s
unfolding all_digits
digits_all [] = refl
digits_all (a ∷ s) = ap (λ t. digit a && t) (digits_all s)

-- what stands before the first dot, and after it
abbrev front : Str → Str
front s = before_byte 46 s

abbrev past : Str → Str
past s = after_byte 46 s

-- a text with no dot is its only part; one with a dot is the part before it and the parts of what is after it, and not digits only
record Plain (s : Str) : Type 0 where
  alone : parts s ≡ s ∷ []
  after : past s ≡ []

record Dotted (s : Str) : Type 0 where
  more : parts s ≡ front s ∷ parts (past s)
  odd : all_digits s ≡ false

split : (s : Str) → Plain s ⊎ Dotted s
unfolding parts onto_head before_byte after_byte place_of all_digits digit
split [] = inl (record { alone = refl; after = refl })
split (a ∷ s) = go (eqb a 46) refl (split s)
  where
    go : (b : Bool) → eqb a 46 ≡ b → Plain s ⊎ Dotted s → Plain (a ∷ s) ⊎ Dotted (a ∷ s)
    go true e r = inr (record { more = rw e; odd = rw (eqb-true a 46 e) })
    go false e (inl p) = inl (record { alone = rw (e, p.alone); after = rw e p.after })
    go false e (inr d) = inr (record { more = rw (e, d.more); odd = rw (d.odd, and-false) })

-- the three tests of the code, and the three parts that they test
abbrev decimals : Str → Bool
decimals s = is_decimal (front s) && (is_decimal (front (past s)) && is_decimal (past (past s)))

abbrev three : Str → List Str
three s = front s ∷ front (past s) ∷ past (past s) ∷ []

-- there is always a part
some-part : (s : Str) → 1 ≤ length (parts s)
some-part s = go (split s)
  where
    go : Plain s ⊎ Dotted s → 1 ≤ length (parts s)
    go (inl p) = rw p.alone (omega arith)
    go (inr d) = rw d.more (omega arith)

-- a part with another byte is no decimal
pub decimal-odd : (s : Str) → all_digits s ≡ false → is_decimal s ≡ false
unfolding is_decimal
decimal-odd s e = rw (e, and-false)

-- an empty part is no decimal, nor is what comes before a dot in it
empty-part : is_decimal [] ≡ false
unfolding is_decimal
empty-part = refl

empty-before : is_decimal (front []) ≡ false
unfolding is_decimal before_byte place_of
empty-before = refl

-- a text has three parts, or is no release by either account
abbrev ThreeOrNone : Str → Type 0
ThreeOrNone s = (parts s ≡ three s) ⊎ ((is_release s ≡ false) × (decimals s ≡ false))

three-or-none : (s : Str) → ThreeOrNone s
unfolding is_release
three-or-none s = first (split s)
  where
    third : Dotted s → Dotted (past s) → Plain (past (past s)) ⊎ Dotted (past (past s)) → ThreeOrNone s
    third d e (inl p) = inl (rw (d.more, e.more, p.alone))
    third d e (inr f) =
        let n = some-part (past (past (past s))) in
        let m : length (parts s) ≡ suc (suc (suc (length (parts (past (past (past s))))))) = rw (d.more, e.more, f.more) in
        let odd = decimal-odd (past (past s)) f.odd in
        inr (rw (ne_eqb (length (parts s)) 3 (λ h. omega arith)), rw (odd, and-false, and-false))

    second : Dotted s → Plain (past s) ⊎ Dotted (past s) → ThreeOrNone s
    second d (inl p) = inr (rw (d.more, p.alone), rw (p.after, empty-part, and-false, and-false))
    second d (inr e) = third d e (split (past (past s)))

    first : Plain s ⊎ Dotted s → ThreeOrNone s
    first (inl p) = inr (rw p.alone, rw (p.after, empty-before, and-false))
    first (inr d) = second d (split (past s))

-- the two accounts agree
pub release_is : (s : Str) → is_release s ≡ decimals s
unfolding is_release all_decimal
release_is s = go (three-or-none s)
  where
    go : ThreeOrNone s → is_release s ≡ decimals s
    go (inl e) = rw (e, and-true)
    go (inr n) = n.0 ∙ sym n.1

-- the parts of a release
three-parts : (s : Str) → is_release s ≡ true → parts s ≡ three s
three-parts s h = go (three-or-none s)
  where
    go : ThreeOrNone s → parts s ≡ three s
    go (inl e) = e
    go (inr n) = absurd (false≢true (sym n.0 ∙ h))

-- a number that is already of more than 32 bits stays so
grows : (s : Str) (n : ℕ) → n ≤ number n s
unfolding number
grows [] n = omega arith
grows (a ∷ s) n = omega (arith, grows s (n * 10 + (a - 48)))

module _ (s : Str) (i n : ℕ) where
  pub number-next : (d : ℕ) → i < length s → d ≡ get_or s i 0 - 48 → as_u32 (number n (drop i s)) ≡ as_u32 (number (n * 10 + d) (drop (i + 1) s))
  unfolding number
  number-next d h e = rw (add-one, drop-cons s i 0, e)

  pub number-vast : (d : ℕ) → i < length s → d ≡ get_or s i 0 - 48 → 2 ^ 32 ≤ n * 10 + d → as_u32 (number n (drop i s)) ≡ None
  unfolding as_u32
  number-vast d h e v = number-next d h e ∙ rw (le-ltb (number (n * 10 + d) (drop (i + 1) s)) (2 ^ 32) (omega (arith, grows (drop (i + 1) s) (n * 10 + d))))

  pub number-end : length s ≤ i → n < 2 ^ 32 → as_u32 (number n (drop i s)) ≡ Some n
  unfolding as_u32 number
  number-end h l = rw (drop_of_length-le s, lt-ltb n (2 ^ 32) l)

pub ruleset number-laws = (number-next, number-vast, number-end)

-- a release's parts, as the code cuts them
the-numbers : (s : Str) → is_release s ≡ true
    → release_parts s ≡ of_numbers (as_u32 (number 0 (front s))) (as_u32 (number 0 (front (past s)))) (as_u32 (number 0 (past (past s))))
unfolding release_parts parsed_part
the-numbers s h = rw (three-parts s h, h)

module _ (s t x y z : Str) (r : Bool) (e : r ≡ is_release s) where
  pub parts_none : not r ≡ true → None ≡ release_parts s
  unfolding release_parts
  parts_none f = rw (← e, not-true r f)

  module _ (f : not r ≡ false) (p : Option ℕ) (k : x ≡ front s) (h : p ≡ as_u32 (number 0 x)) where
    pub parts-major : p ≡ None → None ≡ release_parts s
    parts-major v = rw (the-numbers s (sym e ∙ not-false r f), ← k, ← h, v)

    module _ (a : ℕ) (m : p ≡ Some a) (q : Option ℕ) (l : t ≡ past s) (u : y ≡ front t) (g : q ≡ as_u32 (number 0 y)) where
      pub parts-minor : q ≡ None → None ≡ release_parts s
      parts-minor v = rw (the-numbers s (sym e ∙ not-false r f), ← k, ← h, m, ← l, ← u, ← g, v)

      module _ (b : ℕ) (n : q ≡ Some b) (o : Option ℕ) (w : z ≡ past t) (j : o ≡ as_u32 (number 0 z)) where
        pub parts-patch : o ≡ None → None ≡ release_parts s
        parts-patch v = rw (the-numbers s (sym e ∙ not-false r f), ← k, ← h, m, ← l, ← u, ← g, n, ← w, ← j, v)

        pub parts_whole : (c : ℕ) → o ≡ Some c → Some (record { major = a; minor = b; patch = c }) ≡ release_parts s
        parts_whole c v = rw (the-numbers s (sym e ∙ not-false r f), ← k, ← h, m, ← l, ← u, ← g, n, ← w, ← j, v)
