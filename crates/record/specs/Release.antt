-- Releases as three numbers: is_release and release_parts of schema.rs, FIRST_RELEASE_NAMING_ITSELF of layout.rs. Assumes nothing.
use Rattle.std.specs.Prelude.{ℕ, ◌+◌, ◌-◌, ◌*◌, ◌^◌, List, [], ◌∷◌, Bool, true, ◌&&◌, ◌||◌, not, cond, length, get_or, eqb, ltb, leb, Option, Some, None}
use Rattle.record.specs.Base.{Str, bytes, eqs}
use Rattle.record.specs.declared.release.Release.{Release}

unfoldable pub onto_head : ℕ → List Str → List Str
onto_head a [] = (a ∷ []) ∷ []
onto_head a (p ∷ ps) = (a ∷ p) ∷ ps

-- the parts between the dots: always one more than there are dots
unfoldable pub parts : Str → List Str
parts [] = [] ∷ []
parts (a ∷ s) = cond (eqb a 46) ([] ∷ parts s) (onto_head a (parts s))

unfoldable pub digit : ℕ → Bool
digit b = leb 48 b && leb b 57

unfoldable pub all_digits : Str → Bool
all_digits [] = true
all_digits (a ∷ s) = digit a && all_digits s

-- a part written the one way there is: no empty one, digits only, and no 0 in front of others
unfoldable pub is_decimal : Str → Bool
is_decimal s = not (eqb (length s) 0) && all_digits s && (eqs s (bytes "0") || not (eqb (get_or s 0 0) 48))

unfoldable pub all_decimal : List Str → Bool
all_decimal [] = true
all_decimal (p ∷ ps) = is_decimal p && all_decimal ps

unfoldable pub is_release : Str → Bool
is_release s = eqb (length (parts s)) 3 && all_decimal (parts s)

-- the number that digits write, after others that wrote acc
unfoldable pub number : ℕ → Str → ℕ
number acc [] = acc
number acc (a ∷ s) = number (acc * 10 + (a - 48)) s

-- a number of 32 bits
unfoldable pub as_u32 : ℕ → Option ℕ
as_u32 n = cond (ltb n (2 ^ 32)) (Some n) None

unfoldable pub parsed_part : Str → ℕ → Option ℕ
parsed_part s i = as_u32 (number 0 (get_or (parts s) i []))

abbrev pub of_numbers : Option ℕ → Option ℕ → Option ℕ → Option Release
of_numbers None b c = None
of_numbers (Some a) None c = None
of_numbers (Some a) (Some b) None = None
of_numbers (Some a) (Some b) (Some c) = Some (record { major = a; minor = b; patch = c })

-- a release whose numbers are of 32 bits
unfoldable pub release_parts : Str → Option Release
release_parts s = cond (is_release s) (of_numbers (parsed_part s 0) (parsed_part s 1) (parsed_part s 2)) None

unfoldable pub earlier : Release → Release → Bool
earlier a b =
    cond (eqb a.major b.major)
    (cond (eqb a.minor b.minor) (ltb a.patch b.patch) (ltb a.minor b.minor))
    (ltb a.major b.major)

-- the release in which a schema first names its own: a copy without one is older
unfoldable pub first_naming : Release
first_naming = record { major = 0; minor = 8; patch = 0 }
