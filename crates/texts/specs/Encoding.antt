-- Scalar values and their bytes by the bit layout of RFC 3629, section 3. Assumes nothing.
use Rattle.std.specs.Prelude.{ℕ, zero, suc, ◌+◌, ◌*◌, ◌-◌, ◌/◌, ◌%◌, List, [], ◌∷◌, ◌++◌, Bool, true, ◌&&◌, not, cond, leb, ltb, eqb, get_or}
use Rattle.texts.specs.Texts.{Str}
use Rattle.texts.specs.Utf8.{inside, char_length}

-- a scalar value: 0 to 10FFFF without the surrogates D800 to DFFF
unfoldable pub is_scalar : ℕ → Bool
is_scalar v = leb v 0x10ffff && not (inside 0xd800 0xdfff v)

unfoldable pub all_scalars : List ℕ → Bool
all_scalars [] = true
all_scalars (v ∷ vs) = is_scalar v && all_scalars vs

-- 0xxxxxxx; 110xxxxx 10xxxxxx; 1110xxxx 10xxxxxx 10xxxxxx; 11110xxx 10xxxxxx 10xxxxxx 10xxxxxx
unfoldable pub bytes_of : ℕ → Str
bytes_of v =
    cond (ltb v 0x80) (v ∷ [])
    (cond (ltb v 0x800) ((0xc0 + v / 64) ∷ (0x80 + v % 64) ∷ [])
    (cond (ltb v 0x10000) ((0xe0 + v / 4096) ∷ (0x80 + v / 64 % 64) ∷ (0x80 + v % 64) ∷ [])
    ((0xf0 + v / 262144) ∷ (0x80 + v / 4096 % 64) ∷ (0x80 + v / 64 % 64) ∷ (0x80 + v % 64) ∷ [])))

unfoldable pub encode : List ℕ → Str
encode [] = []
encode (v ∷ vs) = bytes_of v ++ encode vs

-- the value of a sequence of so many bytes
unfoldable pub value_of : ℕ → ℕ → ℕ → ℕ → ℕ → ℕ
value_of n a b c d =
    cond (eqb n 1) a
    (cond (eqb n 2) ((a - 0xc0) * 64 + (b - 0x80))
    (cond (eqb n 3) ((a - 0xe0) * 4096 + (b - 0x80) * 64 + (c - 0x80))
    ((a - 0xf0) * 262144 + (b - 0x80) * 4096 + (c - 0x80) * 64 + (d - 0x80))))

unfoldable pub char_value : Str → ℕ
char_value s = value_of (char_length s) (get_or s 0 0) (get_or s 1 0) (get_or s 2 0) (get_or s 3 0)

unfoldable pub decode_after : ℕ → Str → List ℕ
decode_after k [] = []
decode_after (suc k) (b ∷ s) = decode_after k s
decode_after zero (b ∷ s) = char_value (b ∷ s) ∷ decode_after (char_length (b ∷ s) - 1) s

unfoldable pub decode : Str → List ℕ
decode s = decode_after 0 s
