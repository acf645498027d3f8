-- UTF-8 by the grammar of RFC 3629, section 4, and what W-206 asks of a pool's bytes. Assumes nothing.
use Rattle.std.specs.Prelude.{ℕ, zero, suc, ◌-◌, [], ◌∷◌, Bool, true, false, ◌&&◌, ◌||◌, not, cond, leb, eqb, get_or}
use Rattle.texts.specs.Texts.{Str}

-- a byte from low to high
unfoldable pub inside : ℕ → ℕ → ℕ → Bool
inside low high b = leb low b && leb b high

-- UTF8-tail = %x80-BF
unfoldable pub is_tail : ℕ → Bool
is_tail b = inside 0x80 0xbf b

-- UTF8-1 = %x00-7F
unfoldable pub utf81 : ℕ → Bool
utf81 a = inside 0x00 0x7f a

-- UTF8-2 = %xC2-DF UTF8-tail
unfoldable pub utf82 : ℕ → ℕ → Bool
utf82 a b = inside 0xc2 0xdf a && is_tail b

-- UTF8-3 = %xE0 %xA0-BF UTF8-tail / %xE1-EC 2( UTF8-tail ) / %xED %x80-9F UTF8-tail / %xEE-EF 2( UTF8-tail )
unfoldable pub utf83 : ℕ → ℕ → ℕ → Bool
utf83 a b c =
    ((inside 0xe0 0xe0 a && inside 0xa0 0xbf b) && is_tail c)
    || (((inside 0xe1 0xec a && is_tail b) && is_tail c)
    || (((inside 0xed 0xed a && inside 0x80 0x9f b) && is_tail c)
    || ((inside 0xee 0xef a && is_tail b) && is_tail c)))

-- UTF8-4 = %xF0 %x90-BF 2( UTF8-tail ) / %xF1-F3 3( UTF8-tail ) / %xF4 %x80-8F 2( UTF8-tail )
unfoldable pub utf84 : ℕ → ℕ → ℕ → ℕ → Bool
utf84 a b c d =
    (((inside 0xf0 0xf0 a && inside 0x90 0xbf b) && is_tail c) && is_tail d)
    || ((((inside 0xf1 0xf3 a && is_tail b) && is_tail c) && is_tail d)
    || (((inside 0xf4 0xf4 a && inside 0x80 0x8f b) && is_tail c) && is_tail d))

-- UTF8-char = UTF8-1 / UTF8-2 / UTF8-3 / UTF8-4: how many of four bytes are one, 0 if they begin with none
unfoldable pub char_of : ℕ → ℕ → ℕ → ℕ → ℕ
char_of a b c d = cond (utf81 a) 1 (cond (utf82 a b) 2 (cond (utf83 a b c) 3 (cond (utf84 a b c d) 4 0)))

-- the length of the sequence that bytes begin with, 0 if they begin with none; a byte past the end counts as 0, which is no tail
unfoldable pub char_length : Str → ℕ
char_length [] = 0
char_length (a ∷ s) = char_of a (get_or s 0 0) (get_or s 1 0) (get_or s 2 0)

-- UTF8-octets = *( UTF8-char ), with k bytes of a sequence still to be passed
unfoldable pub well_after : ℕ → Str → Bool
well_after k [] = true
well_after (suc k) (b ∷ s) = well_after k s
well_after zero (b ∷ s) = cond (eqb (char_length (b ∷ s)) 0) false (well_after (char_length (b ∷ s) - 1) s)

unfoldable pub well_formed : Str → Bool
well_formed s = well_after 0 s

-- W-206: byte 00 to 1F or 7F hex
unfoldable pub is_control : ℕ → Bool
is_control b = inside 0x00 0x1f b || inside 0x7f 0x7f b

unfoldable pub no_control : Str → Bool
no_control [] = true
no_control (b ∷ s) = not (is_control b) && no_control s

-- the length of the sequence that bytes begin with if W-206 lets it through, else 0
unfoldable pub letter_length : Str → ℕ
letter_length s = cond (is_control (get_or s 0 0)) 0 (char_length s)

unfoldable pub odd_after : ℕ → Str → ℕ
odd_after k [] = 0
odd_after (suc k) (b ∷ s) = suc (odd_after k s)
odd_after zero (b ∷ s) = cond (eqb (letter_length (b ∷ s)) 0) 0 (suc (odd_after (letter_length (b ∷ s) - 1) s))

-- number 7: the place of the first ill-formed sequence or control byte, and the length if there is none
unfoldable pub odd_place : Str → ℕ
odd_place s = odd_after 0 s

unfoldable pub edge_after : ℕ → Str → ℕ → Bool
edge_after k s zero = eqb k 0
edge_after k [] (suc at) = true
edge_after (suc k) (b ∷ s) (suc at) = edge_after k s at
edge_after zero (b ∷ s) (suc at) = edge_after (char_length (b ∷ s) - 1) s at

-- number 4: whether a place lies between sequences and not inside one. The end and all past it do
unfoldable pub edge : Str → ℕ → Bool
edge s at = edge_after 0 s at

-- no tail stands at a place: of a well-formed pool it is then one between sequences (proofs/EdgeLaws, `edge-no-tail`)
unfoldable pub no_tail : Str → ℕ → Bool
no_tail s at = not (is_tail (get_or s at 0))
