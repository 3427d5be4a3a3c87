-- Bytes as text. Assumes nothing.
--   plain     a printable letter: from the space to the tilde
--   octet     a byte in two hexadecimal digits
--   escape    a byte of a name: as it is if printable and no backslash, else \x and its digits
--   escaped   a name as text
--   dotted    a byte as a letter: a dot if it is not printable
--   gap       the gap after the byte at a place: one after each pair
--   spaced    bytes in digits, the first at the given place, with their gaps
--   place     a number in hexadecimal digits, at least eight
--   line      a place, the bytes there in pairs, and their letters
use Rattle.std.specs.Prelude.{ℕ, ◌+◌, ◌-◌, ◌/◌, ◌%◌, Bool, false, cond, not, ◌&&◌, List, [], ◌∷◌, ◌++◌, ◌==◌, nat_le, nat_lt, map, length, replicate, codes}
use Rattle.std.specs.Char.{digit_char}
use Rattle.std.specs.Fmt.{digits}

abbrev pub plain : ℕ → Bool
plain b = nat_le 0x20 b && nat_lt b 0x7f

abbrev pub octet : ℕ → List ℕ
octet b = digit_char (b / 16) ∷ digit_char (b % 16) ∷ []

-- 92 is the backslash
abbrev pub escape : ℕ → List ℕ
escape b = cond (plain b && not (b == 92)) (b ∷ []) (codes "\\x" ++ octet b)

abbrev pub escaped : List ℕ → List ℕ
escaped [] = []
escaped (b ∷ bs) = escape b ++ escaped bs

-- 46 is the dot
abbrev pub dotted : ℕ → ℕ
dotted b = cond (plain b) b 46

abbrev pub gap : ℕ → List ℕ
gap i = cond (i % 2 == 1) (codes " ") []

abbrev pub spaced : ℕ → List ℕ → List ℕ
spaced i [] = []
spaced i (b ∷ bs) = octet b ++ (gap i ++ spaced (i + 1) bs)

-- zeros before the digits, 48 each, up to eight
abbrev pub place : ℕ → List ℕ
place n = replicate (8 - length (digits 16 false n)) 48 ++ digits 16 false n

abbrev pub line : ℕ → List ℕ → List ℕ
line at bs = place at ++ (codes ": " ++ (spaced 0 bs ++ (codes " " ++ map dotted bs)))
