-- The words of a line. Assumes nothing.
--   white    white space: a space, and the bytes 9 to 13
--   code     the line before its '#'
--   begun    the word that is begun, as a list: none if it has no letter yet
--   parted   the words of what is left, after the letters of a word that is begun
--   words    the words of a line
--   nth      the word with n words before it
use Rattle.std.specs.Prelude.{ℕ, zero, suc, Bool, cond, ◌&&◌, ◌||◌, List, [], ◌∷◌, ◌++◌, Some, None, Option, ◌==◌, nat_le}

abbrev pub white : ℕ → Bool
white b = b == 32 || (nat_le 9 b && nat_le b 13)

abbrev pub code : List ℕ → List ℕ
code [] = []
code (b ∷ bs) = cond (b == 35) [] (b ∷ code bs)

abbrev pub begun : List ℕ → List (List ℕ)
begun [] = []
begun (c ∷ w) = (c ∷ w) ∷ []

abbrev pub parted : List ℕ → List ℕ → List (List ℕ)
parted w [] = begun w
parted w (b ∷ bs) = cond (white b) (begun w ++ parted [] bs) (parted (w ++ b ∷ []) bs)

abbrev pub words : List ℕ → List (List ℕ)
words line = parted [] (code line)

abbrev pub nth : ℕ → List (List ℕ) → Option (List ℕ)
nth n [] = None
nth zero (w ∷ ws) = Some w
nth (suc n) (w ∷ ws) = nth n ws
