-- Byte lists: runs, replacements, growth. Assumes nothing.
--   run       the n bytes from a place on
--   put       a list with the bytes from a place on replaced
--   zeros     n zero bytes
--   grow      a list grown by zeros to a length; a longer list stays
--   Octets    every element is a byte, below 256
--   EachOctet   the same of each place, as a type keeps it of its list
use Rattle.std.specs.Prelude.{ℕ, ◌+◌, ◌-◌, ◌<◌, List, [], ◌∷◌, ◌++◌, length, take, drop, replicate, slice_index}

unfoldable pub run : List ℕ → ℕ → ℕ → List ℕ
run bs at n = take n (drop at bs)

unfoldable pub put : List ℕ → ℕ → List ℕ → List ℕ
put bs at new = take at bs ++ (new ++ drop (at + length new) bs)

unfoldable pub zeros : ℕ → List ℕ
zeros n = replicate n 0

unfoldable pub grow : List ℕ → ℕ → List ℕ
grow bs n = bs ++ zeros (n - length bs)

unfoldable pub Octets : List ℕ → Type 0
Octets [] = Unit {0}
Octets (b ∷ bs) = (b < 256) × Octets bs

abbrev pub EachOctet : List ℕ → Type 0
EachOctet bs = (i : ℕ) → slice_index bs i < 256
