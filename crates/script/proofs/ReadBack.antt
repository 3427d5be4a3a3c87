-- The bytes that records show, lines spell. Assumes nothing.
use Rattle.std.proofs.Common.{◌≡◌, ℕ, ◌/◌, ◌%◌, ◌<◌, List, [], ◌∷◌, Some, refl, ap, ◌∙◌}
use Rattle.std.specs.Char.{digit_char}
use Rattle.std.specs.List.{AllByRecursion as All}
use Rattle.byte_lists.specs.Runs.{Octets}
use Rattle.answer.specs.Records.{hexadecimal}
use Rattle.text.specs.Values.{hex_bytes}
use Rattle.text.proofs.ReadBack.{paired, bytes_read}

in_pairs : (bs : List ℕ) → hexadecimal bs ≡ paired bs
in_pairs [] = refl
in_pairs (b ∷ bs) = ap (λ l. digit_char (b / 16 % 16) ∷ digit_char (b % 16) ∷ l) (in_pairs bs)

each_small : (bs : List ℕ) → Octets bs → All (λ b. b < 256) bs
unfolding Octets
each_small [] o = tt
each_small (b ∷ bs) o = (o.0, each_small bs o.1)

pub shown_read : (bs : List ℕ) → Octets bs → hex_bytes (hexadecimal bs) ≡ Some bs
shown_read bs o = ap hex_bytes (in_pairs bs) ∙ bytes_read bs (each_small bs o)
