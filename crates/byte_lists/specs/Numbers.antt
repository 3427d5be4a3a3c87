-- Big-endian numbers in byte lists, of any width. Assumes nothing.
--   be         the number that bytes spell, the highest first
--   be_bytes   the w bytes of a number, the highest first
--   number     the number in the w bytes at a place
--   spell      a list with the number at a place replaced
--   found      that number, or none where it passes the end
use Rattle.std.specs.Prelude.{◌≡◌, ℕ, zero, suc, ◌+◌, ◌*◌, ◌/◌, ◌%◌, ◌^◌, cond, List, [], ◌∷◌, length, Some, None, Option, nat_le, refl}
use Rattle.std.proofs.Common.{ap}
use Rattle.byte_lists.specs.Runs.{run, put}

unfoldable pub be : List ℕ → ℕ
be [] = 0
be (b ∷ bs) = b * 256 ^ length bs + be bs

unfoldable pub be_bytes : ℕ → ℕ → List ℕ
be_bytes zero x = []
be_bytes (suc w) x = (x / 256 ^ w % 256) ∷ be_bytes w x

unfoldable pub number : List ℕ → ℕ → ℕ → ℕ
number bs at w = be (run bs at w)

unfoldable pub spell : List ℕ → ℕ → ℕ → ℕ → List ℕ
spell bs at w x = put bs at (be_bytes w x)

abbrev pub found : List ℕ → ℕ → ℕ → Option ℕ
found bs at w = cond (nat_le (at + w) (length bs)) (Some (number bs at w)) None

-- a number is what its run spells, and setting one puts its bytes
pub number_is : (bs : List ℕ) (at w : ℕ) → number bs at w ≡ be (run bs at w)
unfolding number
number_is bs at w = refl

pub spell_is_put : (bs : List ℕ) (at w x : ℕ) → spell bs at w x ≡ put bs at (be_bytes w x)
unfolding spell
spell_is_put bs at w x = refl

pub length-be_bytes : (w x : ℕ) → length (be_bytes w x) ≡ w
unfolding be_bytes
length-be_bytes zero x = refl
length-be_bytes (suc w) x = ap suc (length-be_bytes w x)
