-- Numbers of any type in lists. Assumes nothing.
--   spelled_by   the number that a list of its width spells, or none
--   found_by     the number at a place of a list, or none where it passes the end
use Rattle.std.specs.Prelude.{ℕ, ◌+◌, cond, List, length, Some, None, Option, nat_eq, nat_le}

abbrev pub spelled_by : {N : Type 0} → (List ℕ → N) → ℕ → List ℕ → Option N
spelled_by of_bytes width bs = cond (nat_eq (length bs) width) (Some (of_bytes bs)) None

abbrev pub found_by : {N : Type 0} → (List ℕ → ℕ → N) → ℕ → List ℕ → ℕ → Option N
found_by number width bs at = cond (nat_le (at + width) (length bs)) (Some (number bs at)) None
