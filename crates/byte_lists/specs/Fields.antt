-- Lists of big-endian numbers at their places. Assumes nothing.
--   spelled   a list with each number set, one after another
--   Ordered   the numbers stand in ascending order from a place on, apart from each other, up to an end
use Rattle.std.specs.Prelude.{ℕ, ◌+◌, ◌≤◌, List, [], ◌∷◌}
use Rattle.byte_lists.specs.Numbers.{spell}
use Rattle.byte_lists.specs.declared.Field.{Field}

abbrev pub field : ℕ → ℕ → ℕ → Field
field at wide value = record { at = at; wide = wide; value = value }

abbrev pub spelled : List Field → List ℕ → List ℕ
spelled [] bs = bs
spelled (f ∷ fs) bs = spelled fs (spell bs f.at f.wide f.value)

abbrev pub Ordered : ℕ → ℕ → List Field → Type 0
Ordered from end [] = from ≤ end
Ordered from end (f ∷ fs) = (from ≤ f.at) × Ordered (f.at + f.wide) end fs
