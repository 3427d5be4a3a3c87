-- Lists for a store. Assumes nothing.
--   laid          a list of so many bytes, the content at its front, cut where it is longer, the rest 0xee
--   space_limit   the length of the lists together
--   in_use        the bytes in use of the store over one list or two
--   in_all        how many bytes the lists have
--   lists_bytes   the bytes in use of the store over the lists
--   lists_limit   its limit
use Rattle.std.specs.Prelude.{ℕ, ◌+◌, ◌-◌, List, ◌++◌, length, take, replicate, vec_items}
use Rattle.lent.specs.declared.lists.Space.{Space}
use Rattle.lent.specs.declared.lists.Space.TheVariants.{Flat, Split}
use Rattle.lent.specs.declared.lists.Parts.{Parts}
use Rattle.lent.specs.declared.lists.Parts.TheVariants.{One, Two}
use Rattle.lent.specs.declared.lists.Lists.{Lists}

abbrev pub laid : ℕ → List ℕ → List ℕ
laid limit bs = take limit bs ++ replicate (limit - length bs) 0xee

abbrev pub space_limit : Space → ℕ
space_limit (Flat n) = n
space_limit (Split m n) = m + n

abbrev pub in_use : Parts → ℕ → List ℕ
in_use (One list) used = take used (vec_items list)
in_use (Two front back) used = take used (vec_items front ++ vec_items back)

abbrev pub in_all : Parts → ℕ
in_all (One list) = length (vec_items list)
in_all (Two front back) = length (vec_items front) + length (vec_items back)

abbrev pub lists_bytes : Lists → List ℕ
lists_bytes l = in_use l.parts l.used

abbrev pub lists_limit : Lists → ℕ
lists_limit l = in_all l.parts
