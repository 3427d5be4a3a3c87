-- Tally words while an image is walked: the six kinds that no final word has, 9 to 14, mark clusters that a walk
-- of one L1 table has reached, once or more often. Assumes nothing.
--   code_of    a kind with a mark: 0 not reached from this table, 1 reached once, 2 reached more than once from some table
--   kind_in    the kind that a code stands for; mark_in: its mark
--   noted      a word after one more reference of a kind; L2 tables and data are reached from an L1 table
--   unseen     a word after the walk of one table: reached once is taken back
--   unmarked   a word without its mark
use Rattle.std.specs.Prelude.{ℕ, ◌+◌, ◌-◌, ◌*◌, ◌/◌, ◌%◌, ◌^◌, min, cond, ◌==◌, nat_le, nat_lt}
use Rattle.tally.specs.Tally.{merged}

abbrev pub code_of : ℕ → ℕ → ℕ
code_of j m = cond (m == 0) j (6 + m * 3 + cond (j == 7) 0 (cond (j == 8) 1 2))

abbrev pub kind_in : ℕ → ℕ
kind_in c = cond (nat_lt c 9) c (cond (c == 15) 15 (cond (c % 3 == 0) 7 (cond (c % 3 == 1) 8 15)))

abbrev pub mark_in : ℕ → ℕ
mark_in c = cond (nat_lt c 9) 0 (cond (c == 15) 0 (cond (nat_lt c 12) 1 2))

-- L2 tables and data are reached once more
abbrev pub reached : ℕ → ℕ → ℕ
reached k m = cond (nat_le 7 k) (min 2 (m + 1)) m

abbrev pub packed : ℕ → ℕ → ℕ → ℕ
packed j m t = code_of j m * 2 ^ 28 + min (2 ^ 28 - 1) t

abbrev pub noted : ℕ → ℕ → ℕ
noted k w = packed (merged (kind_in (w / 2 ^ 28)) k) (reached k (mark_in (w / 2 ^ 28))) (w % 2 ^ 28 + 1)

abbrev pub unseen : ℕ → ℕ
unseen w = packed (kind_in (w / 2 ^ 28)) (cond (mark_in (w / 2 ^ 28) == 2) 2 0) (w % 2 ^ 28)

abbrev pub unmarked : ℕ → ℕ
unmarked w = packed (kind_in (w / 2 ^ 28)) 0 (w % 2 ^ 28)
