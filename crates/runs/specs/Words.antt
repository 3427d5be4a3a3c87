-- Runs of a map's words. Assumes nothing.
--   goes_on   a word that goes on the run of the word before it: the same, or for data the next host cluster
--   kind_of   what a word says: the top two bits are 0 for empty, 1 for zeros, 2 for data; the rest is data's host cluster
--   word_of   the word that says it; the host cluster is held at 30 bits
use Rattle.std.specs.Prelude.{ℕ, ◌+◌, ◌-◌, ◌/◌, ◌%◌, ◌^◌, min, Bool, cond, ◌==◌, nat_lt}
use Rattle.runs.specs.declared.Kind.{Kind}
use Rattle.runs.specs.declared.Kind.TheVariants.{Empty, Zeros, Data}

abbrev pub goes_on : ℕ → ℕ → Bool
goes_on before word = cond (nat_lt before (2 ^ 31)) (before == word) (before + 1 == word)

abbrev pub kind_of : ℕ → Kind
kind_of word = cond (word / 2 ^ 30 == 0) Empty (cond (word / 2 ^ 30 == 1) Zeros (Data (word % 2 ^ 30)))

abbrev pub word_of : Kind → ℕ
word_of Empty = 0
word_of Zeros = 2 ^ 30
word_of (Data host) = 2 ^ 31 + min (2 ^ 30 - 1) host
