-- What follows from a header's numbers. Assumes nothing.
--   held_bits   the cluster bits, held between 9 and 21, which a good header's are
--   cluster     the cluster size c
--   per_table   the entries of an L1 or L2 table: c / 8
--   per_cluster the sectors of a cluster: c / 512
--   span        the guest bytes under one L1 entry: c * (c / 8)
--   begun       the parts of k that n begins
--   sectors     the guest's sectors
use Rattle.std.specs.Prelude.{ℕ, ◌+◌, ◌*◌, ◌/◌, ◌%◌, ◌^◌, min, max, cond, ◌==◌}
use Rattle.format.specs.declared.numbers.Numbers.{Numbers}

abbrev pub held_bits : ℕ → ℕ
held_bits b = max (min b 21) 9

unfoldable pub cluster_of : ℕ → ℕ
cluster_of b = 2 ^ held_bits b

abbrev pub cluster : Numbers → ℕ
cluster n = cluster_of n.bits

abbrev pub per_table : Numbers → ℕ
per_table n = cluster n / 8

abbrev pub per_cluster : Numbers → ℕ
per_cluster n = cluster n / 512

abbrev pub begun : ℕ → ℕ → ℕ
begun n k = n / k + cond (n % k == 0) 0 1

abbrev pub span_of : ℕ → ℕ
span_of c = c * (c / 8)

abbrev pub sectors : Numbers → ℕ
sectors n = n.size / 512
