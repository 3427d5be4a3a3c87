-- How much there is to find at most. Assumes nothing.
use Rattle.std.proofs.Common.{ℕ, Option, None, Some, ◌+◌, ◌*◌, ◌^◌, ◌≤◌, min, List, Ok, Err, Result, arith}
use Rattle.std.proofs.lemmas.Nat.{mul-le}
use Rattle.fault.specs.declared.Fault.{Fault}
use Rattle.format.specs.declared.numbers.Numbers.{Numbers}
use Rattle.format.specs.declared.entries.Entry.{Entry}
use Rattle.format.specs.Clusters.{per_table}
use Rattle.format.proofs.Clusters.{cluster_most}
use Rattle.tables.specs.Refcounts.{per_block, blocks}
use Rattle.guest.specs.Shown.{l1_at}
use Rattle.walk.specs.References.{l2_at, block_at, entries_of}
use Rattle.image_check.specs.Totals.{sum, one, past, past_in, leaked_past, wrong, wrong_in, l2_wrong, under_wrong, branch_wrong, flags}
use Rattle.image_check.proofs.Sums.{sum_most, one_most}

module _ (n : Numbers) (bs : List ℕ) where
  table_most : per_table n ≤ 2 ^ 18
  table_most = omega (arith, cluster_most n.bits)

  pub in_block_most : (i b : ℕ) → sum (λ j. one (past n bs i b j)) 0 (per_block n) ≤ 2 ^ 20
  in_block_most i b = omega (arith, cluster_most n.bits, sum_most (λ j. one (past n bs i b j)) 1 (λ j. one_most (past n bs i b j)) (per_block n) 0)

  past_in_most : (i : ℕ) (r : Result (Option ℕ) Fault) → past_in n bs i r ≤ 2 ^ 20
  past_in_most i (Ok None) = omega arith
  past_in_most i (Ok (Some b)) = in_block_most i b
  past_in_most i (Err f) = omega arith

  pub past_most : leaked_past n bs ≤ 2 ^ 44
  past_most =
      let few : blocks n ≤ 2 ^ 24 = omega (arith, mul-le (min n.extent 64) (per_table n) 64 (2 ^ 18) (omega arith) table_most) in
      omega (arith, mul-le (blocks n) (2 ^ 20) (2 ^ 24) (2 ^ 20) few (omega arith), sum_most (λ i. past_in n bs i (block_at n bs i)) (2 ^ 20) (λ i. past_in_most i (block_at n bs i)) (blocks n) 0)

  wrong_most : (r : Result Entry Fault) → wrong_in n bs r ≤ 1
  wrong_most (Ok e) = one_most (wrong n bs e)
  wrong_most (Err f) = omega arith

  pub l2_most : (l2 first : ℕ) → l2_wrong n bs l2 first ≤ 2 ^ 18
  l2_most l2 first = omega (arith, table_most, sum_most (λ g. wrong_in n bs (l2_at n bs l2 g)) 1 (λ g. wrong_most (l2_at n bs l2 g)) (per_table n) first)

  pub under_most : (i : ℕ) (o : Option ℕ) → under_wrong n bs i o ≤ 2 ^ 18
  under_most i None = omega arith
  under_most i (Some l2) = l2_most l2 (i * per_table n)

  branch_most : (i : ℕ) (r : Result Entry Fault) → branch_wrong n bs i r ≤ 2 ^ 18 + 1
  branch_most i (Ok e) = omega (arith, one_most (wrong n bs e), under_most i e.offset)
  branch_most i (Err f) = omega arith

  pub flags_most : flags n bs ≤ 2 ^ 18 * (2 ^ 18 + 1)
  flags_most =
      let few : entries_of n ≤ 2 ^ 18 = omega (arith, table_most) in
      omega (arith, few, sum_most (λ i. branch_wrong n bs i (l1_at n bs n.l1 i)) (2 ^ 18 + 1) (λ i. branch_most i (l1_at n bs n.l1 i)) (entries_of n) 0)
