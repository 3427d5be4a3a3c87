-- The five totals of a check. Assumes nothing.
--   sum           of k numbers in a row, from i on
--   clusters_of   the host clusters of a store
--   held_times    the references to a cluster, held as a tally word holds them
--   leaked        clusters counted above their references, in the store and past its end
--   short         clusters counted below
--   mixed         clusters of several kinds
--   repeated      clusters of the kinds 1 to 6 with two references or more, or reached more than once from one L1 table
--   flags         entries in and under the live L1 table whose copied flag does not say whether the count is one
use Rattle.std.specs.Prelude.{ℕ, Option, None, Some, zero, suc, ◌+◌, ◌-◌, ◌*◌, ◌/◌, ◌^◌, min, Bool, false, cond, not, ◌&&◌, ◌||◌, List, length, Ok, Err, Result, ◌==◌, nat_le, nat_lt, slice_index}
use Rattle.fault.specs.declared.Fault.{Fault}
use Rattle.store.specs.Words.{word, held}
use Rattle.format.specs.declared.numbers.Numbers.{Numbers}
use Rattle.format.specs.Clusters.{cluster, per_table}
use Rattle.format.specs.declared.entries.Entry.{Entry}
use Rattle.tables.specs.Refcounts.{per_block, blocks, count, value}
use Rattle.snapshot.specs.declared.records.Snapshot.{Snapshot}
use Rattle.guest.specs.Shown.{l1_at}
use Rattle.walk.specs.References.{Ref, l2_at, block_at, entries_of}
use Rattle.tally.specs.Tally.{times, kind_from, twice}

abbrev pub sum : (ℕ → ℕ) → ℕ → ℕ → ℕ
sum f i zero = 0
sum f i (suc k) = f i + sum f (i + 1) k

abbrev pub one : Bool → ℕ
one b = cond b 1 0

-- of a list of words, by their places
abbrev pub sum_by : (ℕ → ℕ → Bool) → List ℕ → ℕ → ℕ
sum_by f words k = sum (λ h. one (f h (slice_index words h))) 0 k

abbrev pub clusters_of : Numbers → List ℕ → ℕ
clusters_of n bs = length bs / cluster n

abbrev pub held_times : List Ref → ℕ → ℕ
held_times refs h = min (2 ^ 28 - 1) (times h refs)

-- of a cluster: by its references and its count
abbrev pub leaks : ℕ → ℕ → Bool
leaks refs counted = nat_lt refs counted

abbrev pub lacks : ℕ → ℕ → Bool
lacks refs counted = nat_lt counted refs

-- by its kind, its references, and whether a table reaches it twice
abbrev pub repeats : ℕ → ℕ → Bool → Bool
repeats kind refs again = again || (nat_le 1 kind && (nat_le kind 6 && nat_le 2 refs))

-- a count past the store's end, in the block at b that the i-th entry names
abbrev pub past : Numbers → List ℕ → ℕ → ℕ → ℕ → Bool
past n bs i b j = nat_le (clusters_of n bs) (i * per_block n + j) && not (value (word bs (held (b + j * 2)) 2) == 0)

-- counts past the store's end, in a block that the i-th entry names
abbrev pub past_in : Numbers → List ℕ → ℕ → Result (Option ℕ) Fault → ℕ
past_in n bs i (Ok None) = 0
past_in n bs i (Ok (Some b)) = sum (λ j. one (past n bs i b j)) 0 (per_block n)
past_in n bs i (Err f) = 0

abbrev pub leaked_past : Numbers → List ℕ → ℕ
leaked_past n bs = sum (λ i. past_in n bs i (block_at n bs i)) 0 (blocks n)

abbrev pub leaked : Numbers → List ℕ → List Ref → ℕ
leaked n bs refs = sum (λ h. one (leaks (held_times refs h) (count n bs h))) 0 (clusters_of n bs) + leaked_past n bs

abbrev pub short : Numbers → List ℕ → List Ref → ℕ
short n bs refs = sum (λ h. one (lacks (held_times refs h) (count n bs h))) 0 (clusters_of n bs)

abbrev pub mixed : Numbers → List ℕ → List Ref → ℕ
mixed n bs refs = sum (λ h. one (kind_from h 0 refs == 15)) 0 (clusters_of n bs)

abbrev pub repeated : Numbers → List ℕ → List Snapshot → List Ref → ℕ
repeated n bs rs refs = sum (λ h. one (repeats (kind_from h 0 refs) (held_times refs h) (twice n bs rs h))) 0 (clusters_of n bs)

-- whether a copied flag does not say what the count of the cluster at an offset says
abbrev pub wrong_at : Numbers → List ℕ → Bool → Option ℕ → Bool
wrong_at n bs copied None = false
wrong_at n bs copied (Some at) = cond copied (not (count n bs (at / cluster n) == 1)) (count n bs (at / cluster n) == 1)

abbrev pub wrong : Numbers → List ℕ → Entry → Bool
wrong n bs e = wrong_at n bs e.copied e.offset

abbrev pub wrong_in : Numbers → List ℕ → Result Entry Fault → ℕ
wrong_in n bs (Ok e) = one (wrong n bs e)
wrong_in n bs (Err f) = 0

abbrev pub l2_wrong : Numbers → List ℕ → ℕ → ℕ → ℕ
l2_wrong n bs l2 first = sum (λ g. wrong_in n bs (l2_at n bs l2 g)) first (per_table n)

-- in the L2 table that the i-th L1 entry leads to
abbrev pub under_wrong : Numbers → List ℕ → ℕ → Option ℕ → ℕ
under_wrong n bs i None = 0
under_wrong n bs i (Some l2) = l2_wrong n bs l2 (i * per_table n)

-- of an L1 entry and the L2 table that it leads to
abbrev pub branch_wrong : Numbers → List ℕ → ℕ → Result Entry Fault → ℕ
branch_wrong n bs i (Ok e) = one (wrong n bs e) + under_wrong n bs i e.offset
branch_wrong n bs i (Err f) = 0

abbrev pub flags : Numbers → List ℕ → ℕ
flags n bs = sum (λ i. branch_wrong n bs i (l1_at n bs n.l1 i)) 0 (entries_of n)
