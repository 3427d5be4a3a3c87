-- The refcount table, its blocks and the counts in them. Assumes nothing.
--   per_block     the counts of a block: c / 2, of two bytes each
--   blocks        the entries of the refcount table, which fills its clusters
--   block_place   where the entry of a block stands
--   block_placed  an entry leads nowhere, or to a whole cluster of the store
--   block_entry   that entry judged, and where it leads
--   block_at      where the entry as it stands leads
--   count_under   the count of a host cluster in its block; without a block 0
--   count_in      the same, read through the table
--   count         the same where nothing refuses
use Rattle.std.specs.Prelude.{ℕ, Option, None, Some, ◌+◌, ◌*◌, ◌/◌, ◌%◌, min, Bool, true, cond, List, Ok, Err, Result, nat_lt}
use Rattle.fault.specs.declared.Fault.{Fault}
use Rattle.fault.specs.declared.Layer.TheVariants.{Tables}
use Rattle.fault.specs.declared.Reason.TheVariants.{BadEntry}
use Rattle.fault.specs.Faults.{fault}
use Rattle.fault.specs.Outcomes.{and_then}
use Rattle.store.specs.Words.{word, held}
use Rattle.format.specs.declared.numbers.Numbers.{Numbers}
use Rattle.format.specs.Clusters.{cluster, per_table}
use Rattle.format.specs.Header.{table_good}
use Rattle.format.specs.Entries.{leads}

abbrev pub per_block : Numbers → ℕ
per_block n = cluster n / 2

-- at most 64 clusters, which a good header has
abbrev pub blocks : Numbers → ℕ
blocks n = min n.extent 64 * per_table n

abbrev pub block_place : Numbers → ℕ → ℕ
block_place n k = held (n.refcounts + k * 8)

abbrev pub block_placed : Numbers → ℕ → Option ℕ → Bool
block_placed n len None = true
block_placed n len (Some b) = table_good n len b 1

abbrev pub block_entry : Numbers → ℕ → ℕ → ℕ → Result (Option ℕ) Fault
block_entry n len place w = cond (block_placed n len (leads w)) (Ok (leads w)) (Err (fault BadEntry Tables place))

abbrev pub block_at : Numbers → List ℕ → ℕ → Result (Option ℕ) Fault
block_at n bs k = cond (nat_lt k (blocks n)) (and_then (word bs (block_place n k) 8) λ w. Ok (leads w)) (Ok None)

abbrev pub count_under : Numbers → List ℕ → ℕ → Option ℕ → Result ℕ Fault
count_under n bs h None = Ok 0
count_under n bs h (Some b) = word bs (held (b + h % per_block n * 2)) 2

abbrev pub count_in : Numbers → List ℕ → ℕ → Result ℕ Fault
count_in n bs h = and_then (block_at n bs (h / per_block n)) λ b. count_under n bs h b

abbrev pub value : Result ℕ Fault → ℕ
value (Ok x) = x
value (Err f) = 0

abbrev pub count : Numbers → List ℕ → ℕ → ℕ
count n bs h = value (count_in n bs h)
