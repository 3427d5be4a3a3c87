-- The references of an image: every cluster that the header and the tables name, with the kind that it is named as. Assumes nothing.
--   kind_number   the number of a kind; 0 is no kind, 15 several
--   Ref           a host cluster, named as a kind
--   l2_at         the L2 entry of a guest cluster in the table at an offset; past the guest's end it must be 0
--   l2_refs       the data clusters that an L2 table names, whose first guest cluster is given
--   tree_refs     what an L1 table leads to: each L2 table, then its data
--   table_refs    the refcount table's clusters; block_refs: the blocks that it names
--   references    all references, in the order of the walk
use Rattle.std.specs.Prelude.{ℕ, Option, None, Some, zero, suc, ◌+◌, ◌*◌, ◌/◌, min, cond, List, [], ◌∷◌, ◌++◌, length, Ok, Err, Result, ◌==◌, nat_lt}
use Rattle.fault.specs.declared.Fault.{Fault}
use Rattle.fault.specs.declared.Layer.TheVariants.{Tables}
use Rattle.fault.specs.declared.Reason.TheVariants.{BadEntry, Compressed}
use Rattle.fault.specs.Faults.{fault}
use Rattle.fault.specs.Outcomes.{and_then}
use Rattle.store.specs.Words.{word}
use Rattle.format.specs.declared.numbers.Numbers.{Numbers}
use Rattle.format.specs.Clusters.{cluster, per_table}
use Rattle.format.specs.declared.entries.Entry.{Entry}
use Rattle.format.specs.Entries.{l2_entry, compressed_in}
use Rattle.tables.specs.Refcounts.{blocks, block_place, block_entry}
use Rattle.snapshot.specs.declared.records.Snapshot.{Snapshot}
use Rattle.guest.specs.Shown.{empty, l1_at, l2_place, guest_clusters}
use Rattle.walk.specs.declared.kinds.Kind.{Kind}
use Rattle.walk.specs.declared.kinds.Kind.TheVariants.{Header, RefcountTable, Block, LiveL1, SnapshotTable, SnapshotL1, L2, Data}

abbrev pub kind_number : Kind → ℕ
kind_number Header = 1
kind_number RefcountTable = 2
kind_number Block = 3
kind_number LiveL1 = 4
kind_number SnapshotTable = 5
kind_number SnapshotL1 = 6
kind_number L2 = 7
kind_number Data = 8

pub record Ref : Type 0 where
  pub kind : Kind
  pub host : ℕ

-- the cluster at an offset, as a kind
abbrev pub named : Numbers → Kind → ℕ → Ref
named n k offset = record { kind = k; host = offset / cluster n }

-- past the guest's end an entry must be 0
abbrev pub l2_judged_at : Numbers → ℕ → ℕ → ℕ → ℕ → Result Entry Fault
l2_judged_at n len place g w =
    cond (nat_lt g (guest_clusters n)) (l2_entry n len place w)
    (cond (compressed_in w) (Err (fault Compressed Tables place)) (cond (w == 0) (Ok empty) (Err (fault BadEntry Tables place))))

abbrev pub l2_at : Numbers → List ℕ → ℕ → ℕ → Result Entry Fault
l2_at n bs l2 g = and_then (word bs (l2_place n l2 g) 8) λ w. l2_judged_at n (length bs) (l2_place n l2 g) g w

-- the cluster that an offset leads to, as a kind
abbrev pub offset_refs : Numbers → Kind → Option ℕ → List Ref
offset_refs n k None = []
offset_refs n k (Some offset) = named n k offset ∷ []

-- what an entry that was judged good names
abbrev pub entry_refs : Numbers → Result Entry Fault → List Ref
entry_refs n (Ok e) = offset_refs n Data e.offset
entry_refs n (Err f) = []

-- lists of k numbers in a row, from i on, one behind the other
abbrev pub gather : {A : Type 0} → (ℕ → List A) → ℕ → ℕ → List A
gather f i zero = []
gather f i (suc k) = f i ++ gather f (i + 1) k

abbrev pub l2_refs : Numbers → List ℕ → ℕ → ℕ → List Ref
l2_refs n bs l2 first = gather (λ g. entry_refs n (l2_at n bs l2 g)) first (per_table n)

-- the L2 table that the i-th L1 entry leads to, and what is in it
abbrev pub l2_named : Numbers → List ℕ → ℕ → Option ℕ → List Ref
l2_named n bs i None = []
l2_named n bs i (Some l2) = named n L2 l2 ∷ l2_refs n bs l2 (i * per_table n)

abbrev pub branch : Numbers → List ℕ → ℕ → Result Entry Fault → List Ref
branch n bs i (Ok e) = l2_named n bs i e.offset
branch n bs i (Err f) = []

abbrev pub branch_refs : Numbers → List ℕ → ℕ → ℕ → List Ref
branch_refs n bs l1 i = branch n bs i (l1_at n bs l1 i)

abbrev pub entries_of : Numbers → ℕ
entries_of n = min n.entries (per_table n)

abbrev pub tree_refs : Numbers → List ℕ → ℕ → List Ref
tree_refs n bs l1 = gather (branch_refs n bs l1) 0 (entries_of n)

abbrev pub table_refs : Numbers → List Ref
table_refs n = gather (λ i. record { kind = RefcountTable; host = n.refcounts / cluster n + i } ∷ []) 0 (min n.extent 64)

abbrev pub block_at : Numbers → List ℕ → ℕ → Result (Option ℕ) Fault
block_at n bs k = and_then (word bs (block_place n k) 8) λ w. block_entry n (length bs) (block_place n k) w

abbrev pub named_block : Numbers → Result (Option ℕ) Fault → List Ref
named_block n (Ok b) = offset_refs n Block b
named_block n (Err f) = []

abbrev pub block_refs : Numbers → List ℕ → List Ref
block_refs n bs = gather (λ i. named_block n (block_at n bs i)) 0 (blocks n)

-- an L1 table and all that it leads to
abbrev pub l1_refs : Numbers → List ℕ → Kind → ℕ → List Ref
l1_refs n bs kind l1 = named n kind l1 ∷ tree_refs n bs l1

abbrev pub snapshot_refs : Numbers → List ℕ → List Snapshot → List Ref
snapshot_refs n bs [] = []
snapshot_refs n bs (r ∷ rs) = l1_refs n bs SnapshotL1 r.head.l1 ++ snapshot_refs n bs rs

abbrev pub record_refs : Numbers → List Ref
record_refs n = cond (n.snapshots == 0) [] (named n SnapshotTable n.records ∷ [])

abbrev pub references : Numbers → List ℕ → List Snapshot → List Ref
references n bs rs =
    named n Header 0
    ∷ (table_refs n
    ++ (block_refs n bs
    ++ (l1_refs n bs LiveL1 n.l1
    ++ (record_refs n
    ++ snapshot_refs n bs rs))))
