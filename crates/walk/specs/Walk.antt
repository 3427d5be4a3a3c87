-- The walk: every entry and record that check meets, judged in its order. Assumes nothing.
--   blocks_judged   the entries of the refcount table
--   l2_judged       the entries of an L2 table, whose first guest cluster is given
--   tree_judged     the entries of an L1 table, each with its L2 table after it
--   trees_judged    the L1 tables of snapshots, one after another
--   walk            the snapshots of an image whose walk is good, or the first fault
use Rattle.std.specs.Prelude.{ℕ, Option, None, Some, ◌*◌, List, [], ◌∷◌, Ok, Result}
use Rattle.fault.specs.declared.Fault.{Fault}
use Rattle.fault.specs.Outcomes.{and_then, each}
use Rattle.format.specs.declared.numbers.Numbers.{Numbers}
use Rattle.format.specs.Clusters.{per_table}
use Rattle.tables.specs.Refcounts.{blocks}
use Rattle.snapshot.specs.declared.records.Snapshot.{Snapshot}
use Rattle.snapshot.specs.All.{records}
use Rattle.guest.specs.Shown.{l1_at}
use Rattle.walk.specs.References.{block_at, l2_at, entries_of}

abbrev pub blocks_judged : Numbers → List ℕ → Result (Unit {0}) Fault
blocks_judged n bs = each (block_at n bs) 0 (blocks n)

abbrev pub l2_judged : Numbers → List ℕ → ℕ → ℕ → Result (Unit {0}) Fault
l2_judged n bs l2 first = each (l2_at n bs l2) first (per_table n)

-- the L2 table that the i-th L1 entry leads to, if it leads anywhere
abbrev pub under_judged : Numbers → List ℕ → ℕ → Option ℕ → Result (Unit {0}) Fault
under_judged n bs i None = Ok tt
under_judged n bs i (Some l2) = l2_judged n bs l2 (i * per_table n)

-- an L1 entry, with its L2 table after it
abbrev pub branch_judged : Numbers → List ℕ → ℕ → ℕ → Result (Unit {0}) Fault
branch_judged n bs l1 i = and_then (l1_at n bs l1 i) λ e. under_judged n bs i e.offset

abbrev pub tree_judged : Numbers → List ℕ → ℕ → Result (Unit {0}) Fault
tree_judged n bs l1 = each (branch_judged n bs l1) 0 (entries_of n)

abbrev pub trees_judged : Numbers → List ℕ → List Snapshot → Result (Unit {0}) Fault
trees_judged n bs [] = Ok tt
trees_judged n bs (r ∷ rs) = and_then (tree_judged n bs r.head.l1) λ _. trees_judged n bs rs

abbrev pub walk : Numbers → List ℕ → Result (List Snapshot) Fault
walk n bs =
    and_then (blocks_judged n bs) λ _.
    and_then (tree_judged n bs n.l1) λ _.
    and_then (records n bs) λ rs.
    and_then (trees_judged n bs rs) λ _.
    Ok rs
