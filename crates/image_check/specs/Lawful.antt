-- What a clean image is, in the words of the format. Assumes nothing.
--   Flag     an entry with an offset has the copied flag exactly where the stored count of its cluster is one
--   Lawful   every stored count equals the references; no cluster has two kinds; no table cluster is named twice, and
--            no L1 table reaches a cluster twice; and the copied flags in and under the live L1 table are right
use Rattle.std.specs.Prelude.{◌≡◌, ℕ, ◌+◌, ◌*◌, ◌/◌, ◌<◌, ◌≤◌, false, List, Some, IfSome, Ok, ◌==◌, ◌≢◌}
use Rattle.format.specs.declared.numbers.Numbers.{Numbers}
use Rattle.format.specs.Clusters.{cluster, per_table}
use Rattle.format.specs.declared.entries.Entry.{Entry}
use Rattle.tables.specs.Refcounts.{count}
use Rattle.snapshot.specs.declared.records.Snapshot.{Snapshot}
use Rattle.guest.specs.Shown.{l1_at}
use Rattle.walk.specs.References.{l2_at, entries_of, references}
use Rattle.tally.specs.Tally.{times, kind_from, twice}
use Rattle.image_check.specs.Totals.{clusters_of}

abbrev pub Flag : Numbers → List ℕ → Entry → Type 0
Flag n bs e = IfSome e.offset (λ at. e.copied ≡ (count n bs (at / cluster n) == 1))

pub record Lawful (n : Numbers) (bs : List ℕ) (rs : List Snapshot) : Type 0 where
  pub counted : (h : ℕ) → h < clusters_of n bs → count n bs h ≡ times h (references n bs rs)
  pub beyond : (h : ℕ) → clusters_of n bs ≤ h → count n bs h ≡ 0
  pub kinds : (h : ℕ) → h < clusters_of n bs → kind_from h 0 (references n bs rs) ≢ 15
  pub named : (h : ℕ) → h < clusters_of n bs → 1 ≤ kind_from h 0 (references n bs rs) → kind_from h 0 (references n bs rs) ≤ 6 → times h (references n bs rs) ≤ 1
  pub reached : (h : ℕ) → h < clusters_of n bs → twice n bs rs h ≡ false
  pub flags1 : (i : ℕ) (e : Entry) → i < entries_of n → l1_at n bs n.l1 i ≡ Ok e → Flag n bs e
  pub flags2 : (i g l2 : ℕ) (t e : Entry) → i < entries_of n → l1_at n bs n.l1 i ≡ Ok t → t.offset ≡ Some l2 → i * per_table n ≤ g → g < i * per_table n + per_table n → l2_at n bs l2 g ≡ Ok e → Flag n bs e
