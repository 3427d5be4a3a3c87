-- What the tables show: the guest cluster's entry, the guest sector, the live disk. Assumes nothing.
--   l1_at           an L1 entry of the table at an offset
--   l2_under        the entry of a guest cluster in the L2 table that its L1 entry leads to, if it leads anywhere
--   guest_entry     the entry of a guest cluster under an L1 table, or the first fault on the way
--   under           what shows through an empty entry
--   shows           the answer of a guest sector under an L1 table
--   guest_sectors   the guest's sectors
--   guest_clusters  the guest's clusters, a part one at the end among them
--   table_reading   the disk that an L1 table shows: the live one's is the guest disk, a snapshot's what was kept
--   live_reading    the guest disk
--   mount_sectors   how many sectors a mount has as a disk
--   mount_reading   what a mount means as a disk
use Rattle.std.specs.Prelude.{ℕ, Option, None, Some, ◌+◌, ◌*◌, ◌/◌, ◌%◌, ◌^◌, min, false, cond, ◌||◌, List, length, Ok, Err, Result, ◌==◌, nat_le}
use Rattle.fault.specs.declared.Fault.{Fault}
use Rattle.fault.specs.Faults.{deeper}
use Rattle.fault.specs.Outcomes.{and_then}
use Rattle.byte_lists.specs.Runs.{zeros}
use Rattle.store.specs.Stores.{load}
use Rattle.store.specs.Words.{word, held}
use Rattle.disk.specs.Readings.{Reading, shown}
use Rattle.format.specs.declared.numbers.Numbers.{Numbers}
use Rattle.format.specs.declared.entries.Entry.{Entry}
use Rattle.format.specs.Clusters.{cluster, begun, per_table, per_cluster, sectors}
use Rattle.format.specs.Entries.{l1_entry, l2_entry}

-- where the i-th entry of the L1 table at an offset stands
abbrev pub l1_place : ℕ → ℕ → ℕ
l1_place l1 i = held (l1 + i * 8)

abbrev pub l1_at : Numbers → List ℕ → ℕ → ℕ → Result Entry Fault
l1_at n bs l1 i = and_then (word bs (l1_place l1 i) 8) λ w. l1_entry n (length bs) (l1_place l1 i) w

-- where guest cluster g's entry of the L2 table at an offset stands
abbrev pub l2_place : Numbers → ℕ → ℕ → ℕ
l2_place n l2 g = held (l2 + g % per_table n * 8)

abbrev pub empty : Entry
empty = record { offset = None; copied = false; zero = false }

abbrev pub l2_under : Numbers → List ℕ → ℕ → Option ℕ → Result Entry Fault
l2_under n bs g None = Ok empty
l2_under n bs g (Some l2) = and_then (word bs (l2_place n l2 g) 8) λ w. l2_entry n (length bs) (l2_place n l2 g) w

abbrev pub guest_entry : Numbers → List ℕ → ℕ → ℕ → Result Entry Fault
guest_entry n bs l1 g = and_then (l1_at n bs l1 (g / per_table n)) λ e. l2_under n bs g e.offset

-- a backing disk's fault has passed that disk
abbrev pub passed_up : Result (List ℕ) Fault → Result (List ℕ) Fault
passed_up (Ok bs) = Ok bs
passed_up (Err f) = Err (deeper f)

-- past the backing disk's end, or without a backing name, zeros
abbrev pub under : Numbers → Reading → ℕ → Result (List ℕ) Fault
under n backing s = cond (n.name == 0 || nat_le backing.sectors s) (Ok (zeros 512)) (passed_up (backing.answer s))

-- data, or the backing disk
abbrev pub offset_shows : Numbers → List ℕ → Reading → Option ℕ → ℕ → Result (List ℕ) Fault
offset_shows n bs backing None s = under n backing s
offset_shows n bs backing (Some at) s = load bs (held (at + s % per_cluster n * 512)) 512

-- marked zero, or else what its offset shows
abbrev pub entry_shows : Numbers → List ℕ → Reading → Entry → ℕ → Result (List ℕ) Fault
entry_shows n bs backing e s = cond e.zero (Ok (zeros 512)) (offset_shows n bs backing e.offset s)

abbrev pub shows : Numbers → List ℕ → Reading → ℕ → ℕ → Result (List ℕ) Fault
shows n bs backing table s = and_then (guest_entry n bs table (s / per_cluster n)) λ e. entry_shows n bs backing e s

-- a guest size of 64 bits has at most 2 to the 55 sectors
abbrev pub guest_sectors : Numbers → ℕ
guest_sectors n = min (sectors n) (2 ^ 55)

abbrev pub guest_clusters : Numbers → ℕ
guest_clusters n = begun n.size (cluster n)

abbrev pub table_reading : Numbers → List ℕ → Reading → ℕ → Reading
table_reading n bs backing table = shown (guest_sectors n) (shows n bs backing table)

-- a bad header has all the sectors that a disk can have
abbrev pub mount_sectors : Result Numbers Fault → ℕ
mount_sectors (Ok n) = guest_sectors n
mount_sectors (Err f) = 2 ^ 55

abbrev pub live_reading : Numbers → List ℕ → Reading → Reading
live_reading n bs backing = shown (guest_sectors n) (shows n bs backing n.l1)

-- a bad header is every sector's answer, never zeros
abbrev pub mount_reading : Result Numbers Fault → List ℕ → Reading → Reading
mount_reading (Ok n) bs backing = live_reading n bs backing
mount_reading (Err f) bs backing = shown (2 ^ 55) (λ s. Err f)
