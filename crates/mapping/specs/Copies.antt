-- A guest sector by the words of an earlier map, as a reader copies an image out. Assumes nothing.
--   word_shows     what a guest cluster's word leads to: zeros, the bytes at that host cluster, or the backing disk's sector
--   copy_outcome   the 512 bytes of a guest sector by its word, or the fault
--   shown_outcome  what read answers for the empty id, and peek for another
use Rattle.std.specs.Prelude.{ℕ, ◌+◌, ◌*◌, ◌/◌, ◌%◌, ◌^◌, cond, List, length, Ok, Result, ◌==◌, slice_index}
use Rattle.fault.specs.declared.Fault.{Fault}
use Rattle.fault.specs.Outcomes.{and_then}
use Rattle.byte_lists.specs.Runs.{zeros}
use Rattle.store.specs.Stores.{load}
use Rattle.disk.specs.Readings.{Reading}
use Rattle.format.specs.declared.numbers.Numbers.{Numbers}
use Rattle.format.specs.Clusters.{cluster, per_cluster}
use Rattle.store.specs.Words.{held}
use Rattle.guest.specs.Shown.{under, guest_clusters}
use Rattle.image.specs.Calls.{sector_judged, read_outcome, peek_outcome, room_judged}

abbrev pub word_shows : Numbers → List ℕ → Reading → ℕ → ℕ → Result (List ℕ) Fault
word_shows n bs backing w s =
    cond (w / 2 ^ 30 == 0) (under n backing s)
    (cond (w / 2 ^ 30 == 1) (Ok (zeros 512)) (load bs (held (w % 2 ^ 30 * cluster n + s % per_cluster n * 512)) 512))

abbrev pub copy_outcome : Result Numbers Fault → List ℕ → Reading → List ℕ → ℕ → ℕ → Result (List ℕ) Fault
copy_outcome header bs backing words s room =
    and_then header λ n.
    and_then (sector_judged n s room) λ _.
    and_then (room_judged (length words) (guest_clusters n)) λ _.
    word_shows n bs backing (slice_index words (s / per_cluster n)) s

abbrev pub shown_outcome : Result Numbers Fault → List ℕ → Reading → List ℕ → ℕ → ℕ → Result (List ℕ) Fault
shown_outcome header bs backing id s room = cond (length id == 0) (read_outcome header bs backing s room) (peek_outcome header bs backing id s room)
