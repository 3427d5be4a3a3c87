-- The map of a guest disk: a word for each guest cluster. Assumes nothing.
--   word_of         an entry's word: the top two bits are 0 for empty, 1 for zeros, 2 for data; the rest is data's host cluster
--   words_of        the words of the first k guest clusters
--   table_for       the L1 table that an id names: none the live one
--   map_outcome     the list after map, or the fault; further words stay
use Rattle.std.specs.Prelude.{ℕ, Option, None, Some, ◌+◌, ◌-◌, ◌/◌, ◌^◌, min, cond, List, ◌++◌, map, length, drop, Ok, Err, Result, ◌==◌, nat_le}
use Rattle.std.specs.List.{range_with_len}
use Rattle.fault.specs.declared.Fault.{Fault}
use Rattle.fault.specs.declared.Layer.TheVariants.{Call}
use Rattle.fault.specs.declared.Reason.TheVariants.{BadId}
use Rattle.fault.specs.Faults.{fault}
use Rattle.fault.specs.Outcomes.{and_then, each}
use Rattle.format.specs.declared.numbers.Numbers.{Numbers}
use Rattle.format.specs.Clusters.{cluster}
use Rattle.format.specs.declared.entries.Entry.{Entry}
use Rattle.snapshot.specs.All.{table}
use Rattle.guest.specs.Shown.{guest_entry, guest_clusters}
use Rattle.image.specs.Calls.{room_judged}

-- the host cluster is held at 30 bits: a good image has at most 2 to the 28
abbrev pub offset_word : Numbers → Option ℕ → ℕ
offset_word n None = 0
offset_word n (Some at) = 2 ^ 31 + min (2 ^ 30 - 1) (at / cluster n)

abbrev pub word_of : Numbers → Entry → ℕ
word_of n e = cond e.zero (2 ^ 30) (offset_word n e.offset)

-- of an entry that was judged good
abbrev pub word_in : Numbers → Result Entry Fault → ℕ
word_in n (Ok e) = word_of n e
word_in n (Err f) = 0

abbrev pub words_of : Numbers → List ℕ → ℕ → ℕ → List ℕ
words_of n bs l1 k = map (λ g. word_in n (guest_entry n bs l1 g)) (range_with_len 0 k)

-- at most 16 bytes: the empty id is the live disk's
abbrev pub map_id_judged : List ℕ → Result (Unit {0}) Fault
map_id_judged id = cond (nat_le (length id) 16) (Ok tt) (Err (fault BadId Call 0))

abbrev pub table_for : Numbers → List ℕ → List ℕ → Result ℕ Fault
table_for n bs id = cond (length id == 0) (Ok n.l1) (table n bs id)

abbrev pub map_outcome : Result Numbers Fault → List ℕ → List ℕ → List ℕ → Result (List ℕ) Fault
map_outcome header bs id words =
    and_then header λ n.
    and_then (map_id_judged id) λ _.
    and_then (room_judged (length words) (guest_clusters n)) λ _.
    and_then (table_for n bs id) λ l1.
    and_then (each (guest_entry n bs l1) 0 (guest_clusters n)) λ _.
    Ok (words_of n bs l1 (guest_clusters n) ++ drop (guest_clusters n) words)
