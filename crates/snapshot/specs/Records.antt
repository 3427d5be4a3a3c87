-- Snapshot records, judged. Assumes nothing.
--   body         the bytes of a record without its padding, by the sizes in its first 40 bytes
--   head_good    what those must hold
--   rest_good    what the whole record must hold besides
--   record_in    the record at a place of the snapshot table, or the fault at its first byte
--   id_of        the id of a record that was kept
use Rattle.std.specs.Prelude.{ℕ, ◌+◌, ◌-◌, ◌*◌, ◌/◌, ◌^◌, min, Bool, cond, ◌&&◌, ◌||◌, List, length, take, Ok, Err, Result, ◌==◌, nat_le}
use Rattle.std.specs.List.{list_all}
use Rattle.fault.specs.declared.Fault.{Fault}
use Rattle.fault.specs.declared.Layer.TheVariants.{Tables}
use Rattle.fault.specs.declared.Reason.TheVariants.{BadEntry}
use Rattle.fault.specs.Faults.{fault}
use Rattle.fault.specs.Outcomes.{and_then}
use Rattle.byte_lists.specs.Runs.{run, grow}
use Rattle.byte_lists.specs.Numbers.{number}
use Rattle.store.specs.Stores.{load}
use Rattle.format.specs.declared.numbers.Numbers.{Numbers}
use Rattle.snapshot.specs.declared.records.Head.{Head}
use Rattle.snapshot.specs.declared.records.Snapshot.{Snapshot}
use Rattle.format.specs.Clusters.{cluster}
use Rattle.format.specs.Header.{table_good}

abbrev pub head_of : List ℕ → Head
head_of r = record { l1 = number r 0 8; entries = number r 8 4; id = number r 12 2; name = number r 14 2; state = number r 32 4; extra = number r 36 4 }

abbrev pub body : Head → ℕ
body h = 40 + h.extra + h.id + h.name

-- with its padding
abbrev pub size : Head → ℕ
size h = (body h + 7) / 8 * 8

-- 16 to 1,024 bytes, in version 2 also none
abbrev pub extra_good : Numbers → Head → Bool
extra_good n h = (nat_le 16 h.extra && nat_le h.extra 1024) || (n.version == 2 && h.extra == 0)

abbrev pub sizes_good : Numbers → Head → Bool
sizes_good n h = nat_le 1 h.id && (nat_le h.id 16 && (nat_le h.name 64 && extra_good n h))

-- its L1 table is placed and has the header's entries; no machine state was saved
abbrev pub head_good : Numbers → ℕ → Head → Bool
head_good n len h = table_good n len h.l1 1 && (h.entries == n.entries && (h.state == 0 && sizes_good n h))

-- no machine state, and the header's guest size
abbrev pub extra_says : Numbers → Head → List ℕ → Bool
extra_says n h r = h.extra == 0 || (number r 40 8 == 0 && number r 48 8 == n.size)

abbrev pub all_zero : List ℕ → Bool
all_zero = list_all (λ b. b == 0)

abbrev pub rest_good : Numbers → Head → List ℕ → Bool
rest_good n h r = extra_says n h r && all_zero (run r (body h) (size h - body h))

-- a test that must pass, else the record is bad
abbrev pub record_good : Bool → ℕ → Result (Unit {0}) Fault
record_good test place = cond test (Ok tt) (Err (fault BadEntry Tables place))

-- the id of a record, from its bytes, filled up with zeros
abbrev pub id_in : Head → List ℕ → List ℕ
id_in h r = grow (run r (40 + h.extra) h.id) 16

-- what is kept of a good record, from its bytes
abbrev pub snapshot : ℕ → Head → List ℕ → Snapshot
snapshot place h r = record { place = place; head = h; id = id_in h r }

abbrev pub head_in : Numbers → List ℕ → ℕ → ℕ → Result Head Fault
head_in n bs place at =
    and_then (record_good (nat_le (at + 40) (cluster n)) place) λ _.
    and_then (load bs place 40) λ r.
    and_then (record_good (head_good n (length bs) (head_of r)) place) λ _.
    and_then (record_good (nat_le (at + size (head_of r)) (cluster n)) place) λ _.
    Ok (head_of r)

-- the whole record, once its first bytes are good
abbrev pub rest_in : Numbers → List ℕ → ℕ → Head → Result (List ℕ) Fault
rest_in n bs place h = and_then (load bs place (size h)) λ r. and_then (record_good (rest_good n h r) place) λ _. Ok r

abbrev pub record_place : Numbers → ℕ → ℕ
record_place n at = min (2 ^ 64 - 1) (n.records + at)

abbrev pub record_in : Numbers → List ℕ → ℕ → Result Snapshot Fault
record_in n bs at =
    and_then (head_in n bs (record_place n at) at) λ h.
    and_then (rest_in n bs (record_place n at) h) λ r.
    Ok (snapshot (record_place n at) h r)

abbrev pub id_of : Snapshot → List ℕ
id_of r = take r.head.id r.id
