-- All snapshot records of an image, judged in their order. Assumes nothing.
--   position   where the first record with an id stands, counted from i on
--   named      the record with an id, or the refusal
--   many       how many records there are: held at 64, the most that a good header has
--   records    all records, or the first fault; a record is bad if an earlier one has its id
--   id_judged  an id has 1 to 16 bytes
--   table      the L1 table of the snapshot with an id: all records are judged, then it is looked for
--   kept       the records that a list with room for 64 holds
use Rattle.std.specs.Prelude.{ℕ, zero, suc, ◌+◌, min, cond, not, ◌&&◌, List, [], ◌∷◌, ◌++◌, length, take, is_some, Some, None, Ok, Err, Option, Result, nat_le, slice_index_or}
use Rattle.std.specs.List.{position_from}
use Rattle.std.specs.Str.{bytes_eq}
use Rattle.fault.specs.declared.Fault.{Fault}
use Rattle.fault.specs.declared.Layer.TheVariants.{Call}
use Rattle.fault.specs.declared.Reason.TheVariants.{BadId, NoSuchId}
use Rattle.fault.specs.Faults.{fault}
use Rattle.fault.specs.Outcomes.{and_then}
use Rattle.format.specs.declared.numbers.Numbers.{Numbers}
use Rattle.snapshot.specs.declared.all.Records.{Records}
use Rattle.snapshot.specs.declared.records.Snapshot.{Snapshot}
use Rattle.snapshot.specs.Records.{size, id_of, record_in, record_good}

abbrev pub position : List ℕ → List Snapshot → ℕ → Option ℕ
position id rs i = position_from (λ r. bytes_eq id (id_of r)) i rs

-- what a list is said to hold past its end
abbrev pub no_snapshot : Snapshot
no_snapshot = record { place = 0; head = record { l1 = 0; entries = 0; id = 0; name = 0; state = 0; extra = 0 }; id = [] }

abbrev pub chosen : List Snapshot → Option ℕ → Result Snapshot Fault
chosen rs (Some i) = Ok (slice_index_or rs i no_snapshot)
chosen rs None = Err (fault NoSuchId Call 0)

abbrev pub named : List ℕ → List Snapshot → Result Snapshot Fault
named id rs = chosen rs (position id rs 0)

abbrev pub many : Numbers → ℕ
many n = min n.snapshots 64

-- k records more from a place of the table on, behind those that were seen
abbrev pub records_from : Numbers → List ℕ → ℕ → ℕ → List Snapshot → Result (List Snapshot) Fault
records_from n bs zero at seen = Ok seen
records_from n bs (suc k) at seen =
    and_then (record_in n bs at) λ r.
    and_then (record_good (not (is_some (position (id_of r) seen 0))) r.place) λ _.
    records_from n bs k (at + size r.head) (seen ++ r ∷ [])

abbrev pub records : Numbers → List ℕ → Result (List Snapshot) Fault
records n bs = records_from n bs (many n) 0 []

abbrev pub kept : Records → List Snapshot
kept all = take all.count all.list

abbrev pub id_judged : List ℕ → Result (Unit {0}) Fault
id_judged id = cond (nat_le 1 (length id) && nat_le (length id) 16) (Ok tt) (Err (fault BadId Call 0))

abbrev pub table : Numbers → List ℕ → List ℕ → Result ℕ Fault
table n bs id = and_then (records n bs) λ rs. and_then (named id rs) λ r. Ok r.head.l1
