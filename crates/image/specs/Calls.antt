-- What each call on a mount answers. Assumes nothing.
--   read_outcome   the 512 bytes of a live sector, or the fault
--   peek_outcome   those of a snapshot's sector
--   room_judged    a list has as many words as a call needs
use Rattle.std.specs.Prelude.{ℕ, cond, ◌&&◌, List, Ok, Err, Result, ◌==◌, nat_le, nat_lt}
use Rattle.fault.specs.declared.Fault.{Fault}
use Rattle.fault.specs.declared.Layer.TheVariants.{Call}
use Rattle.fault.specs.declared.Reason.TheVariants.{Sectors, ListTooShort}
use Rattle.fault.specs.Faults.{fault}
use Rattle.fault.specs.Outcomes.{and_then}
use Rattle.disk.specs.Readings.{Reading}
use Rattle.format.specs.declared.numbers.Numbers.{Numbers}
use Rattle.snapshot.specs.All.{id_judged, table}
use Rattle.guest.specs.Shown.{guest_sectors, shows}

-- the buffer has a sector's length, and the sector is the guest's
abbrev pub sector_judged : Numbers → ℕ → ℕ → Result (Unit {0}) Fault
sector_judged n s room = cond (room == 512 && nat_lt s (guest_sectors n)) (Ok tt) (Err (fault Sectors Call s))

abbrev pub read_outcome : Result Numbers Fault → List ℕ → Reading → ℕ → ℕ → Result (List ℕ) Fault
read_outcome header bs backing s room = and_then header λ n. and_then (sector_judged n s room) λ _. shows n bs backing n.l1 s

abbrev pub peek_outcome : Result Numbers Fault → List ℕ → Reading → List ℕ → ℕ → ℕ → Result (List ℕ) Fault
peek_outcome header bs backing id s room =
    and_then header λ n.
    and_then (sector_judged n s room) λ _.
    and_then (id_judged id) λ _.
    and_then (table n bs id) λ l1.
    shows n bs backing l1 s

abbrev pub room_judged : ℕ → ℕ → Result (Unit {0}) Fault
room_judged room needed = cond (nat_le needed room) (Ok tt) (Err (fault ListTooShort Call needed))
