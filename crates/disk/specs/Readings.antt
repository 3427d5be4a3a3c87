-- What a disk means. Assumes nothing.
--   Reading   a number of sectors, and the answer of each: 512 bytes or a fault
--   shown     answers that end with the disk: past its end each sector refuses
--   Sound     what every disk owes of its reading
use Rattle.std.specs.Prelude.{◌≡◌, ℕ, ◌^◌, ◌≤◌, cond, List, length, IfOk, Err, Result, nat_lt}
use Rattle.fault.specs.declared.Fault.{Fault}
use Rattle.fault.specs.declared.Layer.TheVariants.{Disk}
use Rattle.fault.specs.declared.Reason.TheVariants.{PastDisk}
use Rattle.fault.specs.Faults.{fault}
use Rattle.byte_lists.specs.Runs.{Octets}

pub record Reading : Type 0 where
  pub sectors : ℕ
  pub answer : ℕ → Result (List ℕ) Fault

abbrev pub past_end : ℕ → Result (List ℕ) Fault
past_end s = Err (fault PastDisk Disk s)

abbrev pub shown : ℕ → (ℕ → Result (List ℕ) Fault) → Reading
shown n answers = record { sectors = n; answer = λ s. cond (nat_lt s n) (answers s) (past_end s) }

pub record Sound (r : Reading) : Type 0 where
  pub most : r.sectors ≤ 2 ^ 55
  pub ends : (s : ℕ) → r.sectors ≤ s → r.answer s ≡ past_end s
  pub whole : (s : ℕ) → IfOk (r.answer s) (λ bs. (length bs ≡ 512) × Octets bs)
