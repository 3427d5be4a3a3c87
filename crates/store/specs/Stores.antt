-- What a store's calls give, from the bytes in use and the limit. Assumes nothing.
--   run_judged   whether a run lies within the length, or the refusal at its first byte
--   load     a run within the length, or the refusal at its first byte
--   stored   the bytes after a run was replaced, or the refusal at its first byte
--   grown    the bytes after growth by zeros, or the refusal at the length wanted
use Rattle.std.specs.Prelude.{ℕ, ◌+◌, cond, ◌&&◌, List, length, Ok, Err, Result, nat_le}
use Rattle.fault.specs.declared.Fault.{Fault}
use Rattle.fault.specs.declared.Layer.TheVariants.{Store}
use Rattle.fault.specs.declared.Reason.TheVariants.{PastStore, Growth}
use Rattle.fault.specs.Faults.{fault}
use Rattle.fault.specs.Outcomes.{demanded}
use Rattle.byte_lists.specs.Runs.{run, put, grow}

abbrev pub run_judged : ℕ → ℕ → ℕ → Result (Unit {0}) Fault
run_judged first n long = demanded (nat_le (first + n) long) (fault PastStore Store first)

abbrev pub load : List ℕ → ℕ → ℕ → Result (List ℕ) Fault
load bs first n = cond (nat_le (first + n) (length bs)) (Ok (run bs first n)) (Err (fault PastStore Store first))

abbrev pub stored : List ℕ → ℕ → List ℕ → Result (List ℕ) Fault
stored bs first new = cond (nat_le (first + length new) (length bs)) (Ok (put bs first new)) (Err (fault PastStore Store first))

abbrev pub grown : List ℕ → ℕ → ℕ → Result (List ℕ) Fault
grown bs limit n = cond (nat_le (length bs) n && nat_le n limit) (Ok (grow bs n)) (Err (fault Growth Store n))
