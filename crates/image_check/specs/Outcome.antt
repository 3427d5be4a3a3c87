-- What check answers and leaves. Assumes nothing.
--   totals_of       leaked, short, mixed, repeated, flags
--   Checked         the five totals, and the list of words after it
--   check_outcome   that, or the fault; further words stay
--   found_clean     whether all five totals are zero
use Rattle.std.specs.Prelude.{ℕ, Bool, ◌&&◌, List, ◌++◌, length, drop, Ok, Result, ◌==◌}
use Rattle.fault.specs.declared.Fault.{Fault}
use Rattle.fault.specs.Outcomes.{and_then}
use Rattle.format.specs.declared.numbers.Numbers.{Numbers}
use Rattle.snapshot.specs.declared.records.Snapshot.{Snapshot}
use Rattle.image.specs.Calls.{room_judged}
use Rattle.walk.specs.References.{references}
use Rattle.walk.specs.Walk.{walk}
use Rattle.tally.specs.Tally.{tally}
use Rattle.image_check.specs.Totals.{clusters_of, leaked, short, mixed, repeated, flags}

abbrev pub totals_of : Numbers → List ℕ → List Snapshot → ℕ × ℕ × ℕ × ℕ × ℕ
totals_of n bs rs = (leaked n bs (references n bs rs), short n bs (references n bs rs), mixed n bs (references n bs rs), repeated n bs rs (references n bs rs), flags n bs)

pub record Checked : Type 0 where
  pub totals : ℕ × ℕ × ℕ × ℕ × ℕ
  pub words : List ℕ

abbrev pub check_outcome : Result Numbers Fault → List ℕ → List ℕ → Result Checked Fault
check_outcome header bs words =
    and_then header λ n.
    and_then (room_judged (length words) (clusters_of n bs)) λ _.
    and_then (walk n bs) λ rs.
    Ok (record {
      totals = totals_of n bs rs;
      words = tally (references n bs rs) (clusters_of n bs) ++ drop (clusters_of n bs) words;
    })

abbrev pub found_clean : ℕ × ℕ × ℕ × ℕ × ℕ → Bool
found_clean t = t.0 == 0 && (t.1 == 0 && (t.2 == 0 && (t.3 == 0 && t.4 == 0)))
