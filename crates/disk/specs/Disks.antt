-- The disks that hold no image. Assumes nothing.
--   zeros_reading     so many sectors of zeros, at most 2 to the 55
--   sectors_of        the begun sectors of so many bytes
--   sector            a sector of a byte list, a part sector at the end filled with zeros
--   raw_reading       the sectors of a byte list
--   spoilt            whether a list of sector numbers has a sector
--   rescued_reading   the same, but spoiled sectors refuse
use Rattle.std.specs.Prelude.{ℕ, ◌+◌, ◌*◌, ◌/◌, ◌^◌, min, Bool, cond, List, length, Ok, Err, ◌==◌}
use Rattle.std.specs.List.{list_any}
use Rattle.fault.specs.declared.Layer.TheVariants.{Disk}
use Rattle.fault.specs.declared.Reason.TheVariants.{Spoiled}
use Rattle.fault.specs.Faults.{fault}
use Rattle.byte_lists.specs.Runs.{run, grow, zeros}
use Rattle.disk.specs.Readings.{Reading, shown}

abbrev pub zeros_reading : ℕ → Reading
zeros_reading n = shown (min n (2 ^ 55)) (λ s. Ok (zeros 512))

abbrev pub sectors_of : ℕ → ℕ
sectors_of n = (n + 511) / 512

unfoldable pub sector : List ℕ → ℕ → List ℕ
sector bs s = grow (run bs (s * 512) 512) 512

abbrev pub raw_reading : List ℕ → Reading
raw_reading bs = shown (sectors_of (length bs)) (λ s. Ok (sector bs s))

abbrev pub spoilt : List ℕ → ℕ → Bool
spoilt xs s = list_any (λ x. x == s) xs

abbrev pub rescued_reading : List ℕ → List ℕ → Reading
rescued_reading bs spoiled = shown (sectors_of (length bs)) (λ s. cond (spoilt spoiled s) (Err (fault Spoiled Disk s)) (Ok (sector bs s)))
