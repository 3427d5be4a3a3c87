-- Days, months and years as the calendar counts them. Assumes nothing.
--   leap         whether a year has 366 days
--   year_days    the days of a year
--   month_days   the days of a month of a year, from 0 for January
--   years        the days of the first n years from 1970 on
--   months       the days of the first m months of a year
use Rattle.std.specs.Prelude.{ℕ, zero, suc, ◌+◌, ◌%◌, Bool, cond, not, ◌&&◌, ◌||◌, ◌==◌}

abbrev pub leap : ℕ → Bool
leap y = y % 4 == 0 && (not (y % 100 == 0) || y % 400 == 0)

abbrev pub year_days : ℕ → ℕ
year_days y = cond (leap y) 366 365

abbrev pub month_days : ℕ → ℕ → ℕ
month_days y m =
    cond (m == 1) (cond (leap y) 29 28)
    (cond (m == 3 || (m == 5 || (m == 8 || m == 10))) 30 31)

abbrev pub years : ℕ → ℕ
years zero = 0
years (suc n) = years n + year_days (1970 + n)

abbrev pub months : ℕ → ℕ → ℕ
months y zero = 0
months y (suc m) = months y m + month_days y m
