use Rattle.std.proofs.Common.{◌≡◌, ◌+◌, ◌-◌, ◌≤◌}
use Rattle.calendar.specs.Days.{years}
use Rattle.calendar.proofs.year_of.Given as goal

abbrev pub invariant-loop-rest : goal.invariant-loop-rest
invariant-loop-rest l = (years (l.year - 1970) + l.rest ≡ l.days) × (1970 ≤ l.year) × (l.year + l.rest ≤ 1970 + l.days)

abbrev pub decreases-loop-rest : goal.decreases-loop-rest
decreases-loop-rest l = l.rest
