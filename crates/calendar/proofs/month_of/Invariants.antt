use Rattle.std.proofs.Common.{◌≡◌, ◌+◌}
use Rattle.calendar.specs.Days.{months}
use Rattle.calendar.proofs.month_of.Given as goal

abbrev pub invariant-loop-month : goal.invariant-loop-month
invariant-loop-month l = months l.year l.month + l.rest ≡ l.days
