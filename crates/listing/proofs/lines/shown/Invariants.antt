use Rattle.std.proofs.Common.{◌≡◌, ◌++◌, drop, string_bytes}
use Rattle.listing.specs.Lines.{escaped}
use Rattle.listing.proofs.lines.shown.Given as goal

-- what is left completes what is written to the whole
abbrev pub invariant-loop-b : goal.invariant-loop-b
invariant-loop-b l = string_bytes l.text ++ escaped (drop l.b-index l.name) ≡ escaped l.name
