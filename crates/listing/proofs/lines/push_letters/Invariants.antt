use Rattle.std.proofs.Common.{◌≡◌, ◌++◌, drop, map, string_bytes}
use Rattle.listing.specs.Lines.{dotted}
use Rattle.listing.proofs.lines.push_letters.Given as goal

-- what is left completes what is written to the whole
abbrev pub invariant-loop-b : goal.invariant-loop-b
invariant-loop-b l = string_bytes l.text ++ map dotted (drop l.b-index l.bytes) ≡ string_bytes l.initial.text ++ map dotted l.bytes
