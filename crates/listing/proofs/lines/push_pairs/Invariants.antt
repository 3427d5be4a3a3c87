use Rattle.std.proofs.Common.{◌≡◌, ◌++◌, drop, string_bytes}
use Rattle.listing.specs.Lines.{spaced}
use Rattle.listing.proofs.lines.push_pairs.Given as goal

-- what is left completes what is written to the whole
abbrev pub invariant-loop-i : goal.invariant-loop-i
invariant-loop-i l = string_bytes l.text ++ spaced l.i (drop l.i l.bytes) ≡ string_bytes l.initial.text ++ spaced 0 l.bytes
