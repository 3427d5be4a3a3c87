use Rattle.std.proofs.Common.{◌≡◌, ℕ, List, ◌++◌, drop}
use Rattle.std.specs.Fmt.{HasWritten, IsPlainFormatter}
use Rattle.answer.specs.Records.{hexadecimal}
use Rattle.answer.proofs.records.HexDisplay.fmt.Given as goal

-- what is left completes what is written to the whole
abbrev pub invariant-loop-b : goal.invariant-loop-b
invariant-loop-b g l =
    IsPlainFormatter l.initial.f → (done : List ℕ) × HasWritten g.W.Write.write_str_gives l.initial.f done l.f × (done ++ hexadecimal (drop l.b-index l.b-items) ≡ hexadecimal l.b-items)
