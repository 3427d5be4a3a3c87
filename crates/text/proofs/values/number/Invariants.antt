use Rattle.std.proofs.Common.{◌≡◌, drop, Some}
use Rattle.text.specs.Values.{number_on, number}
use Rattle.text.proofs.values.number.Given as goal

-- what is left gives what the whole gives
abbrev pub invariant-loop-c : goal.invariant-loop-c
invariant-loop-c l = number_on (Some l.n) (drop l.c-index l.word) ≡ number l.word
