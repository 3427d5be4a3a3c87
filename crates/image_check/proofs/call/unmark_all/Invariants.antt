use Rattle.std.proofs.Common.{◌≡◌, ◌++◌, map, take, drop}
use Rattle.tally.specs.Words.{unmarked}
use Rattle.image_check.proofs.call.unmark_all.Given as goal

-- the words so far are without their marks, and the others as they were
abbrev pub invariant-loop-w : goal.invariant-loop-w
invariant-loop-w l = l.words ≡ map unmarked (take l.w-index l.initial.words) ++ drop l.w-index l.initial.words
