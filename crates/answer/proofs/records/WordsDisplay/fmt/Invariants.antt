use Rattle.std.proofs.Common.{◌≡◌, ℕ, List, ◌++◌, drop}
use Rattle.std.specs.Fmt.{HasWritten, IsPlainFormatter}
use Rattle.answer.specs.Records.{more_words, words_shown}
use Rattle.answer.proofs.records.WordsDisplay.fmt.Given as goal

-- what is left completes what is written to the whole
abbrev pub invariant-loop-w : goal.invariant-loop-w
invariant-loop-w g l =
    IsPlainFormatter l.fn.f → (done : List ℕ) × HasWritten g.W.Write.write_str_gives l.fn.f done l.f × (done ++ more_words (drop l.w-index l.more) ≡ words_shown l.fn.self.0.now)
