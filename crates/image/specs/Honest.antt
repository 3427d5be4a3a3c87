-- Mounts that tell the truth. Assumes nothing.
--   Honest   the mount's judgement of the header is that of the store's bytes
use Rattle.std.specs.Prelude.{◌≡◌, ℕ, List, Result}
use Rattle.fault.specs.declared.Fault.{Fault}
use Rattle.format.specs.declared.numbers.Numbers.{Numbers}
use Rattle.format.specs.Header.{header}

abbrev pub Honest : List ℕ → Result Numbers Fault → Type 0
Honest bytes judged = judged ≡ header bytes
