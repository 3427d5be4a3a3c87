use Rattle.std.proofs.Common.{◌≡◌, drop, length}
use Rattle.std.specs.Prelude.{vec_items}
use Rattle.std.specs.List.{enumerate_from}
use Rattle.std.specs.Str.Lines.{lines}
use Rattle.listing.specs.Spoiled.{listed_on, listed}
use Rattle.listing.proofs.spoiled.spoiled_in.Given as goal

-- what is left completes what is found to the whole
abbrev pub invariant-loop-i : goal.invariant-loop-i
invariant-loop-i l = listed_on (vec_items l.sectors) (drop (length l.yielded) (enumerate_from 0 (lines l.text))) ≡ listed l.text
