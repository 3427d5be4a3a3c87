use Rattle.std.proofs.Common.{◌≡◌, ◌==◌, [], None, drop, length, vec_items}
use Rattle.std.specs.List.{slice_split}
use Rattle.text.specs.Values.{numbers_on}
use Rattle.text.proofs.Listing.{listed}
use Rattle.text.proofs.values.numbers.Given as goal

-- what is left gives what the whole gives
abbrev pub invariant-loop-part : goal.invariant-loop-part
invariant-loop-part l = listed (vec_items l.all) (drop (length l.yielded) (slice_split (λ c. c == 44) l.word)) ≡ numbers_on [] None l.word
