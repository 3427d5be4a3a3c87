use Rattle.std.proofs.Common.{◌≡◌, ℕ, ◌<◌, get_or}
use Rattle.guest.specs.Shown.{guest_entry}
use Rattle.mapping.specs.Maps.{word_in}
use Rattle.mapping.proofs.maps.fill_words.Given as goal

abbrev pub invariant-loop-g : goal.invariant-loop-g
invariant-loop-g g l = (k : ℕ) → k < l.g → get_or l.words k 0 ≡ word_in l.n (guest_entry l.n (g.S.Store.bytes l.s) l.l1 k)
