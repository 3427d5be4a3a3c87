use Rattle.std.proofs.Common.{◌≡◌, drop}
use Rattle.tally.specs.Filling.{all_walked}
use Rattle.tally.proofs.filling.walk_tables.Given as goal

-- what is left of the walk gives what the whole gives
abbrev pub invariant-loop-r : goal.invariant-loop-r
invariant-loop-r g l = all_walked l.n (g.S.Store.bytes l.s) (drop l.r-index l.list) l.words ≡ all_walked l.n (g.S.Store.bytes l.s) l.list l.initial.words
