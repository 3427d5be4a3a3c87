use Rattle.std.proofs.Common.{◌≡◌, drop}
use Rattle.walk.specs.Walk.{trees_judged}
use Rattle.walk.proofs.judging.judge_trees.Given as goal

-- what is left to judge gives what the whole gives
abbrev pub invariant-loop-r : goal.invariant-loop-r
invariant-loop-r g l = trees_judged l.n (g.S.Store.bytes l.s) (drop l.r-index l.list) ≡ trees_judged l.n (g.S.Store.bytes l.s) l.list
