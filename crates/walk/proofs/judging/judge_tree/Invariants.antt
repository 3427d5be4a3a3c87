use Rattle.std.proofs.Common.{◌≡◌, ◌-◌}
use Rattle.fault.specs.Outcomes.{each}
use Rattle.walk.specs.References.{entries_of}
use Rattle.walk.specs.Walk.{branch_judged, tree_judged}
use Rattle.walk.proofs.judging.judge_tree.Given as goal

-- what is left to judge gives what the whole gives
abbrev pub invariant-loop-i : goal.invariant-loop-i
invariant-loop-i g l = each (branch_judged l.n (g.S.Store.bytes l.s) l.l1) l.i (entries_of l.n - l.i) ≡ tree_judged l.n (g.S.Store.bytes l.s) l.l1
