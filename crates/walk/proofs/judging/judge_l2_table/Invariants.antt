use Rattle.std.proofs.Common.{◌≡◌, ◌-◌, ◌*◌}
use Rattle.fault.specs.Outcomes.{each}
use Rattle.format.specs.Clusters.{per_table}
use Rattle.walk.specs.References.{l2_at}
use Rattle.walk.specs.Walk.{l2_judged}
use Rattle.walk.proofs.judging.judge_l2_table.Given as goal

-- what is left to judge gives what the whole gives
abbrev pub invariant-loop-g : goal.invariant-loop-g
invariant-loop-g g l = each (l2_at l.n (g.S.Store.bytes l.s) l.l2) l.g (l.g-end - l.g) ≡ l2_judged l.n (g.S.Store.bytes l.s) l.l2 (l.i * per_table l.n)
