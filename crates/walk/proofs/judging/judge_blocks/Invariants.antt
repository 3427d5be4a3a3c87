use Rattle.std.proofs.Common.{◌≡◌, ◌-◌}
use Rattle.fault.specs.Outcomes.{each}
use Rattle.tables.specs.Refcounts.{blocks}
use Rattle.walk.specs.References.{block_at}
use Rattle.walk.specs.Walk.{blocks_judged}
use Rattle.walk.proofs.judging.judge_blocks.Given as goal

-- what is left to judge gives what the whole gives
abbrev pub invariant-loop-i : goal.invariant-loop-i
invariant-loop-i g l = each (block_at l.n (g.S.Store.bytes l.s)) l.i (blocks l.n - l.i) ≡ blocks_judged l.n (g.S.Store.bytes l.s)
