use Rattle.std.proofs.Common.{arith}
use Rattle.fault.proofs.Outcomes.{each_stops, each-good}
use Rattle.walk.specs.References.{l2_at}
use Rattle.walk.proofs.judging.judge_l2_table.Goals as goal

pub returns-in_err-l2_at : goal.returns-in_err-l2_at
returns-in_err-l2_at g c =
    let f = l2_at c.args.n (g.S.Store.bytes c.args.s.now) c.args.l2 in
    record { value = each_stops f c.loop-g.g c.clusters_under-under.result.end _ _ _ c.loop-g-test.true c.in_err-l2_at.ensures.value c.from_residual.ensures.1 c.loop-g.invariant }

pub loop-g-preserved : goal.loop-g-preserved
loop-g-preserved g c = grind (arith, each-good)
