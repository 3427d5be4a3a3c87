use Rattle.std.proofs.Common.{◌<◌, arith}
use Rattle.fault.proofs.Outcomes.{each_stops, each-good}
use Rattle.tables.specs.Refcounts.{blocks}
use Rattle.walk.specs.References.{block_at}
use Rattle.walk.proofs.judging.judge_blocks.Goals as goal

pub returns-in_err-block_at : goal.returns-in_err-block_at
returns-in_err-block_at g c =
    let f = block_at c.args.n (g.S.Store.bytes c.args.s.now) in
    let lt : c.loop-i.i < blocks c.args.n = omega (arith, c.blocks-i-end.ensures.value) in
    record { value = each_stops f c.loop-i.i (blocks c.args.n) _ _ _ lt c.in_err-block_at.ensures.value c.from_residual.ensures.1 c.loop-i.invariant }

pub loop-i-preserved : goal.loop-i-preserved
loop-i-preserved g c = grind (arith, each-good)
