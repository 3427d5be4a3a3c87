use Rattle.std.proofs.Common.{◌<◌, sym, ◌∙◌, arith}
use Rattle.fault.proofs.Outcomes.{each_stops, each-good}
use Rattle.walk.specs.References.{entries_of}
use Rattle.walk.specs.Walk.{branch_judged}
use Rattle.walk.proofs.judging.judge_tree.Goals as goal

pub returns-in_err-judge_branch : goal.returns-in_err-judge_branch
returns-in_err-judge_branch g c =
    let f = branch_judged c.args.n (g.S.Store.bytes c.args.s.now) c.args.l1 in
    let lt : c.loop-i.i < entries_of c.args.n = omega (arith, c.l1_entries-i-end.ensures.value) in
    record { value = each_stops f c.loop-i.i (entries_of c.args.n) _ _ _ lt c.in_err-judge_branch.ensures.value c.from_residual.ensures.1 c.loop-i.invariant }

pub loop-i-preserved : goal.loop-i-preserved
loop-i-preserved g c =
    let f = branch_judged c.args.n (g.S.Store.bytes c.args.s.now) c.args.l1 in
    let lt : c.loop-i.i < entries_of c.args.n = omega (arith, c.l1_entries-i-end.ensures.value) in
    sym (each-good f c.loop-i.i (entries_of c.args.n) lt _ c.in_ok-judge_branch.ensures.value) ∙ c.loop-i.invariant
