use Rattle.std.proofs.Common.{arith}
use Rattle.fault.proofs.Outcomes.{each_stops, each-good}
use Rattle.guest.specs.Shown.{guest_entry}
use Rattle.mapping.proofs.maps.judge_entries.Goals as goal

pub returns-in_err-entry_of : goal.returns-in_err-entry_of
returns-in_err-entry_of g c =
    let f = guest_entry c.args.n (g.S.Store.bytes c.args.s.now) c.args.l1 in
    record { value = each_stops f c.loop-g.g c.args.clusters _ _ _ c.loop-g-test.true c.in_err-entry_of.ensures.value c.from_residual.ensures.1 c.loop-g.invariant }

pub loop-g-preserved : goal.loop-g-preserved
loop-g-preserved g c = grind (arith, each-good)
