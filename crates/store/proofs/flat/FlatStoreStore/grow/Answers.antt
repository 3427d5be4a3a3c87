use Rattle.std.proofs.Common.{◌-◌, ◌≤◌, length, take, length-take, sym, ap, ◌∙◌, arith}
use Rattle.std.proofs.lemmas.Bool.{leb-true}
use Rattle.fault.proofs.Outcomes.{demand_met}
use Rattle.store.specs.Flat.{flat_bytes, flat_limit}
use Rattle.byte_lists.specs.Runs.{zeros}
use Rattle.byte_lists.proofs.Runs.{take-put-zeros, length-put, length-zeros}
use Rattle.byte_lists.proofs.Octets.{octets_after, octets_zeros}
use Rattle.store.proofs.Outcomes.{grows}
use Rattle.store.proofs.flat.FlatStoreStore.grow.Goals as goal

high : (c : goal.After-clear_run) → c.args.length ≤ length c.args.self.now.list.now
high c = omega (arith, c.limit.ensures.value, leb-true _ _ (demand_met _ _ _ c.in_ok-demand-2.ensures.value))

pub invariant_of-self : goal.invariant_of-self
invariant_of-self c =
    let s = c.args.self.now in
    let list = s.list.now in
    record {
      octets = octets_after list _ _ _ c.clear_run.ensures.after s.octets (octets_zeros _);
      most = omega (arith, high c, ap length c.clear_run.ensures.after, length-put list s.used (zeros (c.args.length - s.used)) (omega (arith, s.most, high c, length-zeros (c.args.length - s.used))));
    }

pub returns-clause-outcome : goal.returns-clause-outcome
returns-clause-outcome c =
    let s = c.args.self.now in
    let list = s.list.now in
    let n = c.args.length in
    let low : s.used ≤ n = leb-true _ _ (demand_met _ _ _ c.in_ok-demand.ensures.value) in
    let most : n ≤ length list = omega (arith, c.limit.ensures.value, leb-true _ _ (demand_met _ _ _ c.in_ok-demand-2.ensures.value)) in
    grows (flat_bytes s) (flat_limit s) n _ (omega (arith, low, length-take s.used list)) most
    (sym (take-put-zeros list s.used n low most) ∙ ap (take n) (sym c.clear_run.ensures.after))
