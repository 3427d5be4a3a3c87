use Rattle.std.proofs.Common.{◌^◌, ◌≤◌, sym, subst, arith}
use Rattle.format.proofs.Clusters.{cluster_least, cluster_most, cluster_shifted}
use Rattle.format.proofs.numbers.cluster_of.Goals as goal

pub returns : goal.returns
returns c =
    let b = c.args.bits in
    let e = cluster_shifted b c.clamp.result (omega (arith, c.clamp.ensures)) in
    record { value = e; least = subst (λ k. 512 ≤ k) (sym e) (cluster_least b); most = subst (λ k. k ≤ 2 ^ 21) (sym e) (cluster_most b) }
