use Rattle.std.proofs.Common.{rules, ℕ, ◌+◌, ◌*◌, ◌^◌, ◌∙◌, arith}
use Rattle.std.proofs.lemmas.Iterator.{YieldsList-from_range}
use Rattle.format.specs.Clusters.{per_table}
use Rattle.walk.specs.References.{l2_at}
use Rattle.image_check.specs.Totals.{wrong_in}
use Rattle.image_check.proofs.Sums.{sum_gives, sum_fits}
use Rattle.image_check.proofs.Bounds.{l2_most}
use Rattle.image_check.proofs.flags.l2_wrong.Goals as goal

pub sum-requires-clause-fits : goal.sum-requires-clause-fits
sum-requires-clause-fits g c =
    let bs = g.S.Store.bytes c.args.s.now in
    let f : ℕ → ℕ = λ x. wrong_in c.args.n bs (l2_at c.args.n bs c.args.l2 x) in
    let first = c.args.i * per_table c.args.n in
    let k = per_table c.args.n in
    let range = c.map.ensures.source ∙ (λ j. record { start = c.clusters_under.ensures.start j; end = c.clusters_under.ensures.end j }) in
    sum_fits f first k c.map.result (YieldsList-from_range first (first + k) k range (omega arith)) c.map.ensures.closure (λ x r q p. search rules) (2 ^ 64) (omega (arith, l2_most c.args.n bs c.args.l2 first))

pub returns : goal.returns
returns g c =
    let bs = g.S.Store.bytes c.args.s.now in
    let f : ℕ → ℕ = λ x. wrong_in c.args.n bs (l2_at c.args.n bs c.args.l2 x) in
    let first = c.args.i * per_table c.args.n in
    let k = per_table c.args.n in
    let range = c.map.ensures.source ∙ (λ j. record { start = c.clusters_under.ensures.start j; end = c.clusters_under.ensures.end j }) in
    record { value = sum_gives f first k c.map.result (YieldsList-from_range first (first + k) k range (omega arith)) c.map.ensures.closure (λ x r q p. search rules) c.sum.result c.sum.ensures.ran }
