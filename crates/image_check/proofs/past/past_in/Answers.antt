use Rattle.std.proofs.Common.{rules, ℕ, ◌^◌, ap, ◌∙◌, arith}
use Rattle.std.proofs.lemmas.Iterator.{YieldsList-from_range}
use Rattle.image_check.specs.Totals.{sum, one, past}
use Rattle.image_check.proofs.Sums.{sum_gives, sum_fits, one_is}
use Rattle.image_check.proofs.Bounds.{in_block_most}
use Rattle.image_check.proofs.past.past_in.Goals as goal

pub sum-requires-clause-fits : goal.sum-requires-clause-fits
sum-requires-clause-fits g c =
    let bs = g.S.Store.bytes c.args.s.now in
    let f : ℕ → ℕ = λ j. one (past c.args.n bs c.args.i c.args.block j) in
    let k = c.block_counts.result in
    let same = ap (sum f 0) c.block_counts.ensures.value in
    sum_fits f 0 k c.map.result (YieldsList-from_range 0 k k c.map.ensures.source (omega arith)) c.map.ensures.closure (λ x r q p. search (rules, one_is)) (2 ^ 64) (omega (arith, same, in_block_most c.args.n bs c.args.i c.args.block))

pub returns : goal.returns
returns g c =
    let bs = g.S.Store.bytes c.args.s.now in
    let f : ℕ → ℕ = λ j. one (past c.args.n bs c.args.i c.args.block j) in
    let k = c.block_counts.result in
    record { value = sum_gives f 0 k c.map.result (YieldsList-from_range 0 k k c.map.ensures.source (omega arith)) c.map.ensures.closure (λ x r q p. search (rules, one_is)) c.sum.result c.sum.ensures.ran ∙ ap (sum f 0) c.block_counts.ensures.value }
