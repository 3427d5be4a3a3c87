use Rattle.std.proofs.Common.{rules, ℕ, ◌^◌, ap, ◌∙◌, arith}
use Rattle.std.proofs.lemmas.Iterator.{YieldsList-from_range}
use Rattle.guest.specs.Shown.{l1_at}
use Rattle.image_check.specs.Totals.{sum, branch_wrong}
use Rattle.image_check.proofs.Sums.{sum_gives, sum_fits}
use Rattle.image_check.proofs.Bounds.{flags_most}
use Rattle.image_check.proofs.flags.flags.Goals as goal

pub sum-requires-clause-fits : goal.sum-requires-clause-fits
sum-requires-clause-fits g c =
    let bs = g.S.Store.bytes c.args.s.now in
    let f : ℕ → ℕ = λ i. branch_wrong c.args.n bs i (l1_at c.args.n bs c.args.n.l1 i) in
    let k = c.l1_entries.result in
    let same = ap (sum f 0) c.l1_entries.ensures.value in
    sum_fits f 0 k c.map.result (YieldsList-from_range 0 k k c.map.ensures.source (omega arith)) c.map.ensures.closure (λ x r q p. search rules) (2 ^ 64) (omega (arith, same, flags_most c.args.n bs))

pub returns : goal.returns
returns g c =
    let bs = g.S.Store.bytes c.args.s.now in
    let f : ℕ → ℕ = λ i. branch_wrong c.args.n bs i (l1_at c.args.n bs c.args.n.l1 i) in
    let k = c.l1_entries.result in
    record { value = sum_gives f 0 k c.map.result (YieldsList-from_range 0 k k c.map.ensures.source (omega arith)) c.map.ensures.closure (λ x r q p. search rules) c.sum.result c.sum.ensures.ran ∙ ap (sum f 0) c.l1_entries.ensures.value }
