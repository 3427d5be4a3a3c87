use Rattle.std.proofs.Common.{arith}
use Rattle.image_check.specs.Totals.{wrong}
use Rattle.image_check.proofs.Sums.{one_is, one_most}
use Rattle.image_check.proofs.Bounds.{under_most}
use Rattle.image_check.proofs.flags.branch_wrong.Goals as goal

pub overflow_add-result : goal.overflow_add-result
overflow_add-result g c =
    let n = c.args.n in
    let bs = g.S.Store.bytes c.args.s.now in
    let e = c.in-Ok.e in
    omega (arith, one_is _ _ _ c.from-own.ensures c.wrong.ensures.value, one_most (wrong n bs e), c.under_wrong.ensures.value, under_most n bs c.args.i e.offset)
