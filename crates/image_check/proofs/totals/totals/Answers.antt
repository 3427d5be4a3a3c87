use Rattle.std.proofs.Common.{◌≡◌, ◌%◌, ◌^◌, ltb, get_or}
use Rattle.tables.specs.Refcounts.{count}
use Rattle.image_check.proofs.Found.{left_more, leaking, lacking, mixing, repeating}
use Rattle.image_check.proofs.Sums.{one_is}
use Rattle.image_check.proofs.totals.totals.Goals as goal

pub loop-h-preserved : goal.loop-h-preserved
loop-h-preserved g c =
    let n = c.args.n in
    let bs = g.S.Store.bytes c.args.s.now in
    let words = c.args.words.now in
    let i = c.loop-h.h in
    let lt = c.loop-h-test.true in
    let x = c.references_of-references.result in
    let y = c.count-counted.result in
    let w = get_or words i 0 in
    let below : ltb x y ≡ ltb (w % 2 ^ 28) (count n bs i) = cc (c.references_of-references.ensures.value, c.count-counted.ensures.value) in
    let above : ltb y x ≡ ltb (count n bs i) (w % 2 ^ 28) = cc (c.references_of-references.ensures.value, c.count-counted.ensures.value) in (
      left_more (leaking n bs) words _ i _ lt (one_is _ _ _ c.from.ensures below) c.loop-h.invariant.0,
      left_more (lacking n bs) words _ i _ lt (one_is _ _ _ c.from-in-loop-h.ensures above) c.loop-h.invariant.1,
      left_more mixing words _ i _ lt (one_is _ _ _ c.from-in-loop-h-2.ensures c.mixed_by.ensures.value) c.loop-h.invariant.2,
      left_more repeating words _ i _ lt (one_is _ _ _ c.from-in-loop-h-3.ensures c.repeats_by.ensures.value) c.loop-h.invariant.3,
    )
