use Rattle.std.proofs.Common.{◌<◌, length, get_or, set, ap, ◌∙◌, arith}
use Rattle.std.proofs.lemmas.List.Edits.{map_over_more}
use Rattle.std.proofs.lemmas.List.{get_or_default}
use Rattle.tally.specs.Words.{unmarked}
use Rattle.image_check.proofs.call.unmark_all.Goals as goal

pub loop-w-preserved : goal.loop-w-preserved
loop-w-preserved c =
    let words = c.loop-w.words in
    let i = c.loop-w.w-index in
    let lt : i < length words = omega (arith, c.loop-w.auto.words) in
    ap (set words i) c.unmark.ensures.value ∙ map_over_more unmarked c.args.words.now words i (get_or words i 0) c.loop-w-test.true c.loop-w.invariant (get_or_default words i 0 (get_or words i 0) lt)
