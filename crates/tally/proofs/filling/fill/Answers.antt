use Rattle.std.proofs.Common.{sym, ap, ◌∙◌}
use Rattle.walk.specs.declared.kinds.Kind.TheVariants.{LiveL1}
use Rattle.walk.specs.References.{table_refs, block_refs, record_refs}
use Rattle.tally.specs.Filling.{Note, all_touched, walked, all_walked}
use Rattle.tally.proofs.Touched.{touched-append}
use Rattle.tally.proofs.filling.fill.Goals as goal

pub returns : goal.returns
returns g c =
    let n = c.args.n in
    let bs = g.S.Store.bytes c.args.s.now in
    let rs = c.args.list.now in
    let first = c.touch_table.ensures.after ∙ ap (all_touched Note (table_refs n)) c.touch.ensures.after in
    let fixed = c.touch_blocks.ensures.after ∙ ap (all_touched Note (block_refs n bs)) first ∙ sym (touched-append Note (table_refs n) (block_refs n bs) _) in
    let live = c.walk_table.ensures.after ∙ ap (walked n bs LiveL1 n.l1) fixed in
    record { after = c.walk_tables.ensures.after ∙ ap (all_walked n bs rs) (c.touch_records.ensures.after ∙ ap (all_touched Note (record_refs n)) live) }
