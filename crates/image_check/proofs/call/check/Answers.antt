use Rattle.std.proofs.Common.{Ok, sym, ap, ◌∙◌}
use Rattle.image_check.proofs.Laws.{law_of}
use Rattle.image_check.proofs.call.check.Goals as goal

pub returns-clause-lawful : goal.returns-clause-lawful
returns-clause-lawful g c =
    let m = c.args.m.now in
    law_of m.header (g.S.Store.bytes m.store) (g.met.S.Store.octets m.store) c.in_ok-n.n c.kept.result.now c.count_up-totals.result c.in_ok-n.was (c.in_ok-all.ensures.value ∙ ap Ok (sym c.kept.ensures.value)) c.count_up-totals.ensures.answer
