use Rattle.std.proofs.Common.{◌≡◌, length, Ok, sym, refl, ap, ◌∙◌, arith}
use Rattle.format.specs.Header.{header}
use Rattle.create.specs.Create.{wanted, create_judged, created}
use Rattle.create.proofs.Wishes.{granted}
use Rattle.create.proofs.Good.{created-good}
use Rattle.create.proofs.create.Goals as goal

pub returns-clause-judged : goal.returns-clause-judged
returns-clause-judged g c =
    let name = c.args.name.now in
    let n = c.wanted-n.result in
    let w = wanted c.args.version c.args.bits c.args.size (length name) in
    let len = c.length.result in
    let limit = c.limit.result in
    let good : create_judged n len limit ≡ Ok tt = sym c.in_ok-judge_wish.ensures.value in
    let ok = granted w len limit (sym (c.wanted-n.ensures.judged len limit) ∙ good) in
    let made : g.S.Store.bytes c.fill.new.s ≡ created w name = c.fill.ensures.bytes ∙ ap (λ k. created k name) (c.wanted-n.ensures.granted len limit good) in
    ap header made ∙ created-good c.args.version c.args.bits c.args.size (length name) len limit ok name refl (omega arith) (omega arith)
