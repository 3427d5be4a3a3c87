use Rattle.std.proofs.Common.{◌≡◌, ◌+◌, ◌-◌, min, sym, ap, ◌∙◌, arith}
use Rattle.byte_lists.proofs.Numbers.{eight_bytes}
use Rattle.store.specs.Calls.{after}
use Rattle.store.specs.Stores.{stored}
use Rattle.store.proofs.Outcomes.{left_after}
use Rattle.create.proofs.Laying.{last_bytes}
use Rattle.create.proofs.lay_field.Goals as goal

pub returns-clause-bytes : goal.returns-clause-bytes
returns-clause-bytes g c =
    let bs = g.S.Store.bytes c.args.s.now in
    let f = c.args.f in
    let low = 8 - c.min-low.result in
    let sum : low + min f.wide 8 ≡ 8 = omega (arith, c.min-low.ensures) in
    let new = last_bytes c.to_be_bytes-bytes.result f.value low (min f.wide 8) (c.to_be_bytes-bytes.ensures ∙ sym (eight_bytes f.value)) sum in
    left_after c.replace.result _ bs (g.S.Store.bytes c.replace.new.self) c.replace.ensures.outcome ∙ ap (λ l. after bs (stored bs f.at l)) new
