use Rattle.std.proofs.Common.{◌/◌, length, sym, refl, ◌∙◌, subst}
use Rattle.std.proofs.lemmas.List.{drop_all}
use Rattle.store.proofs.Agreement.{Midway, midway_start, midway_end, alike}
use Rattle.store.proofs.calls.agree.Goals as goal

pub loop-call-init : goal.loop-call-init
loop-call-init g c = (refl, refl, midway_start _ _ _ _ _ _)

pub returns : goal.returns
returns g c =
    let calls = c.args.calls.now in
    let room = length c.args.scratch.now / 2 in
    let la = g.A.Store.limit c.args.a.now in
    let lb = g.B.Store.limit c.args.b.now in
    let a₀ = g.A.Store.bytes c.args.a.now in
    let b₀ = g.B.Store.bytes c.args.b.now in
    let a = g.A.Store.bytes c.loop-call.a in
    let b = g.B.Store.bytes c.loop-call.b in
    let m = subst (λ l. Midway room calls la lb a₀ b₀ l a b c.loop-call.all) (drop_all c.loop-call.call-index calls c.loop-call-test.false) c.loop-call.invariant.2 in
    let d = midway_end room calls la lb a₀ b₀ a b c.loop-call.all m in
    record {
      value = d;
      first = m.first;
      second = m.second;
      alike = λ e l. let same = alike room calls la lb a₀ b₀ e l in (d.1 same.0, m.first ∙ same.1 ∙ sym m.second);
    }
