use Rattle.std.proofs.Common.{◌-◌, ◌/◌, ◌<◌, length, take, drop, sym, refl, ap, ◌∙◌, subst, arith, rules}
use Rattle.std.proofs.lemmas.Bool.{ltb-true}
use Rattle.fault.specs.Outcomes.{Gives}
use Rattle.fault.proofs.Outcomes.{demand_met}
use Rattle.guest.specs.Shown.{mount_sectors, guest_entry, entry_shows, passed_up}
use Rattle.chain.specs.Chains.{chain_of}
use Rattle.chain.proofs.Chained.{top_entry, stays, passes}
use Rattle.chain.proofs.layers.+read_layers.Goals as goal

pub returns-then-not-goes_under : goal.returns-then-not-goes_under
returns-then-not-goes_under g t c =
    let x = c.top-item.result in
    let n = c.in_ok-n.n in
    let e = c.in_ok-e.e in
    let sector = c.args.sector in
    let bs = g.S.Store.bytes x.store in
    let below = chain_of (λ l. l.header) (λ l. g.S.Store.bytes l.store) (take (length c.args.layers.now - 1) (drop 1 c.args.layers.now)) (g.B.Disk.reading c.args.base.now) in
    let lt : sector < mount_sectors x.header = omega (arith, c.mount_sectors.ensures.value, ltb-true _ _ (demand_met _ _ _ c.in_ok-judge_within.ensures.value)) in
    let found = c.in_ok-e.ensures.value ∙ ap (λ k. guest_entry n bs n.l1 (sector / k)) c.cluster_sectors.ensures.value in
    let shown = top_entry (λ l. l.header) (λ l. g.S.Store.bytes l.store) (g.B.Disk.reading c.args.base.now) c.args.layers.now _ x (omega arith) c.top-item.is refl sector n lt c.in_ok-n.was e found in
    let same = ap (λ r. entry_shows n bs r e sector) c.new.ensures.reading ∙ stays n bs below sector e c.sectors_in.result c.sectors_in.ensures.value c.if-not-goes_under.ensures.value in
    record { outcome = subst (λ o. Gives c.read_entry.result o c.args.out.now c.read_entry.new.out) (same ∙ sym shown) c.read_entry.ensures.outcome }

pub returns : goal.returns
returns g t c =
    let x = c.top-item.result in
    let n = c.in_ok-n.n in
    let e = c.in_ok-e.e in
    let sector = c.args.sector in
    let bs = g.S.Store.bytes x.store in
    let below = chain_of (λ l. l.header) (λ l. g.S.Store.bytes l.store) (take (length c.args.layers.now - 1) (drop 1 c.args.layers.now)) (g.B.Disk.reading c.args.base.now) in
    let lt : sector < mount_sectors x.header = omega (arith, c.mount_sectors.ensures.value, ltb-true _ _ (demand_met _ _ _ c.in_ok-judge_within.ensures.value)) in
    let found = c.in_ok-e.ensures.value ∙ ap (λ k. guest_entry n bs n.l1 (sector / k)) c.cluster_sectors.ensures.value in
    let shown = top_entry (λ l. l.header) (λ l. g.S.Store.bytes l.store) (g.B.Disk.reading c.args.base.now) c.args.layers.now _ x (omega arith) c.top-item.is refl sector n lt c.in_ok-n.was e found in
    let up = passes n bs below sector e c.sectors_in.result c.sectors_in.ensures.value c.if-not-goes_under.ensures.value in
    let given : Gives c.map_err.result (passed_up (below.answer sector)) c.args.out.now c.read_layers.new.out = search rules in
    record { outcome = subst (λ o. Gives c.map_err.result o c.args.out.now c.read_layers.new.out) (sym (shown ∙ up)) given }
