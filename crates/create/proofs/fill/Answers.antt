use Rattle.std.proofs.Common.{◌≡◌, ◌*◌, ap, ◌∙◌}
use Rattle.format.specs.Clusters.{cluster}
use Rattle.store.specs.Calls.{after}
use Rattle.store.specs.Stores.{stored, grown}
use Rattle.store.proofs.Outcomes.{left_after}
use Rattle.create.specs.Laid.{laid}
use Rattle.create.specs.Create.{shared_fields, header_fields, table_fields}
use Rattle.create.proofs.Filling.{filled}
use Rattle.create.proofs.fill.Goals as goal

pub returns-clause-bytes : goal.returns-clause-bytes
returns-clause-bytes g c =
    let bs = g.S.Store.bytes c.args.s.now in
    let limit = g.S.Store.limit c.args.s.now in
    let n = c.args.n in
    let name = c.args.name.now in
    let C = c.cluster_size-c.result in
    let size : C ≡ cluster n = c.cluster_size-c.ensures.value in
    let bs₁ = g.S.Store.bytes c.grow.new.self in
    let bs₂ = g.S.Store.bytes c.replace.new.self in
    let bs₃ = g.S.Store.bytes c.lay.new.s in
    let bs₄ = g.S.Store.bytes c.lay_late.new.s in
    let e₁ : bs₁ ≡ after bs (grown bs limit (4 * cluster n)) = left_after c.grow.result _ bs bs₁ c.grow.ensures.outcome ∙ ap (λ k. after bs (grown bs limit (4 * k))) size in
    let e₂ : bs₂ ≡ after bs₁ (stored bs₁ n.name name) = left_after c.replace.result _ bs₁ bs₂ c.replace.ensures.outcome in
    let e₃ : bs₃ ≡ laid (shared_fields n) bs₂ = c.lay.ensures.bytes ∙ ap (λ l. laid l bs₂) c.shared_list.ensures.value in
    let e₄ : bs₄ ≡ laid (header_fields n) bs₃ = c.lay_late.ensures.bytes in
    let e₅ : g.S.Store.bytes c.lay-2.new.s ≡ laid (table_fields (cluster n)) bs₄ = c.lay-2.ensures.bytes ∙ ap (λ l. laid l bs₄) (c.table_list.ensures.value ∙ ap table_fields size) in
    e₅
    ∙ ap (laid (table_fields (cluster n))) (e₄ ∙ ap (laid (header_fields n)) (e₃ ∙ ap (laid (shared_fields n)) (e₂ ∙ ap (λ l. after l (stored l n.name name)) e₁)))
    ∙ filled n name c.requires.name_bound bs limit c.requires.s_len c.requires.n_bound
