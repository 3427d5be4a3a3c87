-- The four clusters, as the store comes to hold them. Assumes nothing.
use Rattle.std.proofs.Common.{◌≡◌, ℕ, ◌+◌, ◌*◌, ◌≤◌, List, length, refl, ap, ◌∙◌, arith}
use Rattle.std.proofs.lemmas.List.{nil_from_length}
use Rattle.byte_lists.specs.Runs.{put, grow, zeros}
use Rattle.byte_lists.specs.Fields.{spelled}
use Rattle.byte_lists.proofs.Runs.{length-zeros, length-put}
use Rattle.byte_lists.proofs.Fields.{length-spelled}
use Rattle.format.specs.declared.numbers.Numbers.{Numbers}
use Rattle.format.specs.Clusters.{cluster}
use Rattle.format.proofs.Clusters.{cluster_least}
use Rattle.store.specs.Calls.{after}
use Rattle.store.specs.Stores.{stored, grown}
use Rattle.store.proofs.Outcomes.{stores, grows}
use Rattle.create.specs.Laid.{laid}
use Rattle.create.specs.Create.{shared_fields, header_fields, table_fields, created}
use Rattle.create.proofs.Laying.{all_laid}
use Rattle.create.proofs.Lists.{shared_ordered, header_ordered, table_ordered, shared_narrow, header_narrow, table_narrow}

grown_from_none : (bs : List ℕ) (n : ℕ) → length bs ≡ 0 → grow bs n ≡ zeros n
unfolding grow
grown_from_none bs n e = ap (λ l. grow l n) (nil_from_length bs e) ∙ ap zeros (omega arith)

module _ (n : Numbers) (name : List ℕ) (fits : n.name + length name ≤ 4 * cluster n) where
  -- the stages of the image
  abbrev pub named : List ℕ
  named = put (zeros (4 * cluster n)) n.name name

  abbrev pub shared : List ℕ
  shared = spelled (shared_fields n) named

  abbrev pub headed : List ℕ
  headed = spelled (header_fields n) shared

  pub length-named : length named ≡ 4 * cluster n
  length-named = length-put (zeros (4 * cluster n)) n.name name (omega (arith, length-zeros (4 * cluster n))) ∙ length-zeros (4 * cluster n)

  pub length_shared : length shared ≡ 4 * cluster n
  length_shared = length-spelled 0 (shared_fields n) named (shared_ordered n (length named) (omega (arith, length-named, cluster_least n.bits))) ∙ length-named

  pub length_headed : length headed ≡ 4 * cluster n
  length_headed = length-spelled 72 (header_fields n) shared (header_ordered n (length shared) (omega (arith, length_shared, cluster_least n.bits))) ∙ length_shared

  pub length-created : length (created n name) ≡ 4 * cluster n
  unfolding created
  length-created = length-spelled (cluster n) (table_fields (cluster n)) headed (table_ordered (cluster n) (length headed) (cluster_least n.bits) (omega (arith, length_headed))) ∙ length_headed

  -- step by step
  pub filled : (bs : List ℕ) (limit : ℕ) → length bs ≡ 0 → 4 * cluster n ≤ limit →
      laid (table_fields (cluster n)) (laid (header_fields n) (laid (shared_fields n) (after (after bs (grown bs limit (4 * cluster n))) (stored (after bs (grown bs limit (4 * cluster n))) n.name name)))) ≡ created n name
  unfolding created
  filled bs limit e h =
      let z = zeros (4 * cluster n) in
      let g : after bs (grown bs limit (4 * cluster n)) ≡ z = ap (after bs) (grows bs limit (4 * cluster n) (grow bs (4 * cluster n)) (omega arith) h refl) ∙ grown_from_none bs (4 * cluster n) e in
      let p : after z (stored z n.name name) ≡ named = ap (after z) (stores z n.name name named (omega (arith, length-zeros (4 * cluster n))) refl) in
      ap (λ l. laid (table_fields (cluster n)) (laid (header_fields n) (laid (shared_fields n) (after l (stored l n.name name))))) g
      ∙ ap (λ l. laid (table_fields (cluster n)) (laid (header_fields n) (laid (shared_fields n) l))) p
      ∙ ap (λ l. laid (table_fields (cluster n)) (laid (header_fields n) l)) (all_laid 0 (shared_fields n) named (shared_narrow n) (shared_ordered n (length named) (omega (arith, length-named, cluster_least n.bits))))
      ∙ ap (laid (table_fields (cluster n))) (all_laid 72 (header_fields n) shared (header_narrow n) (header_ordered n (length shared) (omega (arith, length_shared, cluster_least n.bits))))
      ∙ all_laid (cluster n) (table_fields (cluster n)) headed (table_narrow (cluster n)) (table_ordered (cluster n) (length headed) (cluster_least n.bits) (omega (arith, length_headed)))
