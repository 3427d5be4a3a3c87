-- The numbers of a wish that was granted are good for four clusters. Assumes nothing.
use Rattle.std.proofs.Common.{◌≡◌, ℕ, ◌+◌, ◌*◌, ◌^◌, ◌<◌, ◌≤◌, ◌⊎◌, List, length, Ok, ap, ◌∙◌, mul-div_cancel, arith, rules, tests}
use native.Mathlib.Nat.{mul-mod_left, mod_self}
use Rattle.fault.specs.declared.Reason.TheVariants.{NotQcow2}
use Rattle.fault.specs.Outcomes.{and_then}
use Rattle.format.specs.Clusters.{cluster_of}
use Rattle.format.specs.Header.{good, judged, header, fields}
use Rattle.format.proofs.Clusters.{cluster_least, cluster_most}
use Rattle.create.specs.Create.{wanted, name_place, created}
use Rattle.create.proofs.Wishes.{Granted}
use Rattle.create.proofs.Filling.{length-created}
use Rattle.create.proofs.Judged.{Fitting, created-opens, created-fields}

module _ (v b size letters len limit : ℕ) (g : Granted (wanted v b size letters) len limit) where
  judged_fine : judged (wanted v b size letters) (4 * cluster_of b) ≡ Ok (wanted v b size letters)
  judged_fine =
      let c = cluster_of b in
      let least = cluster_least b in
      search (rules, tests, least, mul-mod_left 4 c, mul-mod_left 3 c, mod_self c, mul-div_cancel 4 {n = c} (omega (arith, least)))

  fitting : v < 2 ^ 32 → size < 2 ^ 64 → Fitting (wanted v b size letters)
  fitting small large = search (rules, tests, cluster_most b)

  -- what create made is judged good, with exactly the numbers asked for
  pub created-good : (name : List ℕ) → length name ≡ letters → v < 2 ^ 32 → size < 2 ^ 64 → header (created (wanted v b size letters) name) ≡ Ok (wanted v b size letters)
  created-good name e small large =
      let w = wanted v b size letters in
      let inside : name_place v letters + length name ≤ 4 * cluster_of b = search (rules, tests) in
      let kind : (v ≡ 2) ⊎ (v ≡ 3) = search (rules, tests) in
      let same : fields (created w name) ≡ w = created-fields w name inside (fitting small large) kind (λ two. search (rules, tests)) in
      ap (λ t. and_then (good t NotQcow2 0) (λ _. judged (fields (created w name)) (length (created w name)))) (created-opens w name inside)
      ∙ ap (λ m. judged m (length (created w name))) same
      ∙ ap (judged w) (length-created w name inside)
      ∙ judged_fine
