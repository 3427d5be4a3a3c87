use Rattle.std.proofs.Common.{◌≡◌, ℕ, ◌+◌, ◌-◌, ◌<◌, true, false, List, get_or, length, sym, ap, ◌∙◌, arith, rules}
use Rattle.std.proofs.lemmas.Fn.{always_returns_same}
use Rattle.std.proofs.lemmas.Grind.{common_steps}
use Rattle.std.proofs.lemmas.List.{get_or-drop}
use Rattle.std.specs.List.{IsChunkByPrefix, slice_range}
use Rattle.runs.specs.Words.{goes_on}
use Rattle.runs.proofs.run_at.Goals as goal

module _ (ws rest : List ℕ) (start n : ℕ) (cut : rest ≡ slice_range ws start (length ws)) where
  at : (i : ℕ) → get_or rest i 0 ≡ get_or ws (start + i) 0
  at i = grind (arith, common_steps, get_or-drop)

  alike_in : IsChunkByPrefix goes_on rest n → (k : ℕ) → start < k → k < start + n → goes_on (get_or ws (k - 1) 0) (get_or ws k 0) ≡ true
  alike_in h k after before =
      let one : start + (k - 1 - start) ≡ k - 1 = omega arith in
      let two : start + (k - 1 - start + 1) ≡ k = omega arith in
      ap (λ j. goes_on (get_or ws j 0) (get_or ws k 0)) (sym one) ∙ ap (λ j. goes_on (get_or ws (start + (k - 1 - start)) 0) (get_or ws j 0)) (sym two)
      ∙ ap (λ x. goes_on x (get_or ws (start + (k - 1 - start + 1)) 0)) (sym (at (k - 1 - start))) ∙ ap (λ x. goes_on (get_or rest (k - 1 - start) 0) x) (sym (at (k - 1 - start + 1)))
      ∙ h.0 (k - 1 - start) 0 (omega arith)

  most_in : IsChunkByPrefix goes_on rest n → 0 < n → n < length rest → goes_on (get_or ws (start + n - 1) 0) (get_or ws (start + n) 0) ≡ false
  most_in h some more =
      let one : start + (n - 1) ≡ start + n - 1 = omega arith in
      ap (λ j. goes_on (get_or ws j 0) (get_or ws (start + n) 0)) (sym one) ∙ ap (λ x. goes_on x (get_or ws (start + n) 0)) (sym (at (n - 1))) ∙ ap (λ x. goes_on (get_or rest (n - 1) 0) x) (sym (at n))
      ∙ h.1 more 0

pub returns-clause-alike : goal.returns-clause-alike
returns-clause-alike c =
    let p = (c.in_ok-run.ensures.steps.2 goes_on (always_returns_same _ _ _ (λ a r q k. search rules))).1 in
    alike_in c.args.words.now c.chunk_by.result.rest.now c.args.start _ (c.chunk_by.ensures.rest ∙ c.in_ok-rest.ensures.lookup.0.2) p

pub returns-clause-most : goal.returns-clause-most
returns-clause-most c = λ more.
    let p = (c.in_ok-run.ensures.steps.2 goes_on (always_returns_same _ _ _ (λ a r q k. search rules))).1 in
    most_in c.args.words.now c.chunk_by.result.rest.now c.args.start _ (c.chunk_by.ensures.rest ∙ c.in_ok-rest.ensures.lookup.0.2) p c.in_ok-run.ensures.steps.1 (omega (arith, ap length c.chunk_by.ensures.rest, c.in_ok-rest.ensures.lookup.0.3))
