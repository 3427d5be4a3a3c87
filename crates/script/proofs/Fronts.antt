-- Fronts of lists up to limits past their ends. Assumes nothing.
use Rattle.std.proofs.Common.{◌≡◌, ℕ, min, List, length, take, sym, ap, ◌∙◌, inl, inr, arith, length-take}
use Rattle.std.proofs.lemmas.List.{take_all}
use Rattle.std.proofs.lemmas.Bool.{cases_lt}

pub take_held : (xs : List ℕ) (limit n : ℕ) → min (length xs) n ≡ min (length xs) limit → take n xs ≡ take limit xs
take_held xs limit n e = elim (cases_lt n (length xs)) [
  | inl lt ↦ let same : n ≡ limit = omega arith in ap (λ k. take k xs) same
  | inr le ↦ take_all n xs le ∙ sym (take_all limit xs (omega arith))
]

-- what was cut at a limit that held, cut at the limit
pub cut_once : (xs : List ℕ) (limit n : ℕ) → min (length xs) n ≡ min (length xs) limit → take limit (take n xs) ≡ take limit xs
cut_once xs limit n e = ap (take limit) (take_held xs limit n e) ∙ take_all limit (take limit xs) (simp length-take (omega arith))
