-- Records seen one by one. Assumes nothing.
use Rattle.std.proofs.Common.{◌≡◌, ℕ, suc, ◌+◌, ◌-◌, ◌<◌, not, List, [], ◌∷◌, ◌++◌, is_some, Ok, Err, Result, sym, ap, ◌∙◌, arith}
use Rattle.fault.specs.declared.Fault.{Fault}
use Rattle.fault.specs.Outcomes.{and_then}
use Rattle.format.specs.declared.numbers.Numbers.{Numbers}
use Rattle.snapshot.specs.declared.records.Snapshot.{Snapshot}
use Rattle.snapshot.specs.Records.{size, id_of, record_in, record_good}
use Rattle.snapshot.specs.All.{position, records_from}

-- one record more of m, seen good, bad in itself, or bad by its id
module _ (n : Numbers) (bs : List ℕ) (m i at : ℕ) (seen : List Snapshot) (lt : i < m) where
  then_rest : Snapshot → Result (List Snapshot) Fault
  then_rest r = and_then (record_good (not (is_some (position (id_of r) seen 0))) r.place) λ _. records_from n bs (m - (i + 1)) (at + size r.head) (seen ++ r ∷ [])

  step_on : records_from n bs (m - i) at seen ≡ and_then (record_in n bs at) then_rest
  unfolding then_rest
  step_on = let e : m - i ≡ suc (m - (i + 1)) = omega arith in ap (λ k. records_from n bs k at seen) e

  pub one_bad : (f : Fault) → Err f ≡ record_in n bs at → records_from n bs (m - i) at seen ≡ Err f
  one_bad f e = step_on ∙ ap (λ x. and_then x then_rest) (sym e)

  module _ (r : Snapshot) (e : Ok r ≡ record_in n bs at) where
    pub one-twice : (f : Fault) → Err f ≡ record_good (not (is_some (position (id_of r) seen 0))) r.place → records_from n bs (m - i) at seen ≡ Err f
    unfolding then_rest
    one-twice f g = step_on ∙ ap (λ x. and_then x then_rest) (sym e) ∙ ap (λ x. and_then x (λ _. records_from n bs (m - (i + 1)) (at + size r.head) (seen ++ r ∷ []))) (sym g)

    pub one_more : (u : Unit {0}) → Ok u ≡ record_good (not (is_some (position (id_of r) seen 0))) r.place → records_from n bs (m - i) at seen ≡ records_from n bs (m - (i + 1)) (at + size r.head) (seen ++ r ∷ [])
    unfolding then_rest
    one_more u g = step_on ∙ ap (λ x. and_then x then_rest) (sym e) ∙ ap (λ x. and_then x (λ _. records_from n bs (m - (i + 1)) (at + size r.head) (seen ++ r ∷ []))) (sym g)
