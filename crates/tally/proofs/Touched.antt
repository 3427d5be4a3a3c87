-- References noted one after another, in parts. Assumes nothing.
use Rattle.std.proofs.Common.{◌≡◌, ℕ, suc, ◌+◌, ◌-◌, ◌<◌, List, [], ◌∷◌, ◌++◌, refl, ap, ◌∙◌, arith}
use Rattle.walk.specs.References.{Ref, gather}
use Rattle.tally.specs.Filling.{Pass, touched, all_touched}

pub touched-append : (pass : Pass) (xs ys : List Ref) (words : List ℕ) → all_touched pass (xs ++ ys) words ≡ all_touched pass ys (all_touched pass xs words)
touched-append pass [] ys words = refl
touched-append pass (x ∷ xs) ys words = touched-append pass xs ys (touched pass x words)

-- lists in a row up to number e: one more
module _ (pass : Pass) (f : ℕ → List Ref) (i e : ℕ) (words : List ℕ) where
  pub gather_more : i < e → all_touched pass (gather f i (e - i)) words ≡ all_touched pass (gather f (i + 1) (e - (i + 1))) (all_touched pass (f i) words)
  gather_more lt =
      let h : e - i ≡ suc (e - (i + 1)) = omega arith in
      ap (λ k. all_touched pass (gather f i k) words) h ∙ touched-append pass (f i) (gather f (i + 1) (e - (i + 1))) words
