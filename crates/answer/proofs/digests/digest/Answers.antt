use Rattle.std.proofs.Common.{◌≡◌, ◌∙◌, ℕ, List, [], ◌∷◌, refl, fold, rules}
use Rattle.std.proofs.lemmas.Iterator.{YieldsList-from_slice}
use Rattle.std.proofs.lemmas.Iterator.Consumers.{fold_from_yields_List}
use Rattle.answer.specs.Digest.{digest, fnv, mixed}
use Rattle.answer.proofs.digests.digest.Goals as goal

folded : (h : ℕ) (bs : List ℕ) → fold mixed h bs ≡ fnv h bs
folded h [] = refl
folded h (b ∷ bs) = folded (mixed h b) bs

pub returns : goal.returns
unfolding digest
returns c = record { value = fold_from_yields_List _ mixed 0xcbf29ce484222325 _ c.fold.ensures.ran (YieldsList-from_slice c.args.bytes.now cc) (λ a x b q k. search rules) ∙ folded 0xcbf29ce484222325 c.args.bytes.now }
