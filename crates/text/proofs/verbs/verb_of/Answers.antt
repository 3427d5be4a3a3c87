use Rattle.std.proofs.Common.{◌≡◌, List, [], ◌∷◌, Option, Some, None, ℕ, cond, refl, ap, sym, ◌∙◌, rules, tests}
use Rattle.std.proofs.lemmas.Iterator.{YieldsList-from_slice}
use Rattle.std.proofs.lemmas.Iterator.Consumers.{YieldsList-from_copied}
use Rattle.std.proofs.lemmas.Iterator.Search.{find_from_yields_List}
use Rattle.std.specs.List.{find}
use Rattle.std.specs.Option.{option_map}
use Rattle.text.specs.Verbs.{all_verbs, begins, verb_in}
use Rattle.text.specs.declared.verbs.Verb.{Verb}
use Rattle.text.proofs.verbs.verb_of.Goals as goal

found : (vs : List Verb) (name : List ℕ) → find (λ v. begins v name) vs ≡ verb_in vs name
found [] name = refl
found (v ∷ vs) name = ap (λ o. cond (begins v name) (Some v) o) (found vs name)

itself : (o : Option Verb) → option_map (λ v. v) o ≡ o
itself None = refl
itself (Some v) = refl

pub returns : goal.returns
returns c = record { value = sym (itself c.find.result) ∙ find_from_yields_List (λ v. begins v c.args.name.now) _ _ c.find.result c.find.ensures.ran (YieldsList-from_copied (YieldsList-from_slice all_verbs cc)) (λ x b q k. search (rules, tests)) ∙ found all_verbs c.args.name.now }
