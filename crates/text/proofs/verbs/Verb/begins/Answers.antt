use Rattle.std.proofs.Common.{◌≡◌, ℕ, Bor, List, Option, Some, None, eqb, refl, ap, ◌∙◌}
use Rattle.std.proofs.lemmas.Slice.Eq.{slice_eq-Decides, bytes_eq-Decides}
use Rattle.std.proofs.lemmas.Bool.Decides.{same_from_decides, Decides-eqb}
use Rattle.std.specs.Option.{option_eq, option_map}
use Rattle.std.specs.Str.{bytes_eq}
use lib.Pointwise.{pointwise}
use Rattle.text.specs.Words.{words, nth}
use Rattle.text.specs.Verbs.{is_word, begins}
use Rattle.text.proofs.verbs.Verb.begins.Goals as goal

same_word : (o : Option (Bor (List ℕ))) (name : Bor (List ℕ)) → option_eq (λ x y. pointwise eqb x.now y.now) o (Some name) ≡ is_word (option_map (λ x. x.now) o) name.now
same_word None name = refl
same_word (Some w) name = same_from_decides _ (bytes_eq w.now name.now) (slice_eq-Decides Decides-eqb w.now name.now _ refl) (bytes_eq-Decides w.now name.now)

pub returns : goal.returns
unfolding begins
returns c =
    let first = c.word.ensures.value ∙ ap (λ l. nth 0 (words l)) (c.as_bytes.ensures.value ∙ c.usage.ensures.value) in
    record { value = c.eq.ensures ∙ same_word c.word.result c.args.name ∙ ap (λ o. is_word o c.args.name.now) first }
