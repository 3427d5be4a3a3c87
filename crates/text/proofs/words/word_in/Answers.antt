use Rattle.std.proofs.Common.{sym, ap, ◌∙◌, rules, tests}
use Rattle.std.proofs.lemmas.Iterator.Consumers.{YieldsList-from_filter, nth_from_yields_List}
use Rattle.std.proofs.lemmas.Iterator.Splits.{YieldsList-from_slice_split}
use Rattle.text.specs.Words.{nth, white}
use Rattle.text.proofs.Parting.{lettered, nth_get, words_split}
use Rattle.text.proofs.words.word_in.Goals as goal

pub returns : goal.returns
returns c =
    let found = nth_from_yields_List c.nth.result _ c.args.n c.nth.ensures.ran (YieldsList-from_filter {s = c.filter.result} _ lettered (YieldsList-from_slice_split _ white c.args.code.now (cc) (cc) (cc) (λ x b q k. search (rules, tests))) c.filter.ensures.closure (λ x b q k. search (rules, tests))) in
    record { value = found ∙ nth_get c.args.n _ ∙ ap (nth c.args.n) (sym (words_split c.args.code.now)) }
