use Rattle.std.proofs.Common.{◌≡◌, ℕ, ◌+◌, ◌<◌, List, ◌++◌, length, get_or, drop, refl, ap, ◌∙◌, sym, codes}
use Rattle.std.proofs.Output.{has_written_append}
use Rattle.std.proofs.lemmas.List.{at_drop_more}
use Rattle.byte_lists.specs.Numbers.{be_bytes}
use Rattle.byte_lists.proofs.Numbers.{four_bytes}
use Rattle.answer.specs.Records.{hexadecimal, more_words, words_shown}
use Rattle.answer.proofs.Digits.{a_piece_later}
use Rattle.answer.proofs.records.WordsDisplay.fmt.Goals as goal

next_word : (ws bytes : List ℕ) (i : ℕ) → i < length ws → bytes ≡ be_bytes 4 (get_or ws i 0) → codes "," ++ (hexadecimal bytes ++ more_words (drop (i + 1) ws)) ≡ more_words (drop i ws)
next_word ws bytes i lt e = ap (λ l. codes "," ++ (hexadecimal l ++ more_words (drop (i + 1) ws))) e ∙ sym (at_drop_more more_words ws i 0 lt)

pub loop-w-init : goal.loop-w-init
loop-w-init g c = λ plain.
    let ws = c.in-Some.more.now in
    (hexadecimal c.to_be_bytes.result, c.in_ok-fmt.ensures.writes plain refl, ap (λ l. hexadecimal l ++ more_words ws) (c.to_be_bytes.ensures ∙ sym (four_bytes c.in-Some.first.now)) ∙ sym (ap words_shown c.in-Some.ensures.cases.0))

pub loop-w-preserved : goal.loop-w-preserved
loop-w-preserved g c = λ plain.
    let now = c.loop-w.invariant plain in
    let ws = c.in-Some.more.now in
    let i = c.loop-w.w-index in
    let bytes = c.to_be_bytes-in-loop-w.result in
    let one = has_written_append _ _ _ _ _ _ now.1 (c.in_ok-write_str.ensures.writes now.1.plain refl) in
    let left = next_word ws bytes i c.loop-w-test.true (c.to_be_bytes-in-loop-w.ensures ∙ sym (four_bytes (get_or ws i 0))) in (
      (now.0 ++ codes ",") ++ hexadecimal bytes,
      has_written_append _ _ _ _ _ _ one (c.in_ok-fmt-2.ensures.writes one.plain refl),
      a_piece_later (now.0 ++ codes ",") (hexadecimal bytes) _ _ _ refl (a_piece_later now.0 (codes ",") _ (hexadecimal bytes ++ more_words (drop (i + 1) ws)) _ left now.2),
    )
