use Rattle.std.proofs.Common.{◌≡◌, ℕ, ◌+◌, ◌/◌, ◌%◌, ◌<◌, List, [], ◌∷◌, ◌++◌, length, get_or, drop, refl, ap, ◌∙◌, sym}
use Rattle.std.proofs.Output.{has_written_append}
use Rattle.std.proofs.lemmas.List.{at_drop_more}
use Rattle.std.specs.Char.{digit_char}
use Rattle.answer.specs.Records.{hexadecimal}
use Rattle.answer.proofs.Digits.{a_piece_later}
use Rattle.answer.proofs.records.HexDisplay.fmt.Goals as goal

next_byte : (bs : List ℕ) (i : ℕ) (a d : List ℕ) → i < length bs → a ≡ digit_char (get_or bs i 0 / 16 % 16) ∷ [] → d ≡ digit_char (get_or bs i 0 % 16) ∷ [] → a ++ (d ++ hexadecimal (drop (i + 1) bs)) ≡ hexadecimal (drop i bs)
next_byte bs i a d lt e f =
    let rest = hexadecimal (drop (i + 1) bs) in
    ap (λ l. l ++ (d ++ rest)) e ∙ ap (λ l. digit_char (get_or bs i 0 / 16 % 16) ∷ (l ++ rest)) f ∙ sym (at_drop_more hexadecimal bs i 0 lt)

pub loop-b-preserved : goal.loop-b-preserved
loop-b-preserved g c = λ plain.
    let now = c.loop-b.invariant plain in
    let bs = c.args.self.now.0.now in
    let i = c.loop-b.b-index in
    let a = c.digit.result.now in
    let d = c.digit-in-loop-b.result.now in
    let one = has_written_append _ _ _ _ _ _ now.1 (c.in_ok-write_str.ensures.writes now.1.plain refl) in
    let left = next_byte bs i a d c.loop-b-test.true c.digit.ensures.value c.digit-in-loop-b.ensures.value in (
      (now.0 ++ a) ++ d,
      has_written_append _ _ _ _ _ _ one (c.in_ok-write_str-2.ensures.writes one.plain refl),
      a_piece_later (now.0 ++ a) d _ _ _ refl (a_piece_later now.0 a _ (d ++ hexadecimal (drop (i + 1) bs)) _ left now.2),
    )
