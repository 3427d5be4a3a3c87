use Rattle.std.proofs.Common.{◌≡◌, ◌<◌, ◌^◌, ◌==◌, ◌&&◌, ℕ, Bool, List, Some, None, Ok, Err, Option, Result, true, false, length, cond, nat_lt, ap, sym, ◌∙◌, arith}
use Rattle.std.proofs.lemmas.Grind.{common_steps}
use Rattle.std.proofs.lemmas.Bool.Decides.{nat_tests}
use Rattle.std.proofs.lemmas.Str.Parse.{IsNumeralModel, numerals_by_value, tells_all_ascii_digits}
use Rattle.std.specs.Option.{option_map}
use Rattle.std.specs.Result.{OkIff, result_ok}
use Rattle.std.specs.Str.{all_ascii_digits}
use Rattle.std.specs.Str.Parse.{IsNumeral, digits_value, without_leading_plus}
use Rattle.listing.specs.Spoiled.{heard, number, numeral, said}
use Rattle.listing.proofs.spoiled.heard.Goals as goal

own : IsNumeralModel (λ ds. all_ascii_digits ds ≡ true) (digits_value 10)
own = numerals_by_value _ tells_all_ascii_digits

good : (ds : List ℕ) → 0 < length ds → all_ascii_digits ds ≡ true → digits_value 10 ds < 2 ^ 64 → numeral ds ≡ Some (digits_value 10 ds)
good ds some all small = grind (arith, nat_tests, common_steps)

none : (l : ℕ) (a : Bool) (v : ℕ) → (0 < l → a ≡ true → v < 2 ^ 64 → ⊥) → cond (nat_lt 0 l && a && nat_lt v (2 ^ 64)) (Some v) None ≡ None
none l true v h = grind (arith, nat_tests, common_steps)
none l false v h = grind (arith, nat_tests, common_steps)

parsed : {E : Type 0} (ds : List ℕ) (r : Result ℕ E) → OkIff r (IsNumeral 10 ds × (digits_value 10 ds < 2 ^ 64)) (digits_value 10 ds) → result_ok r ≡ numeral ds
parsed ds (Ok x) h = ap (λ n. Some n) h.1 ∙ sym (good ds h.0.0.0 (own.from ds h.0.0.1) h.0.1)
parsed ds (Err e) h = sym (none (length ds) (all_ascii_digits ds) (digits_value 10 ds) (λ some all small. h ((some, own.to ds all), small)))

-- a line says nothing if no letters are left of it
silent : (l w : List ℕ) → w ≡ said l → (length w == 0) ≡ true → heard l ≡ Some None
unfolding heard
silent l w same empty = ap (λ b. cond b (Some None) (option_map (λ n. Some n) (number (said l)))) (ap (λ v. length v == 0) (sym same) ∙ empty)

-- else it says the number that they spell, or is bad
spoken : (l w : List ℕ) (o : Option ℕ) → w ≡ said l → (length w == 0) ≡ false → o ≡ number w → heard l ≡ option_map (λ n. Some n) o
unfolding heard
spoken l w o same some is =
    ap (λ b. cond b (Some None) (option_map (λ n. Some n) (number (said l)))) (ap (λ v. length v == 0) (sym same) ∙ some)
    ∙ ap (λ v. option_map (λ n. Some n) (number v)) (sym same) ∙ ap (λ v. option_map (λ n. Some n) v) (sym is)

pub returns-then-is_empty : goal.returns-then-is_empty
returns-then-is_empty c = record { value = sym (silent c.args.line.now c.said-word.result.now c.said-word.ensures.value (sym c.is_empty.ensures ∙ c.if-is_empty.true)) }

pub returns-in_err-parse : goal.returns-in_err-parse
returns-in_err-parse c =
    let o = result_ok c.parse.result in
    let e = spoken c.args.line.now c.said-word.result.now o c.said-word.ensures.value (sym c.is_empty.ensures ∙ c.if-is_empty.false) (parsed (without_leading_plus c.said-word.result.now) c.parse.result c.parse.ensures.value.0) in
    grind (arith, common_steps)

pub returns : goal.returns
returns c =
    let o = result_ok c.parse.result in
    let e = spoken c.args.line.now c.said-word.result.now o c.said-word.ensures.value (sym c.is_empty.ensures ∙ c.if-is_empty.false) (parsed (without_leading_plus c.said-word.result.now) c.parse.result c.parse.ensures.value.0) in
    grind (arith, common_steps)
