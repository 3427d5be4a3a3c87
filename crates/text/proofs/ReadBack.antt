-- What is written in decimal or in pairs of paired digits is read back as it was. Assumes nothing.
--   paired   two digits for each byte
use Rattle.std.proofs.Common.{◌≡◌, ℕ, ◌+◌, ◌*◌, ◌/◌, ◌%◌, ◌^◌, ◌<◌, List, [], ◌∷◌, ◌++◌, Some, None, decimal, Option, unwrap_or, sym, refl, ap, ◌∙◌, arith}
use Rattle.std.proofs.lemmas.Bool.Decides.{nat_tests}
use Rattle.std.proofs.lemmas.Fmt.{decimal_by_steps}
use Rattle.std.proofs.lemmas.Grind.{common_steps}
use Rattle.std.proofs.lemmas.List.{append-nil, append_assoc}
use Rattle.std.specs.Char.{digit_char}
use Rattle.std.specs.Option.{option_to_list}
use Rattle.std.specs.List.{AllByRecursion as All}
use Rattle.text.specs.Values.{opt_then, digit_more, number_on, number, nibble, octet, spelled_on, hex_bytes}
use Rattle.text.specs.declared.values.Form.TheVariants.{Hexadecimal}
use Rattle.text.specs.declared.values.Next.{Next}
use Rattle.text.specs.declared.values.Next.TheVariants.{High}

-- one digit more
digit : (begun : Option ℕ) (m d : ℕ) → unwrap_or begun 0 ≡ m → d < 10 → m * 10 + d < 2 ^ 64 → digit_more begun (48 + d) ≡ Some (m * 10 + d)
digit begun m d e small fits = grind (arith, nat_tests, common_steps)

under : (o : Option ℕ) (f g : ℕ → Option ℕ) (m n : ℕ) → ((k : ℕ) → f k ≡ Some m → g k ≡ Some n) → opt_then o f ≡ Some m → opt_then o g ≡ Some n
under None f g m n each e = cc
under (Some k) f g m n each e = each k e

number_push : (begun : Option ℕ) (ds : List ℕ) (c m n : ℕ) → number_on begun ds ≡ Some m → digit_more (Some m) c ≡ Some n → number_on begun (ds ++ c ∷ []) ≡ Some n
number_push begun [] c m n e f = ap (λ o. opt_then (digit_more o c) (λ k. Some k)) e ∙ ap (λ o. opt_then o (λ k. Some k)) f
number_push begun (d ∷ ds) c m n e f = under (digit_more begun d) (λ k. number_on (Some k) ds) (λ k. number_on (Some k) (ds ++ c ∷ [])) m n (λ k h. number_push (Some k) ds c m n h f) e

pub number_read : (n : ℕ) → n < 2 ^ 64 → number (decimal n) ≡ Some n
number_read n fits =
    decimal_by_steps (λ n ds. n < 2 ^ 64 → number_on None ds ≡ Some n)
    (λ n lt h. let is : 0 * 10 + n ≡ n = omega arith in ap (λ o. opt_then o (λ k. Some k)) (digit None 0 n refl lt (omega arith)) ∙ ap (λ k. Some k) is)
    (λ n ds ge p h. let is : n / 10 * 10 + n % 10 ≡ n = omega arith in number_push None ds (48 + n % 10) (n / 10) n (p (omega arith)) (digit (Some (n / 10)) (n / 10) (n % 10) refl (omega arith) (omega arith) ∙ ap (λ k. Some k) is))
    n fits fits

nibble-read : (d : ℕ) → d < 16 → nibble (digit_char d) ≡ Some d
nibble-read d small = grind (arith, nat_tests, common_steps)

octet-read : (b : ℕ) → b < 256 → octet (digit_char (b / 16 % 16)) (digit_char (b % 16)) ≡ Some b
octet-read b small =
    let h = b / 16 % 16 in
    let l = b % 16 in
    let is : h * 16 + l ≡ b = omega arith in
    ap (λ o. opt_then o (λ x. opt_then (nibble (digit_char l)) λ y. Some (x * 16 + y))) (nibble-read h (omega arith)) ∙ ap (λ o. opt_then o (λ y. Some (h * 16 + y))) (nibble-read l (omega arith)) ∙ ap (λ k. Some k) is

abbrev pub paired : List ℕ → List ℕ
paired [] = []
paired (b ∷ bs) = digit_char (b / 16 % 16) ∷ digit_char (b % 16) ∷ paired bs

bytes_on : (all bs : List ℕ) → All (λ b. b < 256) bs → spelled_on Hexadecimal all High (paired bs) ≡ Some (all ++ bs)
bytes_on all [] o = ap (λ l. Some l) (sym (append-nil all))
bytes_on all (b ∷ bs) o =
    let rest = paired bs in
    let more : Option ℕ → Option (List ℕ) = λ x. opt_then (opt_then {Y = Next × Option ℕ} x (λ y. Some (High, Some y))) (λ t. spelled_on Hexadecimal ((all ++ []) ++ option_to_list t.1) t.0 rest) in
    ap more (octet-read b o.0) ∙ bytes_on ((all ++ []) ++ b ∷ []) bs o.1 ∙ ap (λ l. Some ((l ++ b ∷ []) ++ bs)) (append-nil all) ∙ ap (λ l. Some l) (append_assoc all (b ∷ []) bs)

pub bytes_read : (bs : List ℕ) → All (λ b. b < 256) bs → hex_bytes (paired bs) ≡ Some bs
bytes_read [] o = refl
bytes_read (b ∷ bs) o = bytes_on [] (b ∷ bs) o
