-- Numbers in hexadecimal, with as many digits as their bytes have. Assumes nothing.
--   last_digits   the last k digits of a number
use Rattle.std.proofs.Common.{◌≡◌, ℕ, zero, suc, ◌+◌, ◌-◌, ◌/◌, ◌%◌, ◌^◌, ◌<◌, ◌≤◌, false, eqb, cond, List, [], ◌∷◌, ◌++◌, length, refl, sym, ap, ◌∙◌, arith, inl, inr, append_assoc, add-zero, add-one, div-one, pow-suc}
use Rattle.std.proofs.Math.ListN.{replicate}
use Rattle.std.proofs.Math.Nat.{div-div-eq-div-mul, pow-succ'}
use Rattle.std.proofs.lemmas.Bool.{cases_lt}
use Rattle.std.proofs.lemmas.Bool.Decides.{nat_tests}
use Rattle.std.proofs.lemmas.Grind.{common_steps}
use Rattle.std.proofs.lemmas.List.{append-nil, replicate_more}
use Rattle.std.specs.Char.{digit_char}
use Rattle.std.specs.Fmt.{char_count, digits, digits_onto, format_spec, padded_integral}
use Rattle.byte_lists.specs.Numbers.{be_bytes}
use Rattle.answer.specs.Records.{hexadecimal}

abbrev pub last_digits : ℕ → ℕ → List ℕ
last_digits zero n = []
last_digits (suc k) n = last_digits k (n / 16) ++ digit_char (n % 16) ∷ []

zeros : (k : ℕ) → last_digits k 0 ≡ replicate k 48
zeros zero = refl
zeros (suc k) = ap (λ l. l ++ 48 ∷ []) (zeros k) ∙ replicate_more k (zero + 48) ∙ ap (λ j. replicate j (zero + 48)) (add-one k)

onto_last : (f n : ℕ) (acc : List ℕ) → n < 16 → digits_onto (suc f) 16 false n acc ≡ digit_char (n % 16) ∷ acc
onto_last f n acc lt = let z : n / 16 ≡ 0 = omega arith in ap (λ q. cond (eqb q 0) (digit_char (n % 16) ∷ acc) (digits_onto f 16 false q (digit_char (n % 16) ∷ acc))) z

onto_more : (f n : ℕ) (acc : List ℕ) → 16 ≤ n → digits_onto (suc f) 16 false n acc ≡ digits_onto f 16 false (n / 16) (digit_char (n % 16) ∷ acc)
onto_more f n acc ge = let some : 0 < n / 16 = omega arith in grind (arith, nat_tests, common_steps)

-- digits with zeros before them, up to k
abbrev filled : ℕ → List ℕ → List ℕ
filled k ds = replicate (k - length ds) 48 ++ ds

more_than_one : (k n : ℕ) → 16 ≤ n → n < 16 ^ suc k → 0 < k
more_than_one zero n ge small = absurd (omega arith)
more_than_one (suc k) n ge small = omega arith

laid : (k f n : ℕ) (acc : List ℕ) → n < 16 ^ k → k ≤ f → 0 < k → filled (k + length acc) (digits_onto f 16 false n acc) ≡ last_digits k n ++ acc
laid zero f n acc small le some = absurd (omega arith)
laid (suc k) zero n acc small le some = absurd (omega arith)
laid (suc k) (suc f) n acc small le some =
    let d = digit_char (n % 16) in
    elim (cases_lt n 16) [
      | inl lt ↦
          let none : n / 16 ≡ 0 = omega arith in
          let left : suc k + length acc - length (d ∷ acc) ≡ k = omega arith in
          ap (filled (suc k + length acc)) (onto_last f n acc lt) ∙ ap (λ j. replicate j 48 ++ d ∷ acc) left ∙ ap (λ l. l ++ d ∷ acc) (sym (zeros k))
          ∙ ap (λ q. last_digits k q ++ d ∷ acc) (sym none) ∙ sym (append_assoc (last_digits k (n / 16)) (d ∷ []) acc)
      | inr ge ↦
          let less : n / 16 < 16 ^ k = omega (arith, pow-suc 16 k) in
          let size : suc k + length acc ≡ k + length (d ∷ acc) = omega arith in
          ap (filled (suc k + length acc)) (onto_more f n acc ge) ∙ ap (λ j. filled j (digits_onto f 16 false (n / 16) (d ∷ acc))) size
          ∙ laid k f (n / 16) (d ∷ acc) less (omega arith) (more_than_one k n ge small) ∙ sym (append_assoc (last_digits k (n / 16)) (d ∷ []) acc)
    ]

padded_as : (k : ℕ) (ds : List ℕ) → padded_integral (format_spec 32 0 4 k (2 ^ 64 - 1)) false [] ds ≡ filled k ds
unfolding padded_integral char_count
padded_as k ds = let same : k - length ds - 0 - 0 ≡ k - length ds = omega arith in rw append-nil (ap (λ j. replicate j 48 ++ ds) same)

padded_digits : (k n : ℕ) → n < 16 ^ k → k ≤ 64 → 0 < k → padded_integral (format_spec 32 0 4 k (2 ^ 64 - 1)) false [] (digits 16 false n) ≡ last_digits k n
unfolding digits
padded_digits k n small le some = padded_as k (digits 16 false n) ∙ ap (λ j. filled j (digits 16 false n)) (sym (add-zero k)) ∙ laid k 64 n [] small le some ∙ append-nil (last_digits k n)

be_bytes_last : (k x : ℕ) → be_bytes (suc k) x ≡ be_bytes k (x / 256) ++ x % 256 ∷ []
unfolding be_bytes
be_bytes_last zero x = rw div-one
be_bytes_last (suc k) x =
    let same : x / 256 ^ suc k ≡ x / 256 / 256 ^ k = ap (λ p. x / p) (pow-succ' 256 k) ∙ sym (div-div-eq-div-mul x 256 (256 ^ k)) in
    ap (λ q. q % 256 ∷ be_bytes (suc k) x) same ∙ ap (λ l. x / 256 / 256 ^ k % 256 ∷ l) (be_bytes_last k x)

hexadecimal-append : (a b : List ℕ) → hexadecimal (a ++ b) ≡ hexadecimal a ++ hexadecimal b
hexadecimal-append [] b = refl
hexadecimal-append (x ∷ a) b = ap (λ l. digit_char (x / 16 % 16) ∷ digit_char (x % 16) ∷ l) (hexadecimal-append a b)

bytes_none : (x : ℕ) → hexadecimal (be_bytes 0 x) ≡ []
unfolding be_bytes
bytes_none x = refl

in_bytes : (k x : ℕ) → hexadecimal (be_bytes k x) ≡ last_digits (k + k) x
in_bytes zero x = bytes_none x
in_bytes (suc k) x =
    let high : x % 256 / 16 % 16 ≡ x / 16 % 16 = omega arith in
    let low : x % 256 % 16 ≡ x % 16 = omega arith in
    let front : x / 256 ≡ x / 16 / 16 = omega arith in
    let two : suc k + suc k ≡ suc (suc (k + k)) = omega arith in
    let rest = last_digits (k + k) (x / 16 / 16) in
    ap hexadecimal (be_bytes_last k x) ∙ hexadecimal-append (be_bytes k (x / 256)) (x % 256 ∷ [])
    ∙ ap (λ l. l ++ digit_char (x % 256 / 16 % 16) ∷ digit_char (x % 256 % 16) ∷ []) (in_bytes k (x / 256))
    ∙ ap (λ q. last_digits (k + k) q ++ digit_char (x % 256 / 16 % 16) ∷ digit_char (x % 256 % 16) ∷ []) front
    ∙ ap (λ q. rest ++ digit_char q ∷ digit_char (x % 256 % 16) ∷ []) high
    ∙ ap (λ q. rest ++ digit_char (x / 16 % 16) ∷ digit_char q ∷ []) low
    ∙ sym (append_assoc rest (digit_char (x / 16 % 16) ∷ []) (digit_char (x % 16) ∷ []))
    ∙ ap (λ j. last_digits j x) (sym two)

-- what `{:016x}` writes of a number of 64 bits
pub number_padded : (n : ℕ) → n < 2 ^ 64 → padded_integral (format_spec 32 0 4 16 (2 ^ 64 - 1)) false [] (digits 16 false n) ≡ hexadecimal (be_bytes 8 n)
number_padded n small = padded_digits 16 n (omega arith) (omega arith) (omega arith) ∙ sym (in_bytes 8 n)

-- what is left still completes what is written to the whole, a piece later
pub a_piece_later : (done piece left rest whole : List ℕ) → piece ++ rest ≡ left → done ++ left ≡ whole → (done ++ piece) ++ rest ≡ whole
a_piece_later done piece left rest whole p e = append_assoc done piece rest ∙ ap (λ l. done ++ l) p ∙ e
